use Rattle.std.proofs.Common.{rules, tests, ◌&&◌}
use Rattle.std.proofs.lemmas.Iterator.{YieldsList-from_slice}
use Rattle.std.proofs.lemmas.Iterator.Search.{any_from_yields_List}
use Rattle.areas.specs.Areas.{is_mode, remains}
use Rattle.areas.proofs.areas.Areas.remains.Goals as goal

pub returns : goal.returns
returns c =
    any_from_yields_List (λ area. is_mode area.mode c.args.mode && remains c.args.min_front area) _ _ _ c.any.ensures.ran (YieldsList-from_slice c.args.self.now cc) (λ x b q k. search (rules, tests))
