use Rattle.std.proofs.Common.{Some, map, option_map, sym, ap, ◌∙◌}
use Rattle.serde_json.specs.View.{view}
use Rattle.simulator.specs.Shapes.{list_of}
use Rattle.simulator.proofs.Lists.{list_of-items_view}
use Rattle.simulator.proofs.shapes.items_of.Goals as goal

pub returns-in-Some : goal.returns-in-Some
returns-in-Some c =
    ap (λ vs. Some (map view vs)) c.as_slice.ensures.value ∙ ap Some (sym (list_of-items_view _)) ∙ ap (option_map list_of) c.in-Some.ensures
