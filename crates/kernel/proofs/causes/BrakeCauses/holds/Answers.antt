use Rattle.std.proofs.Common.{ℕ, false, slice_index_or, sym, ap, ◌∙◌}
use Rattle.kernel.proofs.Marking.{mark_so}
use Rattle.kernel.proofs.causes.BrakeCauses.holds.Goals as goal

pub returns : goal.returns
returns c =
    ap (λ (place : ℕ). slice_index_or c.args.self.now.marks place false) c.place.ensures ∙ sym (mark_so c.args.self.now c.args.cause)
