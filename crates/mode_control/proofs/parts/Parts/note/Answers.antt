use Rattle.std.proofs.Common.{Option, None, ap, sym, ◌∙◌}
use Rattle.mode_control.specs.declared.deed.Deed.{Deed}
use Rattle.mode_control.specs.Entry.{initial}
use Rattle.mode_control.specs.Life.{grown}
use Rattle.mode_control.specs.StandsFor.{parts_of}
use Rattle.mode_control.proofs.parts.Parts.note.Goals as goal

pub returns-in-Some-clause-stands : goal.returns-in-Some-clause-stands
returns-in-Some-clause-stands c life reported s =
    c.act.ensures life reported s ∙ ap (λ (d : Option Deed). parts_of (grown life (initial (record reported { entered = None }) d))) (sym c.in-Some.is)
