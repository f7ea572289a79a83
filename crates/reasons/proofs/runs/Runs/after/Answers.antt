use Rattle.std.proofs.Common.{◌≡◌, ℕ, List, sym, subst, ◌∙◌}
use Rattle.events.specs.declared.input.Event.{Event}
use Rattle.kernel.specs.declared.causes.BrakeCause.{BrakeCause}
use Rattle.kernel.specs.Causes.{marked}
use Rattle.kernel.specs.Lives.{Story, onward}
use Rattle.reasons.specs.declared.runs.Runs.{Runs}
use Rattle.reasons.specs.Runs.{number_after, later_causes, runs_of, runs_held}
use Rattle.reasons.proofs.runs.Runs.after.Goals as goal

abbrev Afterwards : Runs → List BrakeCause → ℕ → Runs → Story → Event → Type 0
Afterwards before held number result story event =
    before ≡ runs_of story → held ≡ later_causes (onward story event) → number ≡ number_after story → result ≡ runs_of (onward story event)

pub returns-in-PowerUp : goal.returns-in-PowerUp
returns-in-PowerUp c = λ story.
    subst (Afterwards c.args.self.now (marked c.args.causes.now) c.args.number c.initial.result story) (sym c.in-PowerUp.is)
    (λ before held number. c.initial.ensures story c.in-PowerUp.field-0 held number)

pub returns-in-Input : goal.returns-in-Input
returns-in-Input c = λ story.
    subst (Afterwards c.args.self.now (marked c.args.causes.now) c.args.number c.held.result story) (sym c.in-Input.is)
    (λ before held number. c.held.ensures ∙ (λ i. runs_held (before i) (held i) (number i)))
