use Rattle.std.proofs.Common.{◌≡◌, ℕ, Bool, true, false, None, ap, arith, refl}
use Rattle.events.specs.declared.input.Event.TheVariants.{PowerUp}
use Rattle.events.specs.declared.kept.Kept.{Kept}
use Rattle.kernel.specs.declared.causes.BrakeCause.TheVariants as cause
use Rattle.kernel.specs.Causes.{is_among}
use Rattle.kernel.specs.Lives.{onward, past_at}
use Rattle.reasons.specs.Runs.{number_after, later_causes}
use Rattle.reasons.specs.Trips.{trip_held}
use Rattle.reasons.proofs.Numbers.{one_more_after}
use Rattle.reasons.proofs.reasoning.Reasoning.begin.Goals as goal

-- where no trip was entered and none was known
none_held : (owes : Bool) (number : ℕ) → None ≡ trip_held owes None None number
none_held true number = refl
none_held false number = refl

pub returns-clause-stands : goal.returns-clause-stands
returns-clause-stands c = λ story left.
    let initial = onward story (PowerUp c.args.cold) in
    let knows = c.power_up-state.ensures.initial (past_at story) left in
    let number : c.args.kept.now.events ≡ number_after story = ap (λ (k : Kept). k.events) left in
    record {
      knows = knows;
      numbered = omega (arith, number, one_more_after story (PowerUp c.args.cold));
      runs_are = c.initial-runs.ensures story c.args.cold (c.causes_in-causes.ensures (past_at initial).life knows.life_is) number;
      trip_is = none_held (is_among cause.OwesTrip (later_causes initial)) (number_after story);
      groups_are = record { mode_is = refl; closings_are = refl };
    }

pub returns-clause-output : goal.returns-clause-output
returns-clause-output c = λ story left. c.power_up-state.ensures.answer (past_at story) left
