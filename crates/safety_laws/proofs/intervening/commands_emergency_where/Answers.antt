use Rattle.std.proofs.Common.{◌≡◌, ◌+◌, true}
use Rattle.std.proofs.lemmas.Bool.{cond-true, lt-ltb}
use Rattle.events.specs.declared.output.Brake.TheVariants as brake
use Rattle.mode_table.specs.declared.mode.Mode.TheVariants.{Trip, SystemFailure}
use Rattle.mode_control.specs.Life.{Life}
use Rattle.mode_control.specs.Sentences.{values_of}
use Rattle.speed_supervision.specs.Limit.{limit}
use Rattle.kernel.specs.Brake.{train_stood, is_above_limit_by, rolled_backward, has_started, is_in, is_not_revalidated, owes_trip, has_rolled_too_far, brake_of}
use Rattle.kernel.specs.Lives.{life_of}
use Rattle.safety_laws.specs.Brakes.{since_standstill, speed_at}
use Rattle.safety_laws.proofs.Commanding.{or_before, any_of, starting_now}
use Rattle.safety_laws.proofs.intervening.commands_emergency_where.Goals as goal

-- the fifth row holds, or the sixth
by_fifth : (life : Life) → has_started (is_above_limit_by 10_000) train_stood life ≡ true → brake_of life ≡ brake.Emergency
by_fifth life holds =
    or_before (is_not_revalidated life) _ (or_before (is_in Trip life) _ (or_before (is_in SystemFailure life) _ (or_before (owes_trip life) _
    (cond-true (has_started (is_above_limit_by 10_000) train_stood life) brake.Emergency _ holds))))

by_sixth : (life : Life) → has_rolled_too_far life ≡ true → brake_of life ≡ brake.Emergency
by_sixth life holds =
    or_before (is_not_revalidated life) _ (or_before (is_in Trip life) _ (or_before (is_in SystemFailure life) _ (or_before (owes_trip life) _
    (or_before (has_started (is_above_limit_by 10_000) train_stood life) _ (cond-true (has_rolled_too_far life) brake.Emergency _ holds)))))

pub returns-clause-too_fast : goal.returns-clause-too_fast
returns-clause-too_fast c events snapshot there fast =
    let life = life_of events in
    by_fifth life (any_of (is_above_limit_by 10_000) (since_standstill life) snapshot there (lt-ltb (limit snapshot.life + 10_000) (speed_at snapshot) fast))

pub returns-clause-now : goal.returns-clause-now
returns-clause-now c events fast = let life = life_of events in by_fifth life (starting_now 10_000 train_stood life life.entries fast)

pub returns-clause-rolling : goal.returns-clause-rolling
returns-clause-rolling c events far =
    let life = life_of events in by_sixth life (lt-ltb (values_of life).roll (rolled_backward life) far)
