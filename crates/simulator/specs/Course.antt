-- The course of a simulated life: its steps, by what was asked so far (this project's profile). Places and distances
-- are centimetres, speeds metres per hour.
use Rattle.std.specs.Prelude.{ℕ, zero, suc, ◌+◌, ◌/◌, ◌%◌, ◌==◌, ℤ, pos, ◌+ℤ◌, ◌-ℤ◌, int_lt, if◌then◌else◌, List, [], ◌∷◌, ◌++◌}
use Rattle.events.specs.Limits.{most_pending}
use Rattle.events.specs.declared.input.Input.{Input}
use Rattle.events.specs.declared.input.Input.TheVariants.{Telegram, Odometer}
use Rattle.events.specs.declared.step.Step.{Step}
use Rattle.events.specs.declared.step.Step.TheVariants.{Accept, Flush}
use Rattle.simulator.specs.Numbers.{natural}
use Rattle.simulator.specs.declared.balise.Balise.{Balise}
use Rattle.simulator.specs.declared.step_kinds.StepKind.{StepKind}
use Rattle.simulator.specs.declared.step_kinds.StepKind.TheVariants as a_step_kind
use Rattle.simulator.specs.declared.driving.Course.{Course}

-- where the front is, how many events are pending, and the steps so far
pub record Run : Type 0 where
  pub front : ℤ
  pub pending : ℕ
  pub steps : List Step

abbrev pub run_of : Course → Run
run_of c = record { front = c.front; pending = c.pending; steps = c.steps.items }

abbrev pub start : Run
start = record { front = pos 0; pending = 0; steps = [] }

-- ---- events and flushes

abbrev pub flushed : Run → Run
flushed r = record { front = r.front; pending = 0; steps = r.steps ++ Flush ∷ [] }

-- space for one more event
abbrev pub has_space_left : Run → Run
has_space_left r = if r.pending == most_pending then flushed r else r

abbrev pub added : Input → Run → Run
added i r = record { front = r.front; pending = r.pending + 1; steps = r.steps ++ Accept i ∷ [] }

-- one more event
abbrev pub accepted : Input → Run → Run
accepted i r = added i (has_space_left r)

-- the end: a flush where something is pending
abbrev pub ended : Run → Run
ended r = if r.pending == 0 then r else flushed r

-- ---- drives

abbrev pub reading : ℤ → ℕ → Input
reading movement speed = Odometer (record { movement = movement; speed = speed })

-- so many readings of 10,000 cm
unfoldable pub full_readings : ℕ → ℕ → Run → Run
full_readings zero speed r = r
full_readings (suc n) speed r = accepted (reading (pos 10_000) speed) (full_readings n speed r)

-- the reading of a rest, where there is one
abbrev pub rest_reading : ℕ → ℕ → Run → Run
rest_reading n speed r = if n == 0 then r else accepted (reading (pos n) speed) r

-- readings of at most 10,000 cm, over so many centimetres
abbrev pub readings : ℕ → ℕ → Run → Run
readings n speed r = rest_reading (n % 10_000) speed (full_readings (n / 10_000) speed r)

abbrev pub at_front : ℤ → Run → Run
at_front place r = record { front = place; pending = r.pending; steps = r.steps }

-- forward to a place
abbrev pub driven_to : ℤ → ℕ → Run → Run
driven_to place speed r = at_front place (readings (natural (place -ℤ r.front)) speed r)

-- forward to a balise, whose telegram is read
abbrev pub driven_over : ℕ → Balise → Run → Run
driven_over speed b r = accepted (Telegram b.bytes) (driven_to (pos b.at) speed r)

abbrev pub driven_over_all : ℕ → List Balise → Run → Run
driven_over_all speed [] r = r
driven_over_all speed (b ∷ bs) r = driven_over_all speed bs (driven_over speed b r)

-- forward over the balises ahead, or one reading
abbrev pub driven : (ℤ → ℕ → List Balise) → ℤ → ℕ → Run → Run
driven ahead cm speed r =
    if int_lt (pos 0) cm then driven_to (r.front +ℤ cm) speed (driven_over_all speed (ahead r.front (natural cm)) r)
    else at_front (r.front +ℤ cm) (accepted (reading cm speed) r)

-- ---- a life

-- what becomes of a step that is asked for, where `ahead` reports the balises that a way leads over
abbrev pub taken : (ℤ → ℕ → List Balise) → StepKind → Run → Run
taken ahead (a_step_kind.Drive cm speed) r = driven ahead cm speed r
taken ahead (a_step_kind.Happens i) r = accepted i r
taken ahead a_step_kind.Flush r = flushed r
