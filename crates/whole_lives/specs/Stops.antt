-- Where a life stops, and why (this project's profile). Lists of events have the newest first; lists of steps and of
-- releases have the oldest first. Steps are numbered from 0 on, blocks from 1 on. Moments of the clock are in
-- milliseconds; moments of a disk are those of the disk's clock.

-- Taken for granted: nothing of the disk, but in the last part ("what was carried out"), which the clauses say of an
-- honest one.
use Rattle.std.specs.Prelude.{◌≡◌, ◌⊎◌, ℕ, ◌<◌, IsTrue, List, [], ◌∷◌, ◌++◌, length, take, fold, Option, Some, None, Result, Ok, Err, IfErr, MatchOption}
use Rattle.disk.specs.State.{State, contents_of, EachImage, AtEachMoment}
use Rattle.events.specs.declared.input.Event.{Event}
use Rattle.events.specs.declared.step.Step.{Step}
use Rattle.events.specs.declared.step.Step.TheVariants.{Accept, Flush}
use Rattle.onboard.specs.declared.errors.AcceptError.TheVariants as an_accept
use Rattle.onboard.specs.declared.errors.FlushError.TheVariants as a_flush
use Rattle.whole_lives.specs.declared.errors.LiveError.{LiveError}
use Rattle.whole_lives.specs.declared.errors.LiveError.TheVariants as a_live
use Rattle.unit_start.specs.declared.errors.OpenError.{OpenError}
use Rattle.onboard.specs.Answers.{refusal_of, flush_refusal, may_add}
use Rattle.whole_lives.specs.Answers.{is_full}
use Rattle.onboard.specs.declared.released.Released.{Released}
use Rattle.unit_start.specs.Events.{pairs_of}
use Rattle.mode_table.specs.declared.statuses.Cold.{Cold}
use Rattle.onboard.specs.Progress.{Progress, starting_with, go_on}
use Rattle.unit_start.specs.Lives.{Describes, IsOpenRefusal, IsOfOpening, IsNextNumber}
use Rattle.whole_lives.specs.Runs.{accepted_by, durable_by, NothingReleased}

-- ---- why a step is refused

-- the step has no cause to be refused, but for memory and the device
abbrev pub Stands : Progress → Step → Type 0
Stands so (Accept input) = refusal_of so.failed so.pending so.moment input ≡ None
Stands so Flush = flush_refusal so.failed so.pending so.newest ≡ None

-- so has none of these steps, after those before it
abbrev pub AllStand : Progress → List Step → Type 0
AllStand so [] = Unit {0}
AllStand so (step ∷ steps) = Stands so step × AllStand (go_on so step) steps

-- A life stops at this step, the one of this number, with this error: just that of the first cause which the step has.
-- Where it has none, an input that may add to what is stored wants memory, and a flush of what is pending met a fault
-- of the device. A flush may also want space for what it releases.
abbrev pub StopsAt : Progress → ℕ → Step → LiveError → Type 0
StopsAt so number (Accept input) error = MatchOption (refusal_of so.failed so.pending so.moment input)
    (IsTrue (may_add input) × (error ≡ a_live.Accept number an_accept.NoMemory)) (λ cause. error ≡ a_live.Accept number cause)
StopsAt so number Flush error = (error ≡ a_live.NoMemory number) ⊎ MatchOption (flush_refusal so.failed so.pending so.newest)
    ((0 < so.pending) × (error ≡ a_live.Flush number a_flush.DeviceFault)) (λ cause. error ≡ a_live.Flush number cause)

-- Steps were carried out up to one that wasn't; all lists have the first step first.
pub record Stopped (from : Progress) (steps : List Step) (error : LiveError) : Type 0 where
  -- the steps that were carried out
  pub first : List Step
  -- the step that wasn't
  pub step : Step
  -- the steps after it
  pub rest : List Step
  -- these are all steps
  pub steps_are : steps ≡ first ++ step ∷ rest
  -- none of those that were carried out had a cause to be refused
  pub stood : AllStand from first
  -- the error has the number of the step that wasn't, and is that of its cause
  pub cause : StopsAt (fold go_on from first) (length first) step error

-- how a run of steps ends: no step has a cause to be refused, or it stopped
abbrev pub StepsEnd : {T : Type 0} → Progress → List Step → Result T LiveError → Type 0
StepsEnd from steps (Ok x) = AllStand from steps
StepsEnd from steps (Err error) = Stopped from steps error

-- ---- how a life ends

-- it wasn't opened, on an honest disk for the cause of this refusal
abbrev pub IsUnopened : {T : Type 0} → State → Result T LiveError → Type 0
IsUnopened old ended = (error : OpenError) × (ended ≡ Err (a_live.Open error)) × (IsTrue old.honest → IsOpenRefusal old.sectors (contents_of old) error)

-- It wasn't opened; or the power-up came into the next block, and the steps ended so.
abbrev pub LifeEnds : {T : Type 0} → State → List Step → Result T LiveError → Type 0
LifeEnds old steps ended = IsUnopened old ended
    ⊎ ((newest : ℕ) × (IsTrue old.honest → IsNextNumber old.sectors (contents_of old) newest) × StepsEnd (starting_with newest) steps ended)

-- ---- what was carried out

-- the number of the step that an error names
abbrev pub step_of : LiveError → Option ℕ
step_of (a_live.Open error) = None
step_of (a_live.Accept number error) = Some number
step_of (a_live.Flush number error) = Some number
step_of (a_live.NoMemory number) = Some number

-- after these steps this is durable at the end, that accepted, and just the outputs of what is durable after
-- `initial` were released
abbrev pub AreAfter : List Event → List Step → List Event → List Event → List Released → Type 0
AreAfter initial steps durable_at_end accepted_at_end released =
    (durable_at_end ≡ durable_by initial steps) × (accepted_at_end ≡ accepted_by initial steps) × (pairs_of durable_at_end ≡ pairs_of initial ++ released)

-- no more than an opening: at each moment the image represents `durable`, `accepted`, or `found` with the power-up
abbrev pub OnlyOpens : ℕ → List Event → List Event → List Event → Cold → State → State → Type 0
OnlyOpens whole_from durable accepted found power_up_cold old new = AtEachMoment old new (IsOfOpening whole_from old.sectors durable accepted found power_up_cold)

-- All steps were carried out, or those before the one that the error names, and so many were taken. Where it names
-- none, nothing was released, and this is so of what was never opened.
abbrev pub IsDone : {T : Type 0} → List Event → List Step → Type 0 → Result T LiveError → ℕ → List Event → List Event → List Released → Type 0
IsDone initial steps unopened (Ok x) steps_taken durable_at_end accepted_at_end released =
    (steps_taken ≡ length steps) × AreAfter initial steps durable_at_end accepted_at_end released
IsDone initial steps unopened (Err error) steps_taken durable_at_end accepted_at_end released =
    MatchOption (step_of error) (NothingReleased released × unopened)
    (λ number. (steps_taken ≡ number) × AreAfter initial (take number steps) durable_at_end accepted_at_end released)

-- A flush that found no space for its releases did nothing: at each moment the image is one that the steps before it
-- leave, and at the end it represents just what these made durable.
abbrev pub IsUnflushed : {T : Type 0} → ℕ → (List Step → (ℕ → List ℕ) → Type 0) → List Step → Result T LiveError → List Event → State → State → Type 0
IsUnflushed whole_from Leave steps ended durable_at_end old new = IfErr ended (λ error. IsTrue (is_full error) → (number : ℕ) → step_of error ≡ Some number
    → AtEachMoment old new (Leave (take number steps)) × EachImage new (Describes whole_from old.sectors durable_at_end))
