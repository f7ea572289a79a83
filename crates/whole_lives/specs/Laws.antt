-- What follows from the contracts and from the laws of the crates below (this project's profile).
use Rattle.std.specs.Prelude.{◌≡◌, ℕ, ◌%◌, ◌<◌, ◌≤◌, List, [], ◌∷◌}
use Rattle.disk.specs.State.{State, contents_of, IsSynced}
use Rattle.driver.specs.Data.{is_valid}
use Rattle.driver.specs.Laws.{IsRevalidated}
use Rattle.events.specs.declared.input.Event.{Event}
use Rattle.events.specs.declared.input.Event.TheVariants.{PowerUp}
use Rattle.events.specs.declared.output.Brake.TheVariants.{Emergency}
use Rattle.kernel.specs.Lives.{life_of, kept_by}
use Rattle.kernel.specs.Output.{output_after}
use Rattle.events.specs.declared.step.Step.{Step}
use Rattle.mode_table.specs.declared.statuses.Cold.{Cold}
use Rattle.blocks.specs.FirstSector.{sectors_of}
use Rattle.unit_start.specs.Events.{account_of, pair_of}
use Rattle.unit_start.specs.Lives.{Describes, IsReady}
use Rattle.whole_lives.specs.Runs.{accepted_by}
use Rattle.ring.specs.Account.{Account, DescribesNothing}
use Rattle.ring.specs.Endless.{IsEndless}
use Rattle.ring.specs.Scans.{IsNewest, IsScanned}
use Rattle.ring.specs.Slots.{valid_at, IsFormatted, IsAtRest}
use Rattle.mode_control.specs.History.{deeds}
use Rattle.mode_control.specs.Life.{left_at_power_up}

-- Nothing but what is kept crosses a power-up: after two lists of which the same is kept, and the same cold movement
-- value, the same steps are answered by the same output.
abbrev pub ForgetsAcross : Type 0
ForgetsAcross = (one other : List Event) (power_up_cold : Cold) (steps : List Step) → kept_by one ≡ kept_by other →
    output_after (accepted_by (PowerUp power_up_cold ∷ one) steps) ≡ output_after (accepted_by (PowerUp power_up_cold ∷ other) steps)

-- What is released of an event while the driver hasn't revalidated since the power-up commands the emergency brake.
abbrev pub ReleasesBrake : Type 0
ReleasesBrake = (events : List Event) (event : Event) →
    (let life = life_of (event ∷ events) in IsRevalidated (is_valid (left_at_power_up life).level) (deeds life.entries) → ⊥) →
    (pair_of events event).output.brake ≡ Emergency

-- Each image that represents a list, as each image at each moment of an opening, a flush or a life does, holds from its
-- first whole block on one unbroken run of blocks up to the greatest number, at least all slots but one, whose records
-- are the last ones of the list, none skipped.
abbrev pub ImagesAreEndless : Type 0
ImagesAreEndless = (whole_from sectors slots first newest : ℕ) (events : List Event) (image : ℕ → List ℕ) → 2 ≤ slots → sectors ≡ sectors_of slots
    → Describes whole_from sectors events image → IsScanned slots (valid_at slots image) first newest → IsEndless slots (valid_at slots image) first newest (account_of whole_from events)

-- Whatever happens to other slots of an image that represents a list, the disk that holds what is left is ready for a
-- life on the same list, whole from its newest block on: as long as the slot of that block stays valid as it was, and
-- no slot reports a greater number.
abbrev pub OutlivesDamage : Type 0
OutlivesDamage = (whole_from slots newest : ℕ) (events : List Event) (image : ℕ → List ℕ) (disk : State) → 2 ≤ slots → 0 < newest
    → Describes whole_from disk.sectors events image → IsNewest slots (valid_at slots image) newest
    → IsFormatted disk.sectors slots (contents_of disk 0) → IsSynced disk → IsNewest slots (valid_at slots (contents_of disk)) newest
    → valid_at slots (contents_of disk) (newest % slots) ≡ valid_at slots image (newest % slots) → IsReady newest events events disk

-- A disk that was formatted, as `journal::format` promises it, is ready for a first life.
abbrev pub FormattedIsReady : Type 0
FormattedIsReady = (slots : ℕ) (disk : State) → ((reported : Account) → DescribesNothing reported → IsAtRest slots 0 reported disk) → IsReady 0 [] [] disk
