-- What is true of every limit (this project's profile). Speeds are metres per hour.
use Rattle.std.specs.Prelude.{◌≡◌, ◌≤◌, true, [], ◌∷◌}
use Rattle.driver.specs.declared.datum.Datum.TheVariants.{Valid}
use Rattle.driver.specs.Limits.{Train}
use Rattle.mode_table.specs.declared.mode.Mode.TheVariants.{FullSupervision, OnSight, StaffResponsible, Unfitted}
use Rattle.mode_table.specs.Modes.{is_one_of}
use Rattle.mode_control.specs.History.{mode_of}
use Rattle.mode_control.specs.Life.{Life, driver_of}
use Rattle.speed_supervision.specs.Limit.{limit}

-- where the train data are valid, no limit is above the train's maximum in Full Supervision, On Sight, Staff
-- Responsible and Unfitted
abbrev pub IsWithinMaximum : Type 0
IsWithinMaximum =
    (life : Life) (train : Train) → (driver_of life).train_data ≡ Valid train →
    is_one_of (FullSupervision ∷ OnSight ∷ StaffResponsible ∷ Unfitted ∷ []) (mode_of life.entries) ≡ true →
    limit life ≤ train.maximum
