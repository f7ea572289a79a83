-- What decides a limit, by the mode (SUBSET-026, 3.11 to 3.13 and 4.4; which of those of equal force is named: this
-- project's profile). Places are centimetres, speeds metres per hour; lists of entries have the newest first.
use Rattle.std.specs.Prelude.{◌≡◌, ℕ, true}
use Rattle.driver.specs.declared.datum.Datum.{Datum}
use Rattle.driver.specs.declared.datum.Datum.TheVariants.{Unknown, Valid, Invalid}
use Rattle.driver.specs.Limits.{Train}
use Rattle.mode_table.specs.declared.mode.Mode.{Mode}
use Rattle.mode_table.specs.declared.mode.Mode.TheVariants.{FullSupervision, OnSight, StaffResponsible, Shunting, Unfitted, StandBy, Trip, PostTrip, SystemFailure}
use Rattle.track_store.specs.declared.restriction.Restriction.{Restriction}
use Rattle.track_picture.specs.History.{restrictions_of, gradients_of}
use Rattle.mode_control.specs.Conditions.{is_overridden}
use Rattle.mode_control.specs.History.{tracks, mode_of}
use Rattle.mode_control.specs.Life.{Life, driver_of}
use Rattle.mode_control.specs.Sentences.{values_of, span_of}
use Rattle.speed_supervision.specs.Limit.{bounds_of, along}
use Rattle.speed_supervision.specs.declared.cause.LimitCause.{LimitCause}
use Rattle.speed_supervision.specs.declared.cause.LimitCause.TheVariants as cause
use Rattle.speed_supervision.specs.declared.cause.NationalValue.TheVariants as national
use Rattle.speed_supervision.specs.declared.cause.OverTrain.TheVariants as over
use Rattle.speed_supervision.specs.declared.cause.SpeedCause.TheVariants as speed
use Rattle.speed_supervision.specs.Over.{IsRestrictionOver}
use Rattle.speed_supervision.specs.Targets.{Journey}
use Rattle.speed_supervision.specs.Supervised.{IsCause}

-- a train in its life
abbrev pub journey_of : Life → Train → Journey
journey_of life train = record {
  front = (span_of life).max_front;
  bounds = bounds_of life train;
  track = along life;
  gradient = (gradients_of (tracks life.entries)).value;
  brakes = train.brakes;
}

-- ---- in Staff Responsible and in Unfitted: of those of equal force a restriction in force over the train is named first,
-- then the speed of an active override, the train's greatest speed, and the mode's national value

abbrev pub IsRestrictedBy : Life → ℕ → Restriction → Type 0
IsRestrictedBy life limit restriction = IsRestrictionOver (restrictions_of (tracks life.entries)) (span_of life) limit restriction

abbrev pub IsUnrestricted : Life → ℕ → Type 0
IsUnrestricted life limit = (restriction : Restriction) → IsRestrictedBy life limit restriction → ⊥

abbrev pub IsOverride : Life → ℕ → Type 0
IsOverride life limit = (is_overridden life ≡ true) × ((values_of life).override_speed ≡ limit)

-- the greatest speed of a train whose data are valid
abbrev pub IsMaximum : ℕ → Datum Train → Type 0
IsMaximum limit Unknown = ⊥
IsMaximum limit (Valid train) = train.maximum ≡ limit
IsMaximum limit (Invalid train) = ⊥

abbrev pub IsResponsibleCause : Life → ℕ → LimitCause → Type 0
IsResponsibleCause life limit (cause.Speed (speed.OverTrain (over.Restriction restriction))) = IsRestrictedBy life limit restriction
IsResponsibleCause life limit (cause.National national.Override) = IsOverride life limit × IsUnrestricted life limit
IsResponsibleCause life limit (cause.Speed (speed.OverTrain over.Maximum)) =
    IsMaximum limit (driver_of life).train_data × IsUnrestricted life limit × (IsOverride life limit → ⊥)
IsResponsibleCause life limit (cause.National national.StaffResponsible) =
    ((values_of life).staff_responsible ≡ limit) × IsUnrestricted life limit × (IsOverride life limit → ⊥)
    × (IsMaximum limit (driver_of life).train_data → ⊥)
IsResponsibleCause life limit other = ⊥

abbrev pub IsUnfittedCause : Life → ℕ → LimitCause → Type 0
IsUnfittedCause life limit (cause.Speed (speed.OverTrain (over.Restriction restriction))) = IsRestrictedBy life limit restriction
IsUnfittedCause life limit (cause.Speed (speed.OverTrain over.Maximum)) =
    IsMaximum limit (driver_of life).train_data × IsUnrestricted life limit
IsUnfittedCause life limit (cause.National national.Unfitted) =
    ((values_of life).unfitted ≡ limit) × IsUnrestricted life limit × (IsMaximum limit (driver_of life).train_data → ⊥)
IsUnfittedCause life limit other = ⊥

-- ---- in Full Supervision and On Sight

abbrev pub IsTrainCause : Life → ℕ → Train → LimitCause → Type 0
IsTrainCause life limit train (cause.Speed decides) =
    IsCause (span_of life) (journey_of life train) (values_of life).release limit decides
IsTrainCause life limit train other = ⊥

abbrev pub IsPermittedCause : Life → ℕ → LimitCause → Datum Train → Type 0
IsPermittedCause life limit decides Unknown = (decides ≡ cause.NoTrainData) × (limit ≡ 0)
IsPermittedCause life limit decides (Valid train) = IsTrainCause life limit train decides
IsPermittedCause life limit decides (Invalid train) = (decides ≡ cause.NoTrainData) × (limit ≡ 0)

-- ---- by the mode

abbrev pub IsCauseIn : Mode → Life → ℕ → LimitCause → Type 0
IsCauseIn FullSupervision life limit decides = IsPermittedCause life limit decides (driver_of life).train_data
IsCauseIn OnSight life limit decides = IsPermittedCause life limit decides (driver_of life).train_data
IsCauseIn StaffResponsible life limit decides = IsResponsibleCause life limit decides
IsCauseIn Shunting life limit decides = (decides ≡ cause.National national.Shunting) × ((values_of life).shunting ≡ limit)
IsCauseIn Unfitted life limit decides = IsUnfittedCause life limit decides
IsCauseIn StandBy life limit decides = (decides ≡ cause.NoSpeed) × (limit ≡ 0)
IsCauseIn Trip life limit decides = (decides ≡ cause.NoSpeed) × (limit ≡ 0)
IsCauseIn PostTrip life limit decides = (decides ≡ cause.NoSpeed) × (limit ≡ 0)
IsCauseIn SystemFailure life limit decides = (decides ≡ cause.NoSpeed) × (limit ≡ 0)

-- what is named decides a limit in a life
abbrev pub IsLimitCause : Life → ℕ → LimitCause → Type 0
IsLimitCause life limit decides = IsCauseIn (mode_of life.entries) life limit decides
