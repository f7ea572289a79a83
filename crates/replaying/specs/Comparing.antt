-- In what a record differs first from another one of the same event, and what is kept from what else is (this project's
-- profile). Fields are compared in the order in which they stand here.
use Rattle.std.specs.Prelude.{◌≡◌, ◌≢◌, Option, Some, None, is_some}
use Rattle.blocks.specs.declared.records.BlockRecord.{BlockRecord}
use Rattle.blocks.specs.declared.records.Situation.{Situation}
use Rattle.events.specs.declared.kept.Kept.{Kept}
use Rattle.replaying.specs.declared.differences.KeptField.{KeptField}
use Rattle.replaying.specs.declared.differences.KeptField.TheVariants as kept_field
use Rattle.replaying.specs.declared.differences.RecordField.{RecordField}
use Rattle.replaying.specs.declared.differences.RecordField.TheVariants as a_field

-- both are reported, and differ so
abbrev pub BothReported : (Situation → Situation → Type 0) → Option Situation → Option Situation → Type 0
BothReported So (Some one) (Some other) = So one other
BothReported So _ _ = ⊥

-- place and limit differ first in a field: one reports them and the other doesn't, or both do
abbrev pub SituationDiffers : RecordField → Option Situation → Option Situation → Type 0
SituationDiffers a_field.Situation one other = is_some one ≢ is_some other
SituationDiffers a_field.Estimate one other = BothReported (λ a b. a.estimate ≢ b.estimate) one other
SituationDiffers a_field.Uncertainty one other =
    BothReported (λ a b. (a.estimate ≡ b.estimate) × (a.uncertainty ≢ b.uncertainty)) one other
SituationDiffers a_field.Limit one other =
    BothReported (λ a b. (a.estimate ≡ b.estimate) × (a.uncertainty ≡ b.uncertainty) × (a.limit ≢ b.limit)) one other
SituationDiffers _ one other = ⊥

-- the same event at the same moment
abbrev pub SameEvent : BlockRecord → BlockRecord → Type 0
SameEvent one other = (one.number ≡ other.number) × (one.event ≡ other.event) × (one.moment ≡ other.moment)

-- what the brakes were commanded and what the driver saw is the same, too
abbrev pub SameCommands : BlockRecord → BlockRecord → Type 0
SameCommands one other =
    (one.mode ≡ other.mode) × (one.level ≡ other.level) × (one.brake ≡ other.brake)
    × (one.indications ≡ other.indications)

-- this is the first field in which two records differ
abbrev pub DiffersIn : RecordField → BlockRecord → BlockRecord → Type 0
DiffersIn a_field.Number one other = one.number ≢ other.number
DiffersIn a_field.ColdMovement one other = (one.number ≡ other.number) × (one.event ≢ other.event)
DiffersIn a_field.Moment one other =
    (one.number ≡ other.number) × (one.event ≡ other.event) × (one.moment ≢ other.moment)
DiffersIn a_field.Mode one other = SameEvent one other × (one.mode ≢ other.mode)
DiffersIn a_field.Level one other = SameEvent one other × (one.mode ≡ other.mode) × (one.level ≢ other.level)
DiffersIn a_field.Brake one other =
    SameEvent one other × (one.mode ≡ other.mode) × (one.level ≡ other.level) × (one.brake ≢ other.brake)
DiffersIn a_field.Indications one other =
    SameEvent one other × (one.mode ≡ other.mode) × (one.level ≡ other.level) × (one.brake ≡ other.brake)
    × (one.indications ≢ other.indications)
DiffersIn field one other =
    SameEvent one other × SameCommands one other × SituationDiffers field one.situation other.situation

-- ---- what is kept

abbrev pub SameCounts : Kept → Kept → Type 0
SameCounts one other =
    (one.events ≡ other.events) × (one.lives ≡ other.lives) × (one.trip_outstanding ≡ other.trip_outstanding)

-- what the driver entered differs first in a field
abbrev pub EnteredDiffers : KeptField → Kept → Kept → Type 0
EnteredDiffers kept_field.Identity one other = one.identity ≢ other.identity
EnteredDiffers kept_field.RunningNumber one other =
    (one.identity ≡ other.identity) × (one.running_number ≢ other.running_number)
EnteredDiffers kept_field.TrainData one other =
    (one.identity ≡ other.identity) × (one.running_number ≡ other.running_number) × (one.train_data ≢ other.train_data)
EnteredDiffers _ one other = ⊥

abbrev pub SameEntered : Kept → Kept → Type 0
SameEntered one other =
    (one.identity ≡ other.identity) × (one.running_number ≡ other.running_number) × (one.train_data ≡ other.train_data)

-- what is known of the track differs first in a field
abbrev pub FoundDiffers : KeptField → Kept → Kept → Type 0
FoundDiffers kept_field.Level one other = one.level ≢ other.level
FoundDiffers kept_field.Position one other = (one.level ≡ other.level) × (one.position ≢ other.position)
FoundDiffers kept_field.NationalValues one other =
    (one.level ≡ other.level) × (one.position ≡ other.position) × (one.national.values ≢ other.national.values)
FoundDiffers kept_field.Countries one other =
    (one.level ≡ other.level) × (one.position ≡ other.position) × (one.national.values ≡ other.national.values)
    × (one.national.countries ≢ other.national.countries)
FoundDiffers _ one other = ⊥

-- this is the first field in which what is kept differs
abbrev pub KeptDiffersIn : KeptField → Kept → Kept → Type 0
KeptDiffersIn kept_field.Events one other = one.events ≢ other.events
KeptDiffersIn kept_field.Lives one other = (one.events ≡ other.events) × (one.lives ≢ other.lives)
KeptDiffersIn kept_field.Trip one other =
    (one.events ≡ other.events) × (one.lives ≡ other.lives) × (one.trip_outstanding ≢ other.trip_outstanding)
KeptDiffersIn kept_field.Identity one other = SameCounts one other × EnteredDiffers kept_field.Identity one other
KeptDiffersIn kept_field.RunningNumber one other =
    SameCounts one other × EnteredDiffers kept_field.RunningNumber one other
KeptDiffersIn kept_field.TrainData one other = SameCounts one other × EnteredDiffers kept_field.TrainData one other
KeptDiffersIn field one other = SameCounts one other × SameEntered one other × FoundDiffers field one other
