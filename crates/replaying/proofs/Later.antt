-- A field that differs first, after fields that are the same.
use Rattle.std.proofs.Common.{◌≡◌, Option, Some, None, MatchOption}
use Rattle.blocks.specs.declared.records.BlockRecord.{BlockRecord}
use Rattle.events.specs.declared.kept.Kept.{Kept}
use Rattle.replaying.specs.Comparing.{SameEvent, SameCommands, SituationDiffers, DiffersIn, SameCounts, SameEntered, EnteredDiffers, FoundDiffers, KeptDiffersIn}
use Rattle.replaying.specs.declared.differences.KeptField.{KeptField}
use Rattle.replaying.specs.declared.differences.KeptField.TheVariants as kept_field
use Rattle.replaying.specs.declared.differences.RecordField.{RecordField}
use Rattle.replaying.specs.declared.differences.RecordField.TheVariants as a_field

pub situation_later : (field : RecordField) (one other : BlockRecord) → SameEvent one other → SameCommands one other → SituationDiffers field one.situation other.situation → DiffersIn field one other
situation_later a_field.Situation one other event commands differs = (event, commands, differs)
situation_later a_field.Estimate one other event commands differs = (event, commands, differs)
situation_later a_field.Uncertainty one other event commands differs = (event, commands, differs)
situation_later a_field.Limit one other event commands differs = (event, commands, differs)
situation_later _ one other event commands differs = absurd differs

-- the first field after the same event and the same commands, or none
pub by_situation : (one other : BlockRecord) (found : Option RecordField) → SameEvent one other → SameCommands one other
    → MatchOption found (one.situation ≡ other.situation) (λ field. SituationDiffers field one.situation other.situation)
    → MatchOption found (one ≡ other) (λ field. DiffersIn field one other)
by_situation one other None event commands same = λ i. record {
  number = event.0 i;
  event = event.1 i;
  moment = event.2 i;
  mode = commands.0 i;
  level = commands.1 i;
  brake = commands.2 i;
  indications = commands.3 i;
  situation = same i;
}
by_situation one other (Some field) event commands differs = situation_later field one other event commands differs

pub entered_later : (field : KeptField) (one other : Kept) → SameCounts one other → EnteredDiffers field one other → KeptDiffersIn field one other
entered_later kept_field.Identity one other counts differs = (counts, differs)
entered_later kept_field.RunningNumber one other counts differs = (counts, differs)
entered_later kept_field.TrainData one other counts differs = (counts, differs)
entered_later _ one other counts differs = absurd differs

pub found_later : (field : KeptField) (one other : Kept) → SameCounts one other → SameEntered one other → FoundDiffers field one other → KeptDiffersIn field one other
found_later kept_field.Level one other counts entered differs = (counts, entered, differs)
found_later kept_field.Position one other counts entered differs = (counts, entered, differs)
found_later kept_field.NationalValues one other counts entered differs = (counts, entered, differs)
found_later kept_field.Countries one other counts entered differs = (counts, entered, differs)
found_later _ one other counts entered differs = absurd differs

-- the first field after the same counts and the same of what the driver entered, or none
pub by_found : (one other : Kept) (found : Option KeptField) → SameCounts one other → SameEntered one other
    → MatchOption found ((one.level ≡ other.level) × (one.position ≡ other.position) × (one.national ≡ other.national)) (λ field. FoundDiffers field one other)
    → MatchOption found (one ≡ other) (λ field. KeptDiffersIn field one other)
by_found one other None counts entered same = λ i. record {
  identity = entered.0 i;
  running_number = entered.1 i;
  train_data = entered.2 i;
  level = same.0 i;
  position = same.1 i;
  national = same.2 i;
  trip_outstanding = counts.2 i;
  events = counts.0 i;
  lives = counts.1 i;
}
by_found one other (Some field) counts entered differs = found_later field one other counts entered differs
