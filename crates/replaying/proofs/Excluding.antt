-- A record that is the answer doesn't differ.
use Rattle.std.proofs.Common.{◌≡◌, ◌∙◌, Option, Some, None, refl, sym, subst}
use Rattle.blocks.specs.declared.format.Format.{Format}
use Rattle.blocks.specs.declared.records.BlockRecord.{BlockRecord}
use Rattle.kernel.specs.Lives.{Story}
use Rattle.replaying.specs.Comparing.{DiffersIn}
use Rattle.replaying.specs.Following.{answer_to}
use Rattle.replaying.specs.Judgements.{IsVerdict}
use Rattle.replaying.specs.ReplayState.{ReplayState}
use Rattle.replaying.specs.declared.differences.RecordField.{RecordField}
use Rattle.replaying.specs.declared.differences.RecordField.TheVariants as a_field
use Rattle.replaying.specs.declared.following.Found.{Found}
use Rattle.blocks.specs.declared.records.Situation.{Situation}
use Rattle.replaying.specs.Comparing.{SituationDiffers}

same_situation : (field : RecordField) (one : Option Situation) → SituationDiffers field one one → ⊥
same_situation a_field.Situation one differs = differs refl
same_situation a_field.Estimate (Some s) differs = differs refl
same_situation a_field.Uncertainty (Some s) differs = differs.1 refl
same_situation a_field.Limit (Some s) differs = differs.2 refl
same_situation _ one differs = differs

same_record : (field : RecordField) (one : BlockRecord) → DiffersIn field one one → ⊥
same_record a_field.Number one differs = differs refl
same_record a_field.ColdMovement one differs = differs.1 refl
same_record a_field.Moment one differs = differs.2 refl
same_record a_field.Mode one differs = differs.1 refl
same_record a_field.Level one differs = differs.2 refl
same_record a_field.Brake one differs = differs.3 refl
same_record a_field.Indications one differs = differs.4 refl
same_record field one differs = same_situation field one.situation differs.2

equal_records : (field : RecordField) (one other : BlockRecord) → one ≡ other → DiffersIn field one other → ⊥
equal_records field one other same differs = same_record field one (subst (λ (r : BlockRecord). DiffersIn field one r) (sym same) differs)

pub excluded : (format : Format) (at : Story) (reported : BlockRecord) (replay : ReplayState) (found : Found)
    → reported ≡ answer_to format at reported.event → IsVerdict format at reported replay (Some found) → ⊥
excluded format at reported replay found is differs = equal_records found.field reported found.answer (is ∙ sym differs.0) differs.1
