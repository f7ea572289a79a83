-- What the kernel answers to the events that blocks say (this project's profile). Records of a block have the oldest
-- first. It is said of each story that may stand before them, of this unit's own events or not: whatever a head says,
-- there is one after which just that is kept (`story_by`).
use Rattle.std.specs.Prelude.{◌≡◌, List, [], ◌∷◌}
use Rattle.blocks.specs.Blocks.{record_reported, kept_reported}
use Rattle.blocks.specs.declared.format.Format.{Format}
use Rattle.blocks.specs.declared.records.BlockRecord.{BlockRecord}
use Rattle.events.specs.declared.input.Event.{Event}
use Rattle.events.specs.declared.kept.Kept.{Kept}
use Rattle.kernel.specs.Lives.{Story, onward, past_at, number_at, left_by}
use Rattle.mode_table.specs.declared.statuses.Cold.{Cold}
use Rattle.unit_start.specs.Events.{record_at}

-- what a format says about the kernel's answer to an event
abbrev pub answer_to : Format → Story → Event → BlockRecord
answer_to format at event = record_reported format (record_at at event)

-- each record is the kernel's answer, after this story and the records before it
abbrev pub AreAnswers : Format → Story → List BlockRecord → Type 0
AreAnswers format at [] = Unit {0}
AreAnswers format at (reported ∷ rest) = (reported ≡ answer_to format at reported.event) × AreAnswers format (onward at reported.event) rest

-- After this the same is kept, as far as a power-up with this cold movement value leaves it.
pub record IsAfter (kept : Kept) (cold : Cold) (at : Story) : Type 0 where
  pub left : left_by cold kept ≡ left_by cold (past_at at).kept
  pub counted : kept.events ≡ number_at at

-- what a format says about what is kept after a story
abbrev pub head_after : Format → Story → Kept
head_after format at = kept_reported format (past_at at).kept
