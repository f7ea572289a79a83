-- What is true of every list of events, and of what blocks say about it (this project's profile).
use Rattle.std.specs.Prelude.{◌≡◌, ℕ, List, Some}
use Rattle.blocks.specs.declared.block.Block.{Block}
use Rattle.blocks.specs.declared.format.Format.{Format}
use Rattle.blocks.specs.declared.format.Format.TheVariants.{Three}
use Rattle.blocks.specs.declared.records.BlockRecord.{BlockRecord}
use Rattle.events.specs.declared.input.Event.{Event}
use Rattle.events.specs.declared.kept.Kept.{Kept}
use Rattle.mode_table.specs.declared.statuses.Cold.{Cold}
use Rattle.kernel.specs.Lives.{Story, story_of, story_by}
use Rattle.unit_start.specs.Events.{account_of}
use Rattle.ring.specs.Account.{Describes}
use Rattle.replaying.specs.Following.{AreAnswers, IsAfter, answer_to}
use Rattle.replaying.specs.Judgements.{IsVerdict}
use Rattle.replaying.specs.ReplayState.{ReplayState}
use Rattle.replaying.specs.declared.following.Found.{Found}

-- whatever a head says, and with each cold movement value: there is a story after which that is kept, so that no
-- verdict on what comes after a head is one about nothing
abbrev pub EachHeadIsLed : Type 0
EachHeadIsLed = (kept : Kept) (cold : Cold) → IsAfter kept cold (story_by kept)

-- what a block of format 3 says about the events of a unit are the kernel's answers, after some of these events
abbrev pub UnitsAgree : Type 0
UnitsAgree = (whole_from : ℕ) (events : List Event) (block : Block) → Describes (account_of whole_from events) block → block.format ≡ Three → (s : List Event) × AreAnswers block.format (story_of s) block.records.items

-- of a record that is the kernel's answer no verdict says that it differs
abbrev pub VerdictsExclude : Type 0
VerdictsExclude = (format : Format) (at : Story) (reported : BlockRecord) (replay : ReplayState) (found : Found)
    → reported ≡ answer_to format at reported.event → IsVerdict format at reported replay (Some found) → ⊥
