-- How the records of a life and the heads of its blocks are judged, one after another (this project's profile). What is
-- said of every story after which a head is kept is never said of nothing: there is one for each head (law
-- `each_head_is_led`).
use Rattle.std.specs.Prelude.{◌≡◌, ◌+◌, ◌^◌, ◌<◌, Option, None, Result, Ok, Err, MatchOption}
use Rattle.blocks.specs.declared.block.Block.{Block}
use Rattle.blocks.specs.declared.format.Format.{Format}
use Rattle.blocks.specs.declared.records.BlockRecord.{BlockRecord}
use Rattle.events.specs.declared.input.Event.{Event}
use Rattle.events.specs.declared.input.Event.TheVariants.{PowerUp, Input}
use Rattle.events.specs.declared.kept.Kept.{Kept}
use Rattle.kernel.specs.Lives.{Story, onward, number_at}
use Rattle.lives.specs.declared.visit.Unknown.{Unknown}
use Rattle.lives.specs.declared.visit.Unknown.TheVariants as an_unknown
use Rattle.replaying.specs.Comparing.{DiffersIn, KeptDiffersIn}
use Rattle.replaying.specs.Following.{answer_to, head_after, IsAfter}
use Rattle.replaying.specs.ReplayState.{ReplayState, StandsAfter}
use Rattle.replaying.specs.declared.following.Found.{Found}
use Rattle.replaying.specs.declared.heads.HeadFound.{HeadFound}
use Rattle.replaying.specs.declared.judging.Judged.{Judged}
use Rattle.replaying.specs.declared.judging.Judged.TheVariants as is

-- ---- records

-- a record is the kernel's answer after a story, and the replay comes after its event too; or it differs so
abbrev pub IsVerdict : Format → Story → BlockRecord → ReplayState → Option Found → Type 0
IsVerdict format at r replay found = MatchOption found
    ((r ≡ answer_to format at r.event) × StandsAfter (onward at r.event) replay)
    (λ difference. (difference.answer ≡ answer_to format at r.event) × DiffersIn difference.field r difference.answer)

-- .. after any such story
abbrev pub IsRun : (Story → Type 0) → Format → BlockRecord → Judged → Option Found → Type 0
IsRun IsBefore format r (is.Agrees replay) found =
    (at : Story) → IsBefore at → number_at at + 1 < 2 ^ 64 → IsVerdict format at r replay found
IsRun IsBefore format r _ found = ⊥

-- a life goes on: its event is run, where the life is replayed so far
abbrev pub GoesOn : Format → BlockRecord → Judged → Judged → Option Found → Type 0
GoesOn format r (is.Agrees old) judged found = IsRun (λ at. StandsAfter at old) format r judged found
GoesOn format r old judged found = (judged ≡ old) × (found ≡ None)

-- a power-up begins after any story after which this is kept; an input goes on
abbrev pub BeginsOrGoesOn : Event → Format → Kept → BlockRecord → Judged → Judged → Option Found → Type 0
BeginsOrGoesOn (PowerUp cold) format kept r old judged found = IsRun (λ at. IsAfter kept cold at) format r judged found
BeginsOrGoesOn (Input input) format kept r old judged found = GoesOn format r old judged found

-- within a block a life goes on from what the kernel keeps of the one before, where that is replayed
abbrev pub within_block : Judged → Judged
within_block (is.Agrees replay) = is.Agrees replay
within_block _ = is.Unknown an_unknown.WithinBlock

-- before a power-up, where no head says what was kept
abbrev pub unknown_after : Unknown → Judged → Judged
unknown_after an_unknown.WithinBlock judged = within_block judged
unknown_after unknown judged = is.Unknown unknown

-- the power-up of a life, after what was kept before it, or where nobody knows that
abbrev pub Begins : Result Kept Unknown → Format → BlockRecord → Judged → Judged → Option Found → Type 0
Begins (Ok kept) format r old judged found = BeginsOrGoesOn r.event format kept r old judged found
Begins (Err unknown) format r old judged found = GoesOn format r (unknown_after unknown old) judged found

-- ---- heads

-- a head says what the kernel keeps after the story of the replay, or it differs so; of a life that isn't replayed
-- nothing is found
abbrev pub IsHeadFound : Judged → Block → Option HeadFound → Type 0
IsHeadFound (is.Agrees replay) b found = (at : Story) → StandsAfter at replay →
    MatchOption found (b.kept ≡ head_after b.format at) (λ difference. (difference.kept ≡ head_after b.format at) × KeptDiffersIn difference.field b.kept difference.kept)
IsHeadFound _ b found = found ≡ None
