-- One line of a replay, from a place of a journal on: how a walk over the blocks of the life finds it (this project's
-- profile). Blocks are numbered from 1, events and the records of a block from 0.
use Rattle.std.specs.Prelude.{◌≡◌, ℕ, ◌+◌, ◌-◌, ◌^◌, ◌<◌, ◌==◌, nat_lt, nat_le, min, Bool, true, false, if◌then◌else◌, Option, Some, None, is_some, Ok, Err}
use Rattle.blocks.specs.declared.block.Block.{Block}
use Rattle.blocks.specs.declared.records.BlockRecord.{BlockRecord}
use Rattle.kernel.specs.Lives.{Story, number_at}
use Rattle.lives.specs.Steps.{Step}
use Rattle.lives.specs.declared.visit.Unknown.TheVariants as an_unknown
use Rattle.replaying.specs.Judgements.{GoesOn, Begins, IsHeadFound}
use Rattle.replaying.specs.ReplayState.{StandsAfter}
use Rattle.replaying.specs.declared.following.Found.{Found}
use Rattle.replaying.specs.declared.heads.HeadFound.{HeadFound}
use Rattle.replaying.specs.declared.judging.Judged.{Judged}
use Rattle.replaying.specs.declared.judging.Judged.TheVariants.{Agrees, Unknown, AfterDifference}
use Rattle.image_calls.specs.Answers.{IfElse}
use Rattle.image_calls.specs.Verdicts.{record_differs, DescribesHead}
use Rattle.image_calls.specs.declared.journals.EtcsJournal.{EtcsJournal}
use Rattle.image_calls.specs.declared.lines.End.{End}
use Rattle.image_calls.specs.declared.lines.End.TheVariants as an_end
use Rattle.image_calls.specs.declared.lines.Line.{Line}
use Rattle.image_calls.specs.declared.verdicts.EtcsReplay.{EtcsReplay}
use Rattle.image_calls.specs.declared.verdicts.Span.{Span}

-- ---- places

-- before the block of this number a walk has come to no line yet
abbrev pub initial : ℕ → EtcsJournal → Line
initial number from = record { from = from; next = record { block = number; last = from.last; index = 0 }; judged = Unknown an_unknown.BeforeOldest; events = None; end = an_end.Going }

-- the place is that where the line begins, or one after it
abbrev pub is_on : Line → Bool
is_on l = if l.from.block == l.next.block then nat_le l.from.index l.next.index else nat_lt l.from.block l.next.block

-- one more, up to the greatest number of 64 bits
abbrev pub one_more : ℕ → ℕ
one_more n = min (n + 1) (2 ^ 64 - 1)

-- after a record, and after a block
abbrev pub after_record : Line → Line
after_record l = record l { next = record { block = l.next.block; last = l.next.last; index = one_more l.next.index } }

abbrev pub after_block : Line → Line
after_block l = record l { next = record { block = one_more l.next.block; last = l.next.last; index = 0 } }

-- whether the line is found
abbrev pub is_ended_by : End → Bool
is_ended_by an_end.Going = false
is_ended_by _ = true

abbrev pub is_ended : Line → Bool
is_ended l = is_ended_by l.end

-- ---- events

abbrev pub has_events : Line → Bool
has_events l = is_some l.events

-- one event more of this life
abbrev pub extended : Option Span → ℕ → ℕ → Span
extended None life event = record { first_event = event; last_event = event; life = life }
extended (Some s) life event = record { first_event = s.first_event; last_event = event; life = s.life }

abbrev pub with_event : ℕ → ℕ → Line → Line
with_event life event l = if is_on l then record l { events = Some (extended l.events life event) } else l

abbrev pub judged_so : Judged → Line → Line
judged_so judged l = record l { judged = judged }

abbrev pub ended : End → Line → Line
ended end l = record l { end = end }

-- ---- steps, of a line that has events or of one that has none

-- it ends before the step
abbrev pub IsOver : Line → Line → EtcsReplay → EtcsReplay → Type 0
IsOver l next old new = (next ≡ ended an_end.Over l) × (new ≡ old)

-- a record that was judged: it is one event more, or it differs
abbrev pub TakesFound : Block → ℕ → BlockRecord → Option Found → Line → Line → EtcsReplay → EtcsReplay → Type 0
TakesFound b life r None l next old new = (next ≡ after_record (with_event life r.number l)) × (new ≡ old)
TakesFound b life r (Some found) l next old new = IfElse (has_events l) (IsOver l next old new)
    (IfElse (is_on l)
    ((next ≡ after_record (judged_so AfterDifference (ended an_end.Differs l))) × (new ≡ record_differs b life found.field r found.answer))
    ((next ≡ after_record (judged_so AfterDifference l)) × (new ≡ old)))

-- A record, judged so.
pub record TakesRecord (IsSo : Judged → Option Found → Type 0) (b : Block) (life : ℕ) (r : BlockRecord) (l next : Line) (old new : EtcsReplay) : Type 0 where
  pub judged : Judged
  pub found : Option Found
  pub is_so : IsSo judged found
  pub takes : TakesFound b life r found (judged_so judged l) next old new

-- the head of a block: it differs, or it is passed
abbrev pub TakesHead : Block → Option HeadFound → Line → Line → EtcsReplay → EtcsReplay → Type 0
TakesHead b None l next old new = (next ≡ after_block l) × (new ≡ old)
TakesHead b (Some found) l next old new = IfElse (has_events l) (IsOver l next old new)
    (IfElse (is_on l) ((next ≡ after_block (ended an_end.Differs l)) × DescribesHead b found new) ((next ≡ after_block l) × (new ≡ old)))

-- a block that can't be read is reported as lost, where the walk has come to the line
abbrev pub TakesLost : Line → Line → EtcsReplay → EtcsReplay → Type 0
TakesLost l next old new = (new ≡ old) × IfElse (is_on l) (next ≡ after_block (ended an_end.Lost l)) (next ≡ after_block (judged_so (Unknown an_unknown.Gap) l))

abbrev pub DescribesStep : Step → Line → Line → EtcsReplay → EtcsReplay → Type 0
DescribesStep (Step.Unreadable number) l next old new = IfElse (has_events l) (IsOver l next old new) (TakesLost l next old new)
DescribesStep Step.Missing l next old new = IfElse (has_events l) (IsOver l next old new) ((next ≡ judged_so (Unknown an_unknown.Gap) l) × (new ≡ old))
DescribesStep (Step.Begins block life before r) l next old new =
    IfElse (has_events l) (IsOver l next old new) (TakesRecord (Begins before block.format r l.judged) block life r l next old new)
DescribesStep (Step.GoesOn block life r) l next old new = TakesRecord (GoesOn block.format r l.judged) block life r l next old new
DescribesStep (Step.Head block) l next old new = (found : Option HeadFound) × IsHeadFound l.judged block found × TakesHead block found l next old new

-- ---- no verdict of a step is one after 2^64 events or more

abbrev pub HasFew : Judged → Type 0
HasFew (Agrees replay) = (at : Story) → StandsAfter at replay → number_at at + 1 < 2 ^ 64
HasFew _ = Unit {0}

abbrev pub HasFewAt : Step → Line → Type 0
HasFewAt (Step.Begins block life (Ok kept) r) l = (kept.events + 1 < 2 ^ 64) × HasFew l.judged
HasFewAt (Step.Begins block life (Err why) r) l = HasFew l.judged
HasFewAt (Step.GoesOn block life r) l = HasFew l.judged
HasFewAt _ l = Unit {0}
