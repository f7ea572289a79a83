-- What the steps of a life leave on a disk, and what they release (this project's profile). Lists of events have the
-- newest first; lists of steps and of releases have the oldest first. Moments are those of the disk's clock, counted
-- from 0, not times. Outputs have the numbers of their events, counted from 0 over all lives.

-- Taken for granted: the clauses that name these definitions speak of an honest disk, of which each image represents
-- `durable` or `accepted` where the life begins (`IsReady`), by blocks that are whole from that of the number
-- `whole_from` on.

-- One life as a line, the oldest event on the left:
--
--     found | PowerUp | flushed | pending
--                                    ^ the cut: power is lost while the flush of what is pending writes
--
-- `found` is the list that the disk held, all events of earlier lives that are left. PowerUp is the event that begins
-- this life; it has a block of its own. What is flushed is on the disk, and its outputs were released. What is pending
-- was accepted into memory alone, and nothing of it was released. At the cut
--
--     durable  is found, PowerUp and flushed: each image has at least these
--     accepted is all four: an image has these where the block of the cut flush came onto the disk
--     released is an output for each event of flushed: none for PowerUp, none for pending
--
-- and the next life finds `durable` or `accepted`. A cut before the flush leaves `durable`. One in the opening leaves
-- what the life before left, or `found` with PowerUp.
--
-- A life of three events with a cut, on a new journal (tests/rows/test_onboard.row, after "Power is lost within the
-- gate of block 3"): event 0 is the power-up, events 1 and 2 are moments of the clock. Event 1 is flushed, and power is
-- lost in the flush of event 2:
--
--     found | PowerUp | flushed | pending      durable  = event 1 ∷ event 0 ∷ []
--     none  | event 0 | event 1 | event 2      accepted = event 2 ∷ event 1 ∷ event 0 ∷ []
--                                              released = output 1 ∷ []
--
-- After it the rows that settle `new` and `ff` find three events (`accepted`), the one that settles `zeros` two
-- (`durable`).

use Rattle.std.specs.Prelude.{◌≡◌, ◌⊎◌, ℕ, ◌≤◌, List, [], ◌∷◌, ◌++◌, take, fold}
use Rattle.disk.specs.State.{State, now, IsImage, IsSynced, contents_of, AtEachMoment}
use Rattle.events.specs.declared.input.Event.{Event}
use Rattle.events.specs.declared.input.Event.TheVariants as an_event
use Rattle.journal.specs.Journals.{IsOpen}
use Rattle.journal.specs.JournalState.{JournalState as Journal}
use Rattle.mode_table.specs.declared.statuses.Cold.{Cold}
use Rattle.unit_start.specs.UnitState.{LifeState}
use Rattle.onboard.specs.declared.released.Released.{Released}
use Rattle.events.specs.declared.step.Step.{Step}
use Rattle.events.specs.declared.step.Step.TheVariants.{Accept, Flush}
use Rattle.unit_start.specs.Events.{pairs_of, account_of, IsAhead}
use Rattle.unit_start.specs.Lives.{IsRecordedCold, Describes, DescribesEither, IsReady}

-- ---- what is accepted

-- the events after one more step
abbrev pub accept_one : List Event → Step → List Event
accept_one events (Accept input) = an_event.Input input ∷ events
accept_one events Flush = events

-- the events that were accepted by these steps
abbrev pub accepted_by : List Event → List Step → List Event
accepted_by events steps = fold accept_one events steps

-- what is durable after one more step: a flush that is answered makes all that was accepted durable
abbrev pub flush_one : List Event → List Event → Step → List Event
flush_one durable accepted (Accept input) = durable
flush_one durable accepted Flush = accepted

abbrev pub flushed_by : List Event → List Event → List Step → List Event
flushed_by durable accepted [] = durable
flushed_by durable accepted (step ∷ steps) = flushed_by (flush_one durable accepted step) (accept_one accepted step) steps

-- what is durable after these steps, `initial` being so before: what was accepted before the last flush
abbrev pub durable_by : List Event → List Step → List Event
durable_by initial steps = flushed_by initial initial steps

-- ---- what is released

-- Nothing was released: the opening was refused, power was lost before a flush was done, or no flush had anything
-- pending.
abbrev pub NothingReleased : List Released → Type 0
NothingReleased released = released ≡ []

-- ---- one step

-- the image represents the durable events, or, in a flush, all accepted ones
abbrev pub IsOfStep : ℕ → ℕ → Step → List Event → List Event → (ℕ → List ℕ) → Type 0
IsOfStep whole_from sectors step durable accepted image = Describes whole_from sectors durable image ⊎ ((step ≡ Flush) × Describes whole_from sectors accepted image)

-- What a step leaves on the disk, done or not; both lists have the newest first.
pub record IsStepped (whole_from : ℕ) (step : Step) (durable accepted : List Event) (old new : State) : Type 0 where
  -- wherever power is lost in the step, the image that is left is of it
  pub at_each_moment : AtEachMoment old new (IsOfStep whole_from old.sectors step durable accepted)
  -- after the step each image represents one of the two lists still
  pub ready_at_end : IsReady whole_from durable accepted new

-- A step was taken, and these were released for it: events with the newest first, releases with the oldest first.
pub record Took (whole_from : ℕ) (durable accepted : List Event) (step : Step) (journal : Journal) (life : LifeState) (disk : State) (released : List Released) : Type 0 where
  -- the journal on the disk has what is durable after the step
  pub opened : IsOpen journal (account_of whole_from (flush_one durable accepted step)) disk
  -- what is in memory is what is accepted after the step, and what of it isn't durable is pending
  pub ahead : IsAhead (flush_one durable accepted step) (accept_one accepted step) life
  -- what was released is, in order, each output of what the step made durable
  pub released_is : pairs_of (flush_one durable accepted step) ≡ pairs_of durable ++ released

-- ---- a run of steps

-- what was accepted before one of the flushes
abbrev pub IsFlushed : List Event → List Step → List Event → Type 0
IsFlushed initial steps events = (before : List Step) × (after : List Step) × (steps ≡ before ++ Flush ∷ after) × (events ≡ accepted_by initial before)

-- it is what was there at the start, alone or with what was accepted before one of the flushes
abbrev pub IsDurable : List Event → List Step → List Event → Type 0
IsDurable initial steps events = (events ≡ initial) ⊎ IsFlushed initial steps events

-- the image represents such a list
abbrev pub IsOfRun : ℕ → ℕ → List Event → List Step → (ℕ → List ℕ) → Type 0
IsOfRun whole_from sectors initial steps image = (events : List Event) × IsDurable initial steps events × Describes whole_from sectors events image

-- the image represents what was accepted before one of the flushes, and this durable list is a beginning of it
abbrev pub IsHeld : ℕ → ℕ → List Event → List Step → List Event → (ℕ → List ℕ) → Type 0
IsHeld whole_from sectors initial steps durable image =
    (events : List Event) × IsDurable initial steps events × Describes whole_from sectors events image × (more : List Event) × (events ≡ more ++ durable)

-- The first of the steps were done at a moment, and by then these outputs were released: those of all events that were
-- durable then. Until then each image has `Leaves`, and from then on each image holds these events.
pub record Reached (whole_from : ℕ) (Leaves : (ℕ → List ℕ) → Type 0) (initial : List Event) (steps first_steps : List Step) (old new : State) (released : List Released) : Type 0 where
  -- the moment of the disk at which the first steps were done
  pub moment : ℕ
  -- it doesn't lie before the disk's clock at the start
  pub from : old.clock ≤ moment
  -- nor after the disk's clock at the end
  pub to : moment ≤ new.clock
  -- what was released by that moment, the oldest first
  pub released_by_then : List Released
  -- what was released later, the oldest first
  pub released_later : List Released
  -- both, one after the other, are all that was released
  pub released_parts : released ≡ released_by_then ++ released_later
  -- what was released by then is, in order, each output of what the first steps made durable after `initial`
  pub released_is : pairs_of (durable_by initial first_steps) ≡ pairs_of initial ++ released_by_then
  -- where power is lost until then, the image that is left is one that the first steps leave
  pub until : (k : ℕ) → old.clock ≤ k → k ≤ moment → (image : ℕ → List ℕ) → IsImage (new.at k) image → Leaves image
  -- where power is lost from then on, the image that is left has all that was durable then
  pub since : (k : ℕ) → moment ≤ k → k ≤ new.clock → (image : ℕ → List ℕ) → IsImage (new.at k) image → IsHeld whole_from old.sectors initial steps (durable_by initial first_steps) image

-- Steps were run from a disk that represented `initial`, and so many of them were taken. Each later image has what an
-- earlier flush released.
pub record Ran (whole_from : ℕ) (initial : List Event) (steps : List Step) (old new : State) (out_before out_after : List Released) : Type 0 where
  -- wherever power is lost in the run, the image that is left is of it
  pub at_each_moment : AtEachMoment old new (IsOfRun whole_from old.sectors initial steps)
  -- how many of the steps were taken, from the first one on
  pub steps_taken : ℕ
  -- what is durable at the end, the newest first
  pub durable_at_end : List Event
  -- what is accepted at the end, the newest first
  pub accepted_at_end : List Event
  -- the steps that were taken made this durable
  pub durable_at_end_is : durable_at_end ≡ durable_by initial (take steps_taken steps)
  -- and accepted that
  pub accepted_at_end_is : accepted_at_end ≡ accepted_by initial (take steps_taken steps)
  -- at the end each image represents one of the two
  pub ready_at_end : IsReady whole_from durable_at_end accepted_at_end new
  -- what was released, the oldest first
  pub released : List Released
  -- the caller's list, the oldest first, has it after what it had before
  pub out_is : out_after ≡ out_before ++ released
  -- it is, in order, each output of what is durable at the end after `initial`
  pub released_is : pairs_of durable_at_end ≡ pairs_of initial ++ released
  -- for each number of steps: when they were done, what was released by then, and that it stays
  pub reached : (count : ℕ) → count ≤ steps_taken → Reached whole_from (IsOfRun whole_from old.sectors initial (take count steps)) initial steps (take count steps) old new released

-- In the midst of a run: so many of the steps were taken, and these were released for them, the oldest first.
pub record Going (whole_from : ℕ) (initial : List Event) (steps : List Step) (taken : ℕ) (old new : State) (journal : Journal) (life : LifeState) (released : List Released) : Type 0 where
  -- wherever power was lost until now, the image that is left is of these steps
  pub at_each_moment : AtEachMoment old new (IsOfRun whole_from old.sectors initial (take taken steps))
  -- what is durable now, the newest first
  pub durable : List Event
  -- these steps made it durable
  pub durable_is : durable ≡ durable_by initial (take taken steps)
  -- it is what was there, or what was accepted before one of the flushes
  pub one_of : IsDurable initial (take taken steps) durable
  -- the journal on the disk has it
  pub opened : IsOpen journal (account_of whole_from durable) new
  -- what is in memory is what these steps accepted, and what of it isn't durable is pending
  pub ahead : IsAhead durable (accepted_by initial (take taken steps)) life
  -- what was released is, in order, each output of what is durable after `initial`
  pub released_is : pairs_of durable ≡ pairs_of initial ++ released
  -- what fewer steps made durable is a beginning of it
  pub extends : (count : ℕ) → count ≤ taken → (more : List Event) × (durable ≡ more ++ durable_by initial (take count steps))
  -- for each number of steps: when they were done, what was released by then, and that it stays
  pub reached : (count : ℕ) → count ≤ taken → Reached whole_from (IsOfRun whole_from old.sectors initial (take count steps)) initial steps (take count steps) old new released

-- ---- a life

-- At each moment of a life the image represents `durable` or `accepted`, or `found` with the power-up, alone or with
-- what was accepted before one of the flushes.
abbrev pub IsOfLife : ℕ → ℕ → List Event → List Event → List Event → Cold → List Step → (ℕ → List ℕ) → Type 0
IsOfLife whole_from sectors durable accepted found power_up_cold steps image =
    DescribesEither whole_from sectors durable accepted image ⊎ IsOfRun whole_from sectors (an_event.PowerUp power_up_cold ∷ found) steps image

-- It wasn't opened, and nothing was released: at the end there are still `durable` and `accepted`, or `found`, alone
-- and with the power-up.
abbrev pub LeftUnopened : List Event → List Event → List Event → Cold → List Event → List Event → List Released → Type 0
LeftUnopened durable accepted found power_up_cold durable_at_end accepted_at_end released =
    NothingReleased released
    × (((durable_at_end ≡ durable) × (accepted_at_end ≡ accepted))
    ⊎ ((durable_at_end ≡ found) × (accepted_at_end ≡ an_event.PowerUp power_up_cold ∷ found)))

-- It was opened, and so many of the steps were taken. Lists of events have the newest first; `steps` and `released`
-- have the oldest first. Each later image has what an earlier flush released.
pub record WasOpened (whole_from : ℕ) (durable accepted found : List Event) (power_up_cold : Cold) (steps : List Step) (steps_taken : ℕ) (old new : State) (durable_at_end accepted_at_end : List Event) (released : List Released) : Type 0 where
  -- the steps that were taken made this durable, after the power-up
  pub durable_at_end_is : durable_at_end ≡ durable_by (an_event.PowerUp power_up_cold ∷ found) (take steps_taken steps)
  -- and accepted that
  pub accepted_at_end_is : accepted_at_end ≡ accepted_by (an_event.PowerUp power_up_cold ∷ found) (take steps_taken steps)
  -- what was released is, in order, each output of what is durable at the end after the power-up
  pub released_is : pairs_of durable_at_end ≡ pairs_of (an_event.PowerUp power_up_cold ∷ found) ++ released
  -- for each number of steps: when they were done, what was released by then, and that it stays
  pub reached : (count : ℕ) → count ≤ steps_taken →
      Reached whole_from (IsOfLife whole_from old.sectors durable accepted found power_up_cold (take count steps)) (an_event.PowerUp power_up_cold ∷ found) steps (take count steps) old new released

-- A life, on a disk that was ready for `durable` and `accepted`. `cold` is the cold movement value that was
-- handed in, `power_up_cold` the one that the power-up recorded. The disks `old` and `new` are those of the start and
-- of the end. All that was released is in both lists of the end.
pub record Lives (whole_from : ℕ) (durable accepted found : List Event) (cold power_up_cold : Cold) (steps : List Step) (old new : State) (out_before out_after : List Released) : Type 0 where
  -- the events on which this life goes on, the newest first: of `durable` and `accepted` the one that was found
  pub found_is : (found ≡ durable) ⊎ (found ≡ accepted)
  -- what the disk held at the start represents them
  pub found_on_disk : Describes whole_from old.sectors found (contents_of old)
  -- wherever power is lost in the life, the image that is left is of it
  pub at_each_moment : AtEachMoment old new (IsOfLife whole_from old.sectors durable accepted found power_up_cold steps)
  -- how many of the steps were taken, from the first one on
  pub steps_taken : ℕ
  -- the events that each image has at the end, the newest first
  pub durable_at_end : List Event
  -- the events that an image may have at the end, the newest first
  pub accepted_at_end : List Event
  -- the premise of a life is true again of these two, and of the disk that is handed back
  pub ready_at_end : IsReady whole_from durable_at_end accepted_at_end new
  -- the outputs that the life released, the oldest first
  pub released : List Released
  -- the caller's list, the oldest first, has them after what it had before
  pub out_is : out_after ≡ out_before ++ released
  -- the power-up's cold movement value is that of the image; or no power-up was written, and nothing was released
  pub cold_is : IsRecordedCold old.sectors (contents_of old) cold power_up_cold ⊎ (AtEachMoment old new (IsImage (now old)) × NothingReleased released)
  -- its opening was refused, or it was opened and took steps
  pub unopened_or_opened : LeftUnopened durable accepted found power_up_cold durable_at_end accepted_at_end released
      ⊎ WasOpened whole_from durable accepted found power_up_cold steps steps_taken old new durable_at_end accepted_at_end released

-- ---- any number of lives

-- Power was lost at some moment from old to new, also within a call. This is the disk that the next life finds: it has
-- one image of that moment, and no sector of it is open.
pub record IsCut (old new next : State) : Type 0 where
  -- the moment at which power was lost
  pub moment : ℕ
  -- it doesn't lie before the disk's clock at the start
  pub from : old.clock ≤ moment
  -- nor after the disk's clock at the end
  pub to : moment ≤ new.clock
  -- what the next disk holds is an image of that moment
  pub image : IsImage (new.at moment) (contents_of next)
  -- and it has no other
  pub synced : IsSynced next
  -- it is as large as it was
  pub sectors : next.sectors ≡ old.sectors

-- A life ended: power was lost at some moment of it, or it handed its disk back, which is then found as it is, open
-- sectors and all.
abbrev pub IsLeft : State → State → State → Type 0
IsLeft old new next = IsCut old new next ⊎ (next ≡ new)

-- what a life may leave: `durable`, `accepted`, or `found` with the power-up, alone or with what was accepted before
-- one of the flushes
abbrev pub IsHeir : List Event → List Event → List Event → Cold → List Step → List Event → Type 0
IsHeir durable accepted found power_up_cold steps left =
    (left ≡ durable) ⊎ ((left ≡ accepted) ⊎ IsDurable (an_event.PowerUp power_up_cold ∷ found) steps left)

-- Wherever a life is cut, and where it hands its disk back, what it leaves is ready for the next one: it represents
-- what the life made durable, or that with what it accepted after it.
abbrev pub LivesCompose : Type 0
LivesCompose = (whole_from : ℕ) (old new next : State) (durable accepted found : List Event) (cold power_up_cold : Cold) (steps : List Step) (out_before out_after : List Released)
    → Lives whole_from durable accepted found cold power_up_cold steps old new out_before out_after → IsLeft old new next
    → (next_durable next_accepted : List Event) × IsReady whole_from next_durable next_accepted next × IsHeir durable accepted found power_up_cold steps next_durable
