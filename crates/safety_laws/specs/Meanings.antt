-- What the definitions that the promises rest on mean at least, in terms of a medium and of lists: a weaker definition
-- makes one of these sentences false (this project's profile). Lists of events have the newest first; lists of steps,
-- of releases and of lives have the oldest first.
use Rattle.std.specs.Prelude.{◌≡◌, ◌⊎◌, ℕ, ◌<◌, ◌≤◌, Bool, true, false, List, [], ◌∷◌, ◌++◌, length, take}
use Rattle.blocks.specs.Blocks.{cold_reported}
use Rattle.blocks.specs.FirstSector.{sectors_of}
use Rattle.blocks.specs.declared.block.Block.{Block}
use Rattle.disk.specs.State.{Platter, State, now, contents_of, IsImage, IsSynced, AtEachMoment}
use Rattle.events.specs.declared.input.Event.{Event}
use Rattle.events.specs.declared.input.Event.TheVariants as an_event
use Rattle.events.specs.declared.input.Input.{Input}
use Rattle.events.specs.declared.step.Step.{Step}
use Rattle.events.specs.declared.step.Step.TheVariants.{Accept, Flush}
use Rattle.kernel.specs.Output.{output_after}
use Rattle.mode_table.specs.declared.statuses.Cold.{Cold}
use Rattle.onboard.specs.declared.released.Released.{Released}
use Rattle.ring.specs.Scans.{IsNewest}
use Rattle.ring.specs.Slots.{valid_at, IsBlockAt, StandsFor}
use Rattle.unit_start.specs.Events.{account_of, pairs_of}
use Rattle.unit_start.specs.Lives.{IsReady, IsRecordedCold, Opens}
use Rattle.whole_lives.specs.Chains.{OneLife, AllStand, Follow, IsLeftWith}
use Rattle.whole_lives.specs.Runs.{accepted_by, durable_by, IsCut, IsDurable, IsLeft, IsOfLife, Lives, Reached, WasOpened}

-- what a loss of power may leave of a medium: of an open sector any bytes, of another one what it holds, and of each as
-- many as before
pub record MayBeLeft (medium : Platter) (image : ℕ → List ℕ) : Type 0 where
  pub shut : (sector : ℕ) → medium.is_open sector ≡ false → image sector ≡ medium.contents sector
  pub whole : (sector : ℕ) → length (image sector) ≡ length (medium.contents sector)

-- The images of a medium are just these.
abbrev pub ImagesMayBeLeft : Type 0
ImagesMayBeLeft = (medium : Platter) (image : ℕ → List ℕ) → (MayBeLeft medium image → IsImage medium image) × (IsImage medium image → MayBeLeft medium image)

-- the image represents the events
abbrev pub Represents : ℕ → ℕ → List Event → (ℕ → List ℕ) → Type 0
Represents whole_from sectors events image = StandsFor sectors (account_of whole_from events) image

-- the first list of events is the older part of the second
abbrev pub IsOlderPart : List Event → List Event → Type 0
IsOlderPart older events = (more : List Event) × (events ≡ more ++ older)

-- Where a disk is ready for two lists, whatever a loss of power leaves of it represents one of them, and the durable
-- one is the older part of the accepted one.
abbrev pub ReadyHolds : Type 0
ReadyHolds = (whole_from : ℕ) (durable accepted : List Event) (disk : State) → IsReady whole_from durable accepted disk → IsOlderPart durable accepted
    × ((image : ℕ → List ℕ) → MayBeLeft (now disk) image → Represents whole_from disk.sectors durable image ⊎ Represents whole_from disk.sectors accepted image)

-- What passes a test at each moment passes it in all that a loss of power may leave at any moment from the first to the
-- last.
abbrev pub MomentsHold : Type 0
MomentsHold = (old new : State) (passes : (ℕ → List ℕ) → Bool) → AtEachMoment old new (λ image. passes image ≡ true)
    → (moment : ℕ) → old.clock ≤ moment → moment ≤ new.clock → (image : ℕ → List ℕ) → MayBeLeft (new.at moment) image → passes image ≡ true

-- An opening goes on from one of both lists, which is what the disk held; wherever power is lost in it, what is left
-- represents one of both, or that one with the power-up; and at its end the disk is ready for both still, or for that
-- one alone and with the power-up.
abbrev pub OpeningHolds : Type 0
OpeningHolds = (whole_from : ℕ) (durable accepted found : List Event) (cold recorded_cold : Cold) (old new : State) → Opens whole_from durable accepted found cold recorded_cold old new
    → ((found ≡ durable) ⊎ (found ≡ accepted)) × Represents whole_from old.sectors found (contents_of old)
    × ((moment : ℕ) → old.clock ≤ moment → moment ≤ new.clock → (image : ℕ → List ℕ) → MayBeLeft (new.at moment) image
    → (Represents whole_from old.sectors durable image ⊎ Represents whole_from old.sectors accepted image)
    ⊎ Represents whole_from old.sectors (an_event.PowerUp recorded_cold ∷ found) image)
    × (IsReady whole_from durable accepted new ⊎ IsReady whole_from found (an_event.PowerUp recorded_cold ∷ found) new)

-- The cold movement value of a power-up is the one that was handed in where no slot is valid, and else the one that the
-- format of the block of the greatest number leaves.
abbrev pub ColdIsOfFormat : Type 0
ColdIsOfFormat = (slots : ℕ) (image : ℕ → List ℕ) (cold recorded_cold : Cold) → IsRecordedCold (sectors_of slots) image cold recorded_cold
    → (IsNewest slots (valid_at slots image) 0 → recorded_cold ≡ cold)
    × ((newest : ℕ) (block : Block) → 0 < newest → IsNewest slots (valid_at slots image) newest → IsBlockAt slots (valid_at slots image) newest block
    → recorded_cold ≡ cold_reported block.format cold)

-- Wherever power is lost in a life, what is left represents one of the two lists that the disk was ready for, or what
-- it found with the power-up, alone or with what was accepted before a flush. The caller has what it released, after
-- what he had.
abbrev pub LifeHolds : Type 0
LifeHolds = (whole_from : ℕ) (durable accepted found : List Event) (cold recorded_cold : Cold) (steps : List Step) (old new : State) (out_before out_after : List Released)
    → (life : Lives whole_from durable accepted found cold recorded_cold steps old new out_before out_after)
    → ((found ≡ durable) ⊎ (found ≡ accepted)) × (out_after ≡ out_before ++ life.released)
    × ((moment : ℕ) → old.clock ≤ moment → moment ≤ new.clock → (image : ℕ → List ℕ) → MayBeLeft (new.at moment) image
    → (events : List Event) × Represents whole_from old.sectors events image
    × ((events ≡ durable) ⊎ ((events ≡ accepted) ⊎ IsDurable (an_event.PowerUp recorded_cold ∷ found) steps events)))

-- Power may be lost at each moment of a life, and may leave all that it may leave then; or the life hands its disk
-- back.
abbrev pub LeftAtEachMoment : Type 0
LeftAtEachMoment = (old new : State) → IsLeft old new new × ((next : State) (moment : ℕ) → old.clock ≤ moment → moment ≤ new.clock
    → MayBeLeft (new.at moment) (contents_of next) → IsSynced next → next.sectors ≡ old.sectors → IsLeft old new next)

-- What a flush is answered for is durable: all that was accepted before it, and nothing that was accepted later.
abbrev pub FlushedIsDurable : Type 0
FlushedIsDurable = (events : List Event) (one other : Input) → (let steps : List Step = Accept one ∷ Flush ∷ Accept other ∷ [] in
    (durable_by events steps ≡ an_event.Input one ∷ events) × (accepted_by events steps ≡ an_event.Input other ∷ an_event.Input one ∷ events))

-- Each event has one output, with the number of the events before it; they are in the order of the events.
abbrev pub EachHasItsOutput : Type 0
EachHasItsOutput = (events : List Event) (event : Event) →
    pairs_of (event ∷ events) ≡ pairs_of events ++ record { number = length events; output = output_after (event ∷ events) } ∷ []

-- For each number of steps that an opened life took there is a moment from which on whatever a loss of power leaves has
-- all that these steps made durable; and just the outputs of that were released by then.
abbrev pub ReleasedIsKept : Type 0
ReleasedIsKept = (whole_from : ℕ) (durable accepted found : List Event) (recorded_cold : Cold) (steps : List Step) (taken count : ℕ) (old new : State)
    (durable_at_end accepted_at_end : List Event) (released : List Released)
    → WasOpened whole_from durable accepted found recorded_cold steps taken old new durable_at_end accepted_at_end released → count ≤ taken
    → (let initial : List Event = an_event.PowerUp recorded_cold ∷ found in let made : List Event = durable_by initial (take count steps) in
    (moment : ℕ) × (released_by_then : List Released) × (later : List Released) × (released ≡ released_by_then ++ later)
    × (pairs_of made ≡ pairs_of initial ++ released_by_then) × (moment ≤ new.clock)
    × ((k : ℕ) → moment ≤ k → k ≤ new.clock → (image : ℕ → List ℕ) → MayBeLeft (new.at k) image
    → (all : List Event) × IsOlderPart made all × Represents whole_from old.sectors all image))

-- Where all that some lives released is in a list, each output that one of them released is there.
abbrev pub EachStands : Type 0
EachStands = (events : List Event) (earlier later : List OneLife) (life : OneLife) (pair : Released) (before after : List Released)
    → AllStand events (earlier ++ life ∷ later) → life.released_by_then ≡ before ++ pair ∷ after
    → (front : List Released) × (back : List Released) × (pairs_of events ≡ front ++ pair ∷ back)

-- Lives may follow one another wherever each begins on the disk that the one before it left.
abbrev pub LivesFollow : Type 0
LivesFollow = (life : OneLife) (lives : List OneLife) (last : State) → Follow last [] last × (Follow life.next lives last → Follow life.old (life ∷ lives) last)

-- What a life leaves goes with all that it released, where it handed its disk back, or with what the steps released
-- that were done when power was lost.
abbrev pub LeftWithReleased : Type 0
LeftWithReleased = (whole_from : ℕ) (durable accepted found : List Event) (recorded_cold : Cold) (steps first_steps : List Step) (old new next : State) (released : List Released)
    → IsLeftWith whole_from durable accepted found recorded_cold steps old new new released released
    × ((cut : IsCut old new next) (so : Reached whole_from (IsOfLife whole_from old.sectors durable accepted found recorded_cold first_steps) (an_event.PowerUp recorded_cold ∷ found)
    steps first_steps old new released) → so.moment ≤ cut.moment
    → IsLeftWith whole_from durable accepted found recorded_cold steps old new next released so.released_by_then)
