-- Why an event was answered so, as C gets it (this project's profile). Events are numbered from 0, blocks from 1;
-- speeds are metres per hour, distances and places centimetres.
use Rattle.std.specs.Prelude.{◌≡◌, ◌⊎◌, ℕ, ◌-◌, ◌^◌, min, nat_lt, if◌then◌else◌, List, [], ◌∷◌, length, Option, Some, None, is_some}
use Rattle.blocks.specs.Codes.{brake_number}
use Rattle.blocks.specs.declared.block.Block.{Block}
use Rattle.events.specs.declared.output.Output.{Output}
use Rattle.examination.specs.Lost.{first_event_of}
use Rattle.kernel.specs.Brake.{rolled_backward}
use Rattle.kernel.specs.Lives.{Story, past_at}
use Rattle.kernel.specs.Output.{output_at}
use Rattle.speed_supervision.specs.Causes.{IsLimitCause}
use Rattle.speed_supervision.specs.declared.cause.LimitCause.{LimitCause}
use Rattle.mode_control.specs.History.{tracks}
use Rattle.mode_control.specs.Sentences.{values_of}
use Rattle.reasons.specs.LimitTexts.{limit_reported}
use Rattle.reasons.specs.Runs.{runs_of}
use Rattle.reasons.specs.Trips.{trip_of}
use Rattle.reasons.specs.declared.limit_texts.LimitReport.{LimitReport}
use Rattle.reasons.specs.declared.runs.Runs.{Runs}
use Rattle.reasons.specs.declared.trips.TripReport.{TripReport}
use Rattle.track_picture.specs.History.{speed_of}
use Rattle.image_calls.specs.Answers.{Refuses}
use Rattle.image_calls.specs.Images.{ring_in, OfRing, OfBlock}
use Rattle.image_calls.specs.declared.answer.Answer.{Answer}
use Rattle.image_calls.specs.declared.answer.Answer.TheVariants as an_answer
use Rattle.image_calls.specs.declared.images.Ring.{Ring}
use Rattle.c_numbers.specs.Numbers.{or_zero, flag_of, place_or_zero, limit_number}
use Rattle.image_calls.specs.WhyNumbers.{since_of, holds_of, trip_cause_reported, trip_event_reported}
use Rattle.image_calls.specs.Lived.{Lived, life_up_to, story_after, IsLeft}
use Rattle.image_calls.specs.declared.description.EtcsWhy.{EtcsWhy}

-- as C sees it
abbrev pub why_with : ℕ → Output → Runs → Option TripReport → ℕ → ℕ → ℕ → LimitReport → EtcsWhy
why_with event output runs trip backward allowed speed limit = record {
  event = event;
  since = since_of runs;
  trip_event = trip_event_reported trip;
  backward = backward;
  allowed = allowed;
  place = place_or_zero limit.place;
  restriction = or_zero limit.number;
  limit = output.limit;
  speed = speed;
  limit_speed = limit.speed;
  holds = holds_of runs;
  brake = brake_number output.brake;
  trip_cause = trip_cause_reported trip;
  limit_cause = limit_number limit.kind;
  has_place = flag_of (is_some limit.place);
  has_restriction = flag_of (is_some limit.number);
  reserved = 0 ∷ 0 ∷ 0 ∷ 0 ∷ 0 ∷ [];
}

-- the answer to the last event of this story, which has this number, where this is reported of what decides the limit
abbrev pub why_of : ℕ → Story → LimitReport → EtcsWhy
why_of event story limit =
    let life = (past_at story).life in
    why_with event (output_at story) (runs_of story) (trip_of story)
    (min (rolled_backward life) (2 ^ 64 - 1)) (values_of life).roll (speed_of (tracks life.entries)) limit

-- all that is reported is of this story
abbrev pub DescribesWhy : ℕ → Story → EtcsWhy → Type 0
DescribesWhy event story reported = (cause : LimitCause) × IsLimitCause (past_at story).life (output_at story).limit cause
    × (reported ≡ why_of event story (limit_reported (output_at story).limit cause))

-- the place of the record of this event in a block, from 0 on
abbrev pub place_in : Block → ℕ → Option ℕ
place_in b event =
    if nat_lt event (first_event_of b) then None
    else if nat_lt (event - first_event_of b) (length b.records.items) then Some (event - first_event_of b) else None

-- Why an event of the block was answered so is reported: the life up to it is known, and it is said of any story after
-- which the same is kept as before its power-up, and then its events.
pub record Explained (bytes : List ℕ) (ring : Ring) (number event : ℕ) (reported : EtcsWhy) : Type 0 where
  pub life : Lived
  pub life_is : life_up_to bytes ring number event ≡ Some life
  pub so : (story : Story) → IsLeft life.cold life.kept story → DescribesWhy event (story_after life.events story) reported

-- it is reported, or the life isn't known, or memory was refused
abbrev pub Explains : List ℕ → Ring → ℕ → ℕ → EtcsWhy → EtcsWhy → Answer → Type 0
Explains bytes ring number event old new answer =
    ((answer ≡ an_answer.Done) × Explained bytes ring number event new)
    ⊎ (((life_up_to bytes ring number event ≡ None) × Refuses an_answer.NotReplayed old new answer)
    ⊎ Refuses an_answer.NoMemory old new answer)

-- of an event that the block has
abbrev pub OfPlace : List ℕ → Ring → ℕ → Option ℕ → ℕ → EtcsWhy → EtcsWhy → Answer → Type 0
OfPlace bytes ring number None event old new answer = Refuses an_answer.NoSuchRecord old new answer
OfPlace bytes ring number (Some index) event old new answer = Explains bytes ring number event old new answer

-- of this event of the block of this number
abbrev pub AsksWhy : List ℕ → ℕ → ℕ → EtcsWhy → EtcsWhy → Answer → Type 0
AsksWhy bytes number event old new answer = OfRing (ring_in bytes) old new answer
    (λ ring. OfBlock bytes ring number an_answer.NoSuchBlock old new answer
    (λ block. OfPlace bytes ring number (place_in block event) event old new answer))
