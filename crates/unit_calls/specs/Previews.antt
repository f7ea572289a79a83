-- What a telegram or a movement would do as the next input, as C gets it (SUBSET-026, 3.4, 3.4.4 and 3.16.2; the numbers:
-- this project's profile). Groups stand in the order in which they closed.
use Rattle.std.specs.Prelude.{◌≡◌, ◌⊎◌, ℕ, List, [], ◌∷◌, map, length, Option, Some, None, is_some}
use Rattle.std.specs.Option.{unwrap_or}
use Rattle.balise_groups.specs.declared.assembler.hearing.Hearing.TheVariants as hearing
use Rattle.c_numbers.specs.Numbers.{flag_of}
use Rattle.events.specs.declared.input.Event.{Event}
use Rattle.events.specs.declared.input.Event.TheVariants as an_event
use Rattle.events.specs.declared.input.Input.{Input}
use Rattle.events.specs.declared.input.Input.TheVariants.{Telegram}
use Rattle.kernel.specs.Lives.{life_of}
use Rattle.kernel.specs.Quiet.{HasNoTrack, HasSpaceFor}
use Rattle.mode_control.specs.Closings.{closings_by}
use Rattle.mode_control.specs.History.{tracks}
use Rattle.mode_control.specs.Life.{Life}
use Rattle.reasons.specs.GroupTexts.{group_reported}
use Rattle.reasons.specs.declared.group_texts.GroupKind.{GroupKind}
use Rattle.reasons.specs.declared.group_texts.GroupKind.TheVariants as kind
use Rattle.reasons.specs.declared.group_texts.GroupReport.{GroupReport}
use Rattle.telegram.specs.Faults.{number_of_fault}
use Rattle.track_picture.specs.Hearing.{IsHeardSo}
use Rattle.track_picture.specs.Stores.{segment_stores}
use Rattle.track_picture.specs.declared.closings.Closing.{Closing}
use Rattle.track_picture.specs.declared.hearing.TelegramOutcome.{TelegramOutcome}
use Rattle.track_picture.specs.declared.hearing.TelegramOutcome.TheVariants.{NoTelegram, Heard}
use Rattle.unit_start.specs.Events.{IsAhead}
use Rattle.unit_calls.specs.declared.handle.Opened.{Opened}
use Rattle.unit_calls.specs.declared.preview.EtcsGroup.{EtcsGroup}
use Rattle.unit_calls.specs.declared.preview.EtcsPreview.{EtcsPreview}
use Rattle.unit_calls.specs.declared.status.Status.{Status}
use Rattle.unit_calls.specs.declared.status.Status.TheVariants as a_status
use Rattle.vars.specs.Values.{reaction_number}
use Rattle.vars.specs.declared.linking.LinkOrientation.{LinkOrientation}
use Rattle.vars.specs.declared.linking.LinkOrientation.TheVariants as orientation

-- ---- a group

abbrev pub group_kind : GroupKind → ℕ
group_kind kind.Announced = 1
group_kind kind.NotLinked = 2
group_kind kind.LinkingUnused = 3
group_kind kind.NotAnnounced = 4
group_kind kind.WrongWay = 5
group_kind kind.TooEarly = 6
group_kind kind.Missing = 7
group_kind kind.Counter = 8
group_kind kind.Mixed = 9

abbrev pub direction_number : Option LinkOrientation → ℕ
direction_number (Some orientation.Reverse) = 0
direction_number (Some orientation.Nominal) = 1
direction_number None = 2

abbrev pub group_by : GroupReport → EtcsGroup
group_by reported = record {
  country = reported.group.country;
  group = reported.group.number;
  outcome = group_kind reported.kind;
  direction = direction_number reported.direction;
  reaction = reaction_number reported.reaction;
  has_announcement = flag_of (is_some reported.announcement);
  announcement = unwrap_or reported.announcement 0;
  reserved = 0 ∷ 0 ∷ 0 ∷ [];
}

abbrev pub group_of : Closing → EtcsGroup
group_of closing = group_by (group_reported closing)

abbrev pub no_group : EtcsGroup
no_group = record { country = 0; group = 0; outcome = 0; direction = 0; reaction = 0; has_announcement = 0; announcement = 0; reserved = 0 ∷ 0 ∷ 0 ∷ [] }

-- in their places: an input closes two at most
abbrev pub places_of : List EtcsGroup → List EtcsGroup
places_of [] = no_group ∷ no_group ∷ []
places_of (one ∷ []) = one ∷ no_group ∷ []
places_of (one ∷ other ∷ more) = one ∷ other ∷ []

-- ---- a telegram: it counts in its group; its group has closed; its place was read; or the bytes carry none

abbrev pub telegram_number : TelegramOutcome → ℕ
telegram_number (Heard hearing.Counts) = 1
telegram_number (Heard hearing.GroupClosed) = 2
telegram_number (Heard hearing.PlaceRead) = 3
telegram_number (NoTelegram fault) = 4

-- why bytes carry none
abbrev pub fault_number : TelegramOutcome → ℕ
fault_number (Heard so) = 0
fault_number (NoTelegram fault) = number_of_fault fault

abbrev pub IsTelegramOf : Life → Input → ℕ → ℕ → Type 0
IsTelegramOf life (Telegram bytes) telegram fault = (outcome : TelegramOutcome) × IsHeardSo (tracks life.entries) bytes outcome
    × (telegram ≡ telegram_number outcome) × (fault ≡ fault_number outcome)
IsTelegramOf life other telegram fault = (telegram ≡ 0) × (fault ≡ 0)

-- ---- what an input would do as the next one of a life

pub record DescribesPreview (life : Life) (input : Input) (reported : EtcsPreview) : Type 0 where
  -- the groups that it closes
  pub groups : reported.groups ≡ places_of (map group_of (closings_by life input))
  pub count : reported.count ≡ length (closings_by life input)
  -- what becomes of a telegram by itself
  pub telegram : IsTelegramOf life input reported.telegram reported.fault

-- after all accepted inputs; NoMemory where memory is refused, never where there is space for what the input adds and
-- nothing of a track is kept; an input outside its limits is OutOfRange; but for Done nothing is written
abbrev pub Previews : Option Input → Opened → EtcsPreview → EtcsPreview → Status → Type 0
Previews None opened old new status = (status ≡ a_status.OutOfRange) × (new ≡ old)
Previews (Some input) opened old new status =
    (((status ≡ a_status.NoMemory) × (new ≡ old))
    ⊎ ((status ≡ a_status.Done) × ((durable accepted : List Event) → IsAhead durable accepted opened.unit.moored.unit.life
    → DescribesPreview (life_of accepted) input new)))
    × (HasNoTrack segment_stores opened.unit.moored.unit.life.state
    → HasSpaceFor segment_stores opened.unit.moored.unit.life.state (an_event.Input input) → status ≡ a_status.Done)
