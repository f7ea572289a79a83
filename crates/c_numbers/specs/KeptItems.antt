-- What is reported of what a block keeps (this project's profile). Lengths and distances are centimetres, speeds metres per
-- hour, times milliseconds. What isn't known is reported by zeros.
use Rattle.std.specs.Prelude.{◌≡◌, ℕ, pos, Bool, if◌then◌else◌, List, ◌++◌, length, drop, replicate, Option, Some, None, is_some}
use Rattle.c_numbers.specs.Numbers.{or_zero, flag_of}
use Rattle.driver.specs.Limits.{Train}
use Rattle.driver.specs.declared.datum.Datum.{Datum}
use Rattle.driver.specs.declared.datum.Datum.TheVariants as a_datum
use Rattle.events.specs.Kept.{PositionFrom}
use Rattle.events.specs.declared.kept.Kept.{Kept}
use Rattle.mode_table.specs.Numbers.{level_number}
use Rattle.mode_table.specs.declared.level.TrainLevel.{TrainLevel}
use Rattle.c_numbers.specs.NationalItems.{DescribesNational}
use Rattle.c_numbers.specs.declared.kept_items.EtcsKept.{EtcsKept}
use Rattle.c_numbers.specs.declared.kept_items.EtcsTrain.{EtcsTrain}
use Rattle.c_numbers.specs.declared.kept_items.Group.{Group}
use Rattle.c_numbers.specs.declared.national_items.EtcsNational.{EtcsNational}

abbrev pub status_number : {A : Type 0} → Datum A → ℕ
status_number a_datum.Unknown = 0
status_number (a_datum.Valid value) = 1
status_number (a_datum.Invalid value) = 2

abbrev pub level_reported : Datum TrainLevel → ℕ
level_reported a_datum.Unknown = 0
level_reported (a_datum.Valid level) = level_number level
level_reported (a_datum.Invalid level) = level_number level

abbrev pub train_reported : Option Train → EtcsTrain
train_reported None = record { length = 0; maximum = 0; deceleration = 0; reaction = 0; category = 0 }
train_reported (Some t) = record {
  length = t.length;
  maximum = t.maximum;
  deceleration = t.brakes.deceleration;
  reaction = t.brakes.reaction;
  category = t.category;
}

abbrev pub group_of : PositionFrom → Group
group_of place = record { country = place.group.country; number = place.group.number; distance = place.distance }

abbrev pub group_reported : Datum PositionFrom → Group
group_reported a_datum.Unknown = record { country = 0; number = 0; distance = pos 0 }
group_reported (a_datum.Valid place) = group_of place
group_reported (a_datum.Invalid place) = group_of place

-- an identity, and zeros after it
abbrev pub identity_reported : Option (List ℕ) → List ℕ
identity_reported None = replicate 16 0
identity_reported (Some bytes) = bytes ++ drop (length bytes) (replicate 16 0)

abbrev pub identity_bytes : Option (List ℕ) → ℕ
identity_bytes None = 0
identity_bytes (Some bytes) = length bytes

-- as C sees it, with these national values
abbrev pub kept_reported : Kept → EtcsNational → EtcsKept
kept_reported kept national = record {
  distance = (group_reported kept.position).distance;
  train = train_reported kept.train_data;
  running_number = or_zero kept.running_number;
  country = (group_reported kept.position).country;
  group = (group_reported kept.position).number;
  identity = identity_reported kept.identity;
  identity_len = identity_bytes kept.identity;
  has_running_number = flag_of (is_some kept.running_number);
  has_train = flag_of (is_some kept.train_data);
  level_status = status_number kept.level;
  level = level_reported kept.level;
  position_status = status_number kept.position;
  trip_outstanding = flag_of kept.trip_outstanding;
  reserved = 0;
  national = national;
}

abbrev pub DescribesKept : Kept → EtcsKept → Type 0
DescribesKept kept reported = (national : EtcsNational) × DescribesNational kept.national national × (reported ≡ kept_reported kept national)
