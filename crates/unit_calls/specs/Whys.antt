-- Why the newest released output is what it is, and what a display shows of it, as C gets it (this project's profile).
-- Places and distances are centimetres, speeds metres per hour, times milliseconds; lists of events have the newest
-- first.
use Rattle.std.specs.Prelude.{◌≡◌, ℕ, ◌-◌, ℤ, int_lt, ◌-ℤ◌, Bool, true, false, if◌then◌else◌, List, [], ◌∷◌, map, length, Option, Some, None, is_some}
use Rattle.std.specs.Int.RustNames.{unsigned_abs}
use Rattle.braking.specs.declared.target.Target.{Target}
use Rattle.driver.specs.declared.override_left.OverrideLeft.{OverrideLeft}
use Rattle.c_numbers.specs.Numbers.{or_zero, place_or_zero, flag_of, limit_number}
use Rattle.kernel.specs.Brake.{causes_of}
use Rattle.kernel.specs.Causes.{all_causes, is_among}
use Rattle.kernel.specs.Lives.{life_of}
use Rattle.kernel.specs.Output.{output_of}
use Rattle.kernel.specs.Showing.{motion_of, display_of}
use Rattle.kernel.specs.declared.causes.BrakeCause.{BrakeCause}
use Rattle.kernel.specs.declared.showing.Waiting.{Waiting}
use Rattle.kernel.specs.declared.showing.Waiting.TheVariants as waits
use Rattle.speed_supervision.specs.Causes.{IsLimitCause}
use Rattle.speed_supervision.specs.declared.cause.LimitCause.{LimitCause}
use Rattle.speed_supervision.specs.declared.cause.LimitCause.TheVariants as a_limit
use Rattle.speed_supervision.specs.declared.cause.SpeedCause.{SpeedCause}
use Rattle.speed_supervision.specs.declared.cause.SpeedCause.TheVariants as a_speed
use Rattle.mode_control.specs.Life.{Life}
use Rattle.reasons.specs.LimitTexts.{limit_reported}
use Rattle.speed_supervision.specs.Limit.{limit}
use Rattle.unit_calls.specs.Asking.{Asks}
use Rattle.unit_calls.specs.Outputs.{description_of}
use Rattle.unit_calls.specs.declared.handle.Opened.{Opened}
use Rattle.unit_calls.specs.declared.status.Status.{Status}
use Rattle.unit_calls.specs.declared.why.EtcsUnitWhy.{EtcsUnitWhy}
use Rattle.unit_calls.specs.declared.why.Reported.{Reported}

-- ---- the causes of a brake: whether each holds, in the order of the brake table

abbrev pub holds_in : List BrakeCause → List ℕ
holds_in causes = map (λ why. flag_of (is_among why causes)) all_causes

-- ---- what decides the limit: a target ahead of the maximum safe front, a release speed, or neither

abbrev pub target_by : SpeedCause → Option Target
target_by (a_speed.Ahead ahead) = Some ahead.target
target_by (a_speed.OverTrain over) = None
target_by (a_speed.Release release) = None

abbrev pub target_of : LimitCause → Option Target
target_of (a_limit.Speed decides) = target_by decides
target_of a_limit.NoSpeed = None
target_of a_limit.NoTrainData = None
target_of (a_limit.National value) = None

abbrev pub releases_by : SpeedCause → Bool
releases_by (a_speed.Ahead ahead) = false
releases_by (a_speed.OverTrain over) = false
releases_by (a_speed.Release release) = true

abbrev pub releases : LimitCause → Bool
releases (a_limit.Speed decides) = releases_by decides
releases a_limit.NoSpeed = false
releases a_limit.NoTrainData = false
releases (a_limit.National value) = false

-- how far it is from a place to one ahead of it; 0 where it isn't ahead
abbrev pub distance_to : ℤ → ℤ → ℕ
distance_to from place = if int_lt from place then unsigned_abs (place -ℤ from) else 0

abbrev pub target_distance : ℤ → Option Target → ℕ
target_distance front None = 0
target_distance front (Some target) = distance_to front target.place

abbrev pub target_speed : Option Target → ℕ
target_speed None = 0
target_speed (Some target) = target.speed

-- ---- acknowledgements

abbrev pub waiting_number : Waiting → ℕ
waiting_number waits.Nothing = 0
waiting_number waits.Requested = 1
waiting_number (waits.Owed left) = 2

abbrev pub time_left : Waiting → ℕ
time_left waits.Nothing = 0
time_left waits.Requested = 0
time_left (waits.Owed left) = left

-- ---- what is left of an override: of its time, 0 where that has no end; of its distance; and whether its time ends

abbrev pub override_time : Option OverrideLeft → ℕ
override_time None = 0
override_time (Some left) = or_zero left.time

abbrev pub override_distance : Option OverrideLeft → ℕ
override_distance None = 0
override_distance (Some left) = left.distance

abbrev pub override_ends : Option OverrideLeft → Bool
override_ends None = false
override_ends (Some left) = is_some left.time

-- ---- as C sees it

abbrev pub why_with : Reported → EtcsUnitWhy
why_with t = record {
  output = t.output;
  backward = t.motion.backward;
  allowed = t.motion.allowed;
  place = place_or_zero t.limit.place;
  restriction = or_zero t.limit.number;
  target_distance = target_distance t.display_values.max_front t.target;
  on_sight_left = time_left t.display_values.waiting.on_sight;
  shunting_left = time_left t.display_values.waiting.shunting;
  level_0_left = time_left t.display_values.waiting.level_0;
  override_time = override_time t.display_values.overriding;
  override_distance = override_distance t.display_values.overriding;
  service_speed = t.display_values.service_speed;
  emergency_speed = t.display_values.emergency_speed;
  speed = t.motion.speed;
  limit_speed = t.limit.speed;
  target_speed = target_speed t.target;
  release_speed = if t.releases then t.output.limit else 0;
  holds = t.holds;
  limit_cause = limit_number t.limit.kind;
  has_place = flag_of (is_some t.limit.place);
  has_restriction = flag_of (is_some t.limit.number);
  has_target = flag_of (is_some t.target);
  has_release = flag_of t.releases;
  on_sight = waiting_number t.display_values.waiting.on_sight;
  shunting = waiting_number t.display_values.waiting.shunting;
  level_0 = waiting_number t.display_values.waiting.level_0;
  has_override = flag_of (is_some t.display_values.overriding);
  override_ends = flag_of (override_ends t.display_values.overriding);
  reserved = 0 ∷ 0 ∷ 0 ∷ 0 ∷ [];
}

-- what is known after the event of this number that led to a life, where this decides the limit
abbrev pub reported_in : ℕ → Life → LimitCause → Reported
reported_in event life decides = record {
  output = description_of (record { number = event; output = output_of life });
  motion = motion_of life;
  limit = limit_reported (limit life) decides;
  target = target_of decides;
  releases = releases decides;
  display_values = display_of life;
  holds = holds_in (causes_of life);
}

-- all that is reported is of this life
abbrev pub DescribesLifeWhy : ℕ → Life → EtcsUnitWhy → Type 0
DescribesLifeWhy event life reported = (decides : LimitCause) × IsLimitCause life (limit life) decides
    × (reported ≡ why_with (reported_in event life decides))

-- the newest event is reported of
abbrev pub AsksUnitWhy : Opened → EtcsUnitWhy → EtcsUnitWhy → Status → Type 0
AsksUnitWhy = Asks (λ events reported. DescribesLifeWhy (length events - 1) (life_of events) reported)
