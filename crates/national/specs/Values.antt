-- National values and the countries that they are for (SUBSET-026, 3.18.2 and 7.4.2; the defaults and the order of the
-- countries: this project's profile). Speeds are metres per hour, distances centimetres, times milliseconds.
use Rattle.std.specs.Prelude.{ℕ, ◌*◌, ◌==◌, Bool, true, false, ◌&&◌, not, if◌then◌else◌, Option, Some, None, List, [], ◌∷◌, ◌++◌}
use Rattle.std.specs.List.{list_any}
use Rattle.vars.specs.Meanings.{centimetres_of}
use Rattle.vars.specs.declared.scale.Scale.{Scale}
use Rattle.vars.specs.declared.special_distance.OpenLength.{OpenLength}
use Rattle.vars.specs.declared.special_distance.OpenLength.TheVariants.{Length, NoEnd}
use Rattle.packets.specs.declared.national.NationalValues.{NationalValues}
use Rattle.national.specs.declared.values.Values.{Values}

-- ---- the values of a packet 3, in metres per hour, centimetres and milliseconds

-- a speed is in steps of 5 km/h
abbrev pub speed_of : ℕ → ℕ
speed_of steps = 5_000 * steps

-- a distance is in units of the packet's scale
abbrev pub distance_in : Scale → ℕ → ℕ
distance_in scale number = number * centimetres_of scale

-- D_NVSTFF: the number of the distance that has no end
abbrev pub endless_distance : ℕ
endless_distance = 32_767

abbrev pub open_distance_in : Scale → OpenLength → Option ℕ
open_distance_in scale (Length number) = if number == endless_distance then None else Some (distance_in scale number)
open_distance_in scale NoEnd = None

-- T_NVOVTRP: the number of the time that has no end
abbrev pub endless_time : ℕ
endless_time = 255

-- a time is in seconds
abbrev pub time_of : ℕ → Option ℕ
time_of seconds = if seconds == endless_time then None else Some (1_000 * seconds)

abbrev pub values_of : NationalValues → Values
values_of packet = record {
  shunting = speed_of packet.shunting;
  staff_responsible = speed_of packet.staff_responsible;
  on_sight = speed_of packet.on_sight;
  unfitted = speed_of packet.unfitted;
  release = speed_of packet.release;
  roll = distance_in packet.scale packet.roll;
  override_allowed = speed_of packet.override_allowed;
  override_speed = speed_of packet.override_speed;
  override_distance = distance_in packet.scale packet.override_distance;
  override_time = time_of packet.override_time;
  staff_responsible_distance = open_distance_in packet.scale packet.staff_responsible_distance;
}

-- ---- the defaults

abbrev pub defaults : Values
defaults = record {
  shunting = 30_000;
  staff_responsible = 40_000;
  on_sight = 30_000;
  unfitted = 100_000;
  release = 40_000;
  roll = 200;
  override_allowed = 0;
  override_speed = 30_000;
  override_distance = 20_000;
  override_time = Some 60_000;
  staff_responsible_distance = None;
}

-- ---- the countries

-- values, with the countries that they are for
pub record ValuesFor : Type 0 where
  pub values : Values
  pub countries : List ℕ

abbrev pub values_for : Values → List ℕ → ValuesFor
values_for values countries = record { values = values; countries = countries }

-- a packet 3 is for the countries that it lists and, after them, for that of its group
abbrev pub reported_by : NationalValues → ℕ → ValuesFor
reported_by packet country = values_for (values_of packet) (packet.countries.items ++ country ∷ [])

abbrev pub is_any : List ℕ → Bool
is_any [] = false
is_any (country ∷ countries) = true

abbrev pub is_among : ℕ → List ℕ → Bool
is_among country countries = list_any (λ other. other == country) countries

-- a country is foreign where there are others and it is none of them
abbrev pub is_foreign : ℕ → List ℕ → Bool
is_foreign country countries = is_any countries && not (is_among country countries)
