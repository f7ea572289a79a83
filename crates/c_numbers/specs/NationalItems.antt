-- What is reported of national values (this project's profile). Speeds are metres per hour, distances centimetres, times
-- milliseconds.
use Rattle.std.specs.Prelude.{◌≡◌, ℕ, ◌-◌, ◌^◌, List, ◌++◌, length, replicate, Option, Some, None}
use Rattle.national.specs.Values.{ValuesFor}
use Rattle.national.specs.declared.values.Values.{Values}
use Rattle.c_numbers.specs.declared.national_items.EtcsNational.{EtcsNational}

-- what has no end is reported by the greatest number
abbrev pub open_reported : Option ℕ → ℕ
open_reported None = 2 ^ 32 - 1
open_reported (Some n) = n

-- the countries are in the first of 32 places, in their order, and zeros after them
abbrev pub AreCountries : List ℕ → List ℕ → Type 0
AreCountries countries reported = reported ≡ countries ++ replicate (32 - length countries) 0

-- as C sees them
abbrev pub national_reported : Values → ℕ → List ℕ → EtcsNational
national_reported v count countries = record {
  shunting = v.shunting;
  staff_responsible = v.staff_responsible;
  on_sight = v.on_sight;
  unfitted = v.unfitted;
  release = v.release;
  roll = v.roll;
  override_allowed = v.override_allowed;
  override_speed = v.override_speed;
  override_distance = v.override_distance;
  override_time = open_reported v.override_time;
  staff_responsible_distance = open_reported v.staff_responsible_distance;
  count = count;
  countries = countries;
}

abbrev pub DescribesNational : ValuesFor → EtcsNational → Type 0
DescribesNational national reported = (countries : List ℕ) × AreCountries national.countries countries
    × (reported ≡ national_reported national.values (length national.countries) countries)
