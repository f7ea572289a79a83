-- Readings of different places, of which there are at most eight (this project's profile).
use Rattle.std.specs.Prelude.{ℕ, ◌<◌, ◌≡◌, List, [], ◌∷◌, false}
use Rattle.balise_groups.specs.declared.reading.Reading.{Reading}
use Rattle.balise_groups.specs.Closing.{is_read}

abbrev pub Differ : List Reading → Type 0
Differ [] = Unit {0}
Differ (reading ∷ readings) = (is_read readings reading.telegram.header.position ≡ false) × Differ readings

abbrev pub AllBelow : ℕ → List Reading → Type 0
AllBelow n [] = Unit {0}
AllBelow n (reading ∷ readings) = (reading.telegram.header.position < n) × AllBelow n readings

pub record HaveOwnPlaces (readings : List Reading) : Type 0 where
  pub differ : Differ readings
  pub below : AllBelow 8 readings
