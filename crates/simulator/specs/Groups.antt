-- The balises that lie on the track, read off the groups of a scenario (this project's profile). Distances are
-- centimetres.
use Rattle.std.specs.Prelude.{ℕ, ◌+◌, ◌&&◌, nat_le, ℤ, List, [], ◌∷◌, ◌++◌, length, codes, is_some, Bool, true, option_and_then, Option, Result, Ok}
use Rattle.serde_json.specs.Data.{Data}
use Rattle.serde_json.specs.Find.{get, as_str}
use Rattle.simulator.specs.Values.{◌>>=◌, shaped, given, whole, items_at, within, bytes_in}
use Rattle.simulator.specs.Shapes.{has_members}
use Rattle.simulator.specs.declared.balise.Balise.{Balise}
use Rattle.simulator.specs.declared.fault.ScenarioFault.{ScenarioFault}
use Rattle.simulator.specs.declared.fault.ScenarioFault.TheVariants.{Shape}

-- a whole number that stands at a key
abbrev pub whole_at : List ℕ → Data → Option ℤ
whole_at key d = option_and_then whole (get key d)

abbrev pub are_texts : List Data → Bool
are_texts [] = true
are_texts (d ∷ ds) = is_some (as_str d) && are_texts ds

-- after those before it, a balise at a place
unfoldable pub laid_one : ℕ → Data → List Balise → Result (List Balise) ScenarioFault
laid_one at d bs = do
  text ← shaped (as_str d)
  bytes ← bytes_in text
  Ok (bs ++ record { at = at; bytes = bytes } ∷ [])

-- after those before them, balises so far apart, the first of them at a place
abbrev pub laid : ℕ → ℕ → List Data → List Balise → Result (List Balise) ScenarioFault
laid at spacing [] bs = Ok bs
laid at spacing (d ∷ ds) bs = laid_one at d bs >>= laid (at + spacing) spacing ds

-- after those before it, a group of 1 to 8 balises
unfoldable pub group : Data → List Balise → Result (List Balise) ScenarioFault
group d bs = do
  _ ← given (has_members 3 d) Shape
  at ← shaped (whole_at (codes "at") d)
  spacing ← shaped (whole_at (codes "spacing") d)
  items ← items_at (codes "balises") d
  _ ← given (nat_le 1 (length items) && nat_le (length items) 8 && are_texts items) Shape
  first ← within 1 100_000_000 at
  apart ← within 1 1_200 spacing
  laid first apart items bs

-- the groups, one after another
abbrev pub groups : List Data → List Balise → Result (List Balise) ScenarioFault
groups [] bs = Ok bs
groups (d ∷ ds) bs = group d bs >>= groups ds
