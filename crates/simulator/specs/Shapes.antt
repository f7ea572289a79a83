-- Shapes of a JSON value: an object of so many names, and a list (this project's profile).
use Rattle.std.specs.Prelude.{ℕ, ◌==◌, List, [], ◌∷◌, Bool, false, Option, Some, None, option_map}
use Rattle.serde_json.specs.Data.{Data, Items, no_items, item, Members, no_members, member, object}
use Rattle.serde_json.specs.Events.{members_len}
use Rattle.serde_json.specs.Find.{as_array, as_object}

-- an object of so many members
abbrev pub has_count : ℕ → Option Members → Bool
has_count n None = false
has_count n (Some members) = members_len members == n

abbrev pub has_members : ℕ → Data → Bool
has_members n d = has_count n (as_object d)

-- the object of this one member
abbrev pub object_of_one : List ℕ → Data → Data
object_of_one name d = object (member name d no_members)

-- the items of a list
abbrev pub list_of : Items → List Data
list_of no_items = []
list_of (item d ds) = d ∷ list_of ds

abbrev pub list_in : Data → Option (List Data)
list_in d = option_map list_of (as_array d)
