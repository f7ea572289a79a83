-- What the definitions of groups mean, said in other ways (this project's profile). Paths are centimetres.
use Rattle.std.specs.Prelude.{ℕ, ◌≡◌, List, [], ◌∷◌, false, if◌then◌else◌}
use Rattle.vars.specs.declared.group.GroupIdentity.{GroupIdentity}
use Rattle.balise_groups.specs.declared.reading.Reading.{Reading}
use Rattle.balise_groups.specs.Closing.{is_at, is_read, reading_at}
use Rattle.balise_groups.specs.Groups.{GroupEntry, counting, newest, is_passed, groups_of}
use Rattle.balise_groups.specs.Groups.GroupEntry.{Read, Went}

-- no place is lost
abbrev pub KeepsEachPlace : Type 0
KeepsEachPlace = (group : List Reading) (place : ℕ) → is_read (counting group) place ≡ is_read group place

-- the oldest reading of a place, else the one handed in
abbrev pub oldest : ℕ → Reading → List Reading → Reading
oldest place other [] = other
oldest place other (reading ∷ group) = oldest place (if is_at place reading then reading else other) group

-- of each place the first reading counts
abbrev pub CountsTheFirst : Type 0
CountsTheFirst = (group : List Reading) (place : ℕ) (other : Reading) →
    reading_at place other (counting group) ≡ oldest place other group

-- the path of the life, by its movements
abbrev pub path_of : List GroupEntry → ℕ
path_of [] = 0
path_of (Read reading ∷ entries) = path_of entries
path_of (Went path ∷ entries) = path

-- each reading has the path of the life at it
abbrev pub DescribePaths : List GroupEntry → Type 0
DescribePaths [] = Unit {0}
DescribePaths (Read reading ∷ entries) = (reading.sums.path ≡ path_of entries) × DescribePaths entries
DescribePaths (Went path ∷ entries) = DescribePaths entries

-- Where all movements are handed in, the group being read is never left: a telegram goes on with it where it has its
-- name.
abbrev pub IsNeverLeft : Type 0
IsNeverLeft = (entries : List GroupEntry) → DescribePaths entries →
    is_passed (path_of entries) (newest (groups_of entries).current) ≡ false

abbrev pub HaveName : GroupIdentity → List Reading → Type 0
HaveName name [] = Unit {0}
HaveName name (reading ∷ readings) = (reading.telegram.header.group ≡ name) × HaveName name readings

abbrev pub HaveOneName : List Reading → Type 0
HaveOneName [] = Unit {0}
HaveOneName (reading ∷ readings) = HaveName reading.telegram.header.group readings

-- all readings of a group have one name
abbrev pub AreOfOneName : Type 0
AreOfOneName = (entries : List GroupEntry) →
    HaveOneName (groups_of entries).current × HaveOneName (groups_of entries).last
