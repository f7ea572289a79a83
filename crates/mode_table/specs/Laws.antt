-- Laws of the mode table and of the statuses (SUBSET-026, 4.6 and 4.10; the rows and lines: this project's profile).
use Rattle.std.specs.Prelude.{◌≡◌, ◌↔◌, ℕ, ◌==◌, Bool, true, false, not, ◌&&◌, List, [], ◌∷◌, IsTrue}
use Rattle.std.specs.List.{list_any}
use Rattle.mode_table.specs.Modes.{is_mode}
use Rattle.mode_table.specs.Rows.{next_mode, row_taken}
use Rattle.mode_table.specs.Statuses.{status_on}
use Rattle.mode_table.specs.declared.mode.Mode.{Mode}
use Rattle.mode_table.specs.declared.mode.Mode.TheVariants.{OnSight, Shunting}
use Rattle.mode_table.specs.declared.conditions.Conditions.{Conditions}
use Rattle.mode_table.specs.declared.statuses.Item.{Item}
use Rattle.mode_table.specs.declared.statuses.Item.TheVariants.{Identity, RunningNumber, Level, Position, NationalValues, AnnouncedValues, Restrictions, OutstandingTrip, Counts}
use Rattle.mode_table.specs.declared.statuses.Fate.{Fate}
use Rattle.mode_table.specs.declared.statuses.Fate.TheVariants.{Kept, Invalid, Deleted}

-- ---- areas and changes of mode

-- a mode is entered from another one
abbrev pub enters : Mode → Mode → Conditions → Bool
enters target mode c = is_mode target (next_mode mode c) && not (is_mode target mode)

-- one of some rows is taken
abbrev pub takes : List ℕ → Mode → Conditions → Bool
takes numbers mode c = list_any (λ number. row_taken mode c == number) numbers

-- whether a change of mode is due to an area can be seen without the row: every entry of On Sight is, and one of
-- Shunting that the driver didn't choose
abbrev pub TurnsByItsRows : Mode → Conditions → Type 0
TurnsByItsRows mode c =
    (takes (7 ∷ 31 ∷ 32 ∷ []) mode c ≡ enters OnSight mode c)
    × (takes (29 ∷ 30 ∷ []) mode c ≡ (enters Shunting mode c && not c.shunting_chosen))

abbrev pub AreasTurnByTheirRows : Type 0
AreasTurnByTheirRows = (mode : Mode) (c : Conditions) → TurnsByItsRows mode c

-- ---- statuses over several modes

-- of an earlier and a later fate: what was deleted or made invalid is no more kept by what comes later
abbrev pub together : Fate → Fate → Fate
together earlier Deleted = Deleted
together Deleted Invalid = Deleted
together earlier Invalid = Invalid
together earlier Kept = earlier

-- what becomes of an item over all modes that were entered, the newest first
abbrev pub status_over : Item → List Mode → Fate
status_over item [] = Kept
status_over item (mode ∷ modes) = together (status_over item modes) (status_on item mode)

-- each mode keeps it
abbrev pub IsKeptByEach : Item → Type 0
IsKeptByEach item = (mode : Mode) → status_on item mode ≡ Kept

-- the items that no mode takes
abbrev pub lasts : Item → Bool
lasts Identity = true
lasts RunningNumber = true
lasts Level = true
lasts Position = true
lasts NationalValues = true
lasts AnnouncedValues = true
lasts Restrictions = true
lasts OutstandingTrip = true
lasts Counts = true
lasts item = false

-- these are the items that each mode keeps
abbrev pub TheseAreKept : Type 0
TheseAreKept = (item : Item) → IsTrue (lasts item) ↔ IsKeptByEach item

-- and what each mode keeps is kept whatever modes are entered, in whatever order
abbrev pub KeptIsNeverLost : Type 0
KeptIsNeverLost = (item : Item) → IsKeptByEach item → (modes : List Mode) → status_over item modes ≡ Kept
