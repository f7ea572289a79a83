-- The mode table (SUBSET-026, 4.6; the rows: this project's profile). The first row that starts from the mode and
-- holds counts, and one alone at an event. A reader may take for granted that the conditions are those after the
-- event.
use Rattle.std.specs.Prelude.{ℕ, ◌+◌, Bool, not, ◌&&◌, if◌then◌else◌, List, [], ◌∷◌}
use Rattle.mode_table.specs.Modes.{is_one_of}
use Rattle.mode_table.specs.declared.mode.Mode.{Mode}
use Rattle.mode_table.specs.declared.mode.Mode.TheVariants.{FullSupervision as FS, OnSight as OS, StaffResponsible as SR, Shunting as SH, Unfitted as UN, StandBy as SB, Trip as TR, PostTrip as PT, SystemFailure as SF}
use Rattle.mode_table.specs.declared.conditions.Conditions.{Conditions}

-- from which modes a row starts, to which it leads, and when
pub record Row : Type 0 where
  pub sources : List Mode
  pub target : Mode
  pub holds : Conditions → Bool

abbrev pub from_any : List Mode → Mode → (Conditions → Bool) → Row
from_any sources target holds = record { sources = sources; target = target; holds = holds }

abbrev pub from : Mode → Mode → (Conditions → Bool) → Row
from source target holds = from_any (source ∷ []) target holds

abbrev pub rows : List Row
rows =
    from_any (FS ∷ OS ∷ SR ∷ SH ∷ UN ∷ SB ∷ TR ∷ PT ∷ []) SF (λ c. c.overrun)  -- 1
    ∷ from_any (FS ∷ OS ∷ SR ∷ SH ∷ UN ∷ PT ∷ []) SB (λ c. c.desk_closed)  -- 2
    ∷ from FS TR (λ c. c.trip)  -- 3
    ∷ from OS TR (λ c. c.trip)  -- 4
    ∷ from SR TR (λ c. c.trip)  -- 5
    ∷ from SR TR (λ c. c.beyond_staff_distance)  -- 6
    ∷ from UN OS (λ c. c.level_1 && c.full && c.on_sight_area)  -- 7
    ∷ from UN FS (λ c. c.level_1 && c.full)  -- 8
    ∷ from UN TR (λ c. c.level_1)  -- 9
    ∷ from TR PT (λ c. c.trip_acknowledged)  -- 10
    ∷ from PT SR (λ c. c.override_accepted)  -- 11
    ∷ from PT SH (λ c. c.shunting_chosen)  -- 12
    ∷ from PT SR (λ c. c.started && c.level_1)  -- 13
    ∷ from PT UN (λ c. c.started && c.level_0)  -- 14
    ∷ from SB SH (λ c. c.shunting_chosen)  -- 15
    ∷ from SB FS (λ c. c.started && c.level_1 && c.full)  -- 16
    ∷ from SB SR (λ c. c.started && c.level_1)  -- 17
    ∷ from SB UN (λ c. c.started && c.level_0)  -- 18
    ∷ from SH SB (λ c. c.shunting_left)  -- 19
    ∷ from FS SH (λ c. c.shunting_chosen)  -- 20
    ∷ from OS SH (λ c. c.shunting_chosen)  -- 21
    ∷ from SR SH (λ c. c.shunting_chosen)  -- 22
    ∷ from UN SH (λ c. c.shunting_chosen)  -- 23
    ∷ from FS SR (λ c. c.override_accepted)  -- 24
    ∷ from OS SR (λ c. c.override_accepted)  -- 25
    ∷ from FS UN (λ c. c.level_0)  -- 26
    ∷ from OS UN (λ c. c.level_0)  -- 27
    ∷ from SR UN (λ c. c.level_0)  -- 28
    ∷ from FS SH (λ c. c.shunting_area)  -- 29
    ∷ from OS SH (λ c. c.shunting_area)  -- 30
    ∷ from FS OS (λ c. c.on_sight_area)  -- 31
    ∷ from SR OS (λ c. c.full && c.on_sight_area)  -- 32
    ∷ from SR FS (λ c. c.full)  -- 33
    ∷ from OS FS (λ c. c.full && not c.on_sight_area)  -- 34
    ∷ []

-- the first row that starts from a mode and holds leads on; where there is none the mode stays
abbrev pub led_by : List Row → Mode → Conditions → Mode
led_by [] mode c = mode
led_by (row ∷ rows) mode c = if is_one_of row.sources mode && row.holds c then row.target else led_by rows mode c

abbrev pub next_mode : Mode → Conditions → Mode
next_mode mode c = led_by rows mode c

-- the number of that row, from so many on; 0 where there is none
abbrev pub number_in : ℕ → List Row → Mode → Conditions → ℕ
number_in next [] mode c = 0
number_in next (row ∷ rows) mode c = if is_one_of row.sources mode && row.holds c then next else number_in (next + 1) rows mode c

abbrev pub row_taken : Mode → Conditions → ℕ
row_taken mode c = number_in 1 rows mode c
