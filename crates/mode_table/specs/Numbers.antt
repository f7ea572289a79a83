-- The numbers by which one of several values is reported, in blocks and in scenarios (this project's profile; those of
-- modes are M_MODE: SUBSET-026, 7.5.1).
use Rattle.std.specs.Prelude.{ℕ, List, [], ◌∷◌, Option, Some, None, nat_eq, if◌then◌else◌}
use Rattle.mode_table.specs.Modes.{number_of}
use Rattle.mode_table.specs.declared.mode.Mode.{Mode}
use Rattle.mode_table.specs.declared.mode.Mode.TheVariants as a_mode
use Rattle.mode_table.specs.declared.level.TrainLevel.{TrainLevel}
use Rattle.mode_table.specs.declared.level.TrainLevel.TheVariants.{Level0, Level1}
use Rattle.mode_table.specs.declared.statuses.Cold.{Cold}
use Rattle.mode_table.specs.declared.statuses.Cold.TheVariants as a_cold

-- the first of these values that has the number
abbrev pub by_number : {A : Type 0} → (A → ℕ) → List A → ℕ → Option A
by_number number [] n = None
by_number number (x ∷ xs) n = if nat_eq n (number x) then Some x else by_number number xs n

abbrev pub mode_by : ℕ → Option Mode
mode_by = by_number number_of
    (a_mode.FullSupervision ∷ a_mode.OnSight ∷ a_mode.StaffResponsible ∷ a_mode.Shunting ∷ a_mode.Unfitted ∷ a_mode.StandBy ∷ a_mode.Trip
    ∷ a_mode.PostTrip ∷ a_mode.SystemFailure ∷ [])

abbrev pub level_number : TrainLevel → ℕ
level_number Level0 = 0
level_number Level1 = 1

abbrev pub level_by : ℕ → Option TrainLevel
level_by = by_number level_number (Level0 ∷ Level1 ∷ [])

-- whether the train was moved while power was off
abbrev pub cold_number : Cold → ℕ
cold_number a_cold.Unknown = 0
cold_number a_cold.Moved = 1
cold_number a_cold.NotMoved = 2

abbrev pub cold_by : ℕ → Option Cold
cold_by = by_number cold_number (a_cold.Unknown ∷ a_cold.Moved ∷ a_cold.NotMoved ∷ [])
