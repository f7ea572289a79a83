-- The cold movement values, by the numbers that C hands in (this project's profile).
use Rattle.std.specs.Prelude.{ℕ, ◌==◌, if◌then◌else◌, Option, Some, None}
use Rattle.mode_table.specs.declared.statuses.Cold.{Cold}
use Rattle.mode_table.specs.declared.statuses.Cold.TheVariants.{Unknown, Moved, NotMoved}

abbrev pub cold_by : ℕ → Option Cold
cold_by number =
    if number == 0 then Some Unknown
    else if number == 1 then Some Moved
    else if number == 2 then Some NotMoved
    else None
