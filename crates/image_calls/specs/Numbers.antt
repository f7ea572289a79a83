-- The numbers by which C gets what is one of several values (this project's profile).
use Rattle.std.specs.Prelude.{ℕ}
use Rattle.blocks.specs.declared.format.Format.{Format}
use Rattle.blocks.specs.declared.format.Format.TheVariants.{One, Two, Three}

abbrev pub format_number : Format → ℕ
format_number One = 1
format_number Two = 2
format_number Three = 3
