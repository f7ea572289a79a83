-- How many packets there can be: by the bytes of the telegram that has them (SUBSET-026, 8.4.2).
use Rattle.std.specs.Prelude.{ℕ}

-- the bytes of a telegram at most; they have 832 bits
abbrev pub telegram_bytes : ℕ
telegram_bytes = 104
