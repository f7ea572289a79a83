-- Bits as a list, the highest first, and the numbers that they spell (SUBSET-026, 7.3: the most significant bit of a
-- variable is transmitted first).
use Rattle.std.specs.Prelude.{ℕ, zero, suc, ◌+◌, ◌*◌, ◌^◌, ◌==◌, Bool, List, [], ◌∷◌, ◌++◌, length}
use Rattle.std.specs.Int.{bit_at, from_bool}

-- the bit of weight 2 ^ i
abbrev pub bit_of : ℕ → ℕ → Bool
bit_of n i = bit_at n i == 1

-- the lowest n bits of a number, the highest of them first
unfoldable pub number_bits : ℕ → ℕ → List Bool
number_bits zero v = []
number_bits (suc n) v = bit_of v n ∷ number_bits n v

-- the bits of bytes, each from its highest
abbrev pub bits_of : List ℕ → List Bool
bits_of [] = []
bits_of (b ∷ bs) = number_bits 8 b ++ bits_of bs

-- the number that bits spell: each counts by its weight
abbrev pub number : List Bool → ℕ
number [] = 0
number (b ∷ bs) = from_bool b * 2 ^ length bs + number bs
