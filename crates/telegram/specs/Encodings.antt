-- A telegram in the front of bytes (this project's profile).
use Rattle.std.specs.Prelude.{◌≡◌, ◌+◌, ◌-◌, ◌*◌, ◌/◌, ℕ, Bool, false, List, ◌++◌, length, take, drop, replicate}
use Rattle.bits.specs.Bits.{bits_of}
use Rattle.telegram.specs.Telegrams.{SpellsTelegram}
use Rattle.telegram.specs.declared.message.Telegram.{Telegram}

-- The first n bytes spell the telegram and pad it with zero bits to a whole byte; the bytes after them stayed.
pub record Encoded (t : Telegram) (old new : List ℕ) (n : ℕ) : Type 0 where
  pub bits : List Bool
  pub spelled : SpellsTelegram t bits
  pub count : n ≡ (length bits + 7) / 8
  pub written : bits_of (take n new) ≡ bits ++ replicate (8 * n - length bits) false
  pub rest : drop n new ≡ drop n old
