-- How many bits a telegram has that bytes carry.
use Rattle.std.proofs.Common.{◌≤◌, ℕ, List, length, ap, arith, length-append}
use Rattle.bits.proofs.Bytes.{length-bits_of}
use Rattle.telegram.specs.Sequences.{length_of_all}
use Rattle.telegram.specs.Telegrams.{Carries}
use Rattle.telegram.specs.declared.message.Telegram.{Telegram}
use Rattle.telegram.proofs.Lengths.{length-telegram}

pub carried_short : (t : Telegram) (bytes : List ℕ) (c : Carries bytes t) → length c.front ≤ 832
carried_short t bytes c =
    let small = c.small in
    omega (arith, ap length c.parts, length-append c.front c.rest, length-bits_of bytes)

pub packets_short : (t : Telegram) (bytes : List ℕ) → Carries bytes t → length_of_all t.packets.items ≤ 832
packets_short t bytes c = omega (arith, carried_short t bytes c, length-telegram t c.front c.spelled)
