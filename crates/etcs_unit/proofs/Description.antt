-- What the number of a fault reports, and how many packets a walk has.
use Rattle.std.proofs.Common.{◌≡◌, ◌==◌, ◌↔◌, ◌<◌, ◌+◌, ◌∙◌, ℕ, suc, List, [], ◌∷◌, length, Result, Ok, refl, sym, ap, if◌then◌else◌, arith}
use Rattle.telegram.specs.Faults.{number_of_fault}
use Rattle.packets.specs.Packets.{length_of}
use Rattle.packets.specs.declared.packet.Packet.{Packet}
use Rattle.telegram.specs.Telegrams.{header_bits, Carries}
use Rattle.telegram.specs.Walks.{Walk, IsWalkOf, located_from}
use Rattle.telegram.specs.declared.fault.TelegramFault.{TelegramFault}
use Rattle.telegram.specs.declared.fault.TelegramFault.TheVariants.{Truncated, WrongLength, Spare, OutOfRange, WrongVersion, NotUplink, NotBalise, NoEnd, TooLong}
use Rattle.telegram.specs.declared.message.Telegram.{Telegram}

-- the fault of a number
fault_at : ℕ → TelegramFault
fault_at n =
    if n == 1 then Truncated else if n == 2 then WrongLength else if n == 3 then Spare else if n == 4 then OutOfRange else if n == 5 then WrongVersion
    else if n == 6 then NotUplink else if n == 7 then NotBalise else if n == 8 then NoEnd else TooLong

fault_at-number : (e : TelegramFault) → fault_at (number_of_fault e) ≡ e
unfolding fault_at
fault_at-number Truncated = refl
fault_at-number other = refl

pub number_once : (d e : TelegramFault) → number_of_fault d ≡ number_of_fault e → d ≡ e
number_once d e same = sym (fault_at-number d) ∙ ap fault_at same ∙ fault_at-number e

pub number_some : (e : TelegramFault) → 0 < number_of_fault e
number_some Truncated = omega arith
number_some other = omega arith

-- ---- walks

length-located : (bytes : List ℕ) (start : ℕ) (ps : List Packet) → length (located_from bytes start ps) ≡ length ps
length-located bytes start [] = refl
length-located bytes start (p ∷ ps) = ap suc (length-located bytes (start + length_of p) ps)

abbrev pub walk_of : List ℕ → Telegram → Walk
walk_of bytes t = record { header = t.header; items = located_from bytes header_bits t.packets.items }

abbrev made : Walk → Result Walk TelegramFault
made w = Ok w

walk_once : (v w : Walk) → made v ≡ made w → v ≡ w
walk_once v w same = cc

pub walk_length : (bytes : List ℕ) (w : Walk) (t : Telegram) → ((v : Walk) → (made w ≡ made v) ↔ IsWalkOf bytes v) → Carries bytes t → length w.items ≡ length t.packets.items
walk_length bytes w t found c = ap (λ (v : Walk). length v.items) (walk_once w _ ((found (walk_of bytes t)).1 (t, c, refl))) ∙ length-located bytes header_bits t.packets.items
