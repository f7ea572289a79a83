-- What spells a telegram is what is written of it.
use Rattle.std.proofs.Common.{◌≡◌, ℕ, suc, ◌+◌, ◌*◌, ◌/◌, ◌-◌, ◌<◌, ◌≤◌, ◌==◌, Bool, false, List, [], ◌∷◌, ◌++◌, length, take, drop, replicate, get_or, Option, Some, None, refl, sym, ap, subst, ◌∙◌, arith, append_assoc, drop-cons, length-append, length-take}
use Rattle.std.proofs.lemmas.List.{drop_all}
use Rattle.bits.specs.Bits.{bits_of, number, number_bits}
use Rattle.bits.specs.Layout.{Spells, choice, done, kind, reported_as}
use Rattle.bits.specs.Writing.{appended}
use Rattle.packets.specs.Packets.{packet, packet_of}
use Rattle.packets.specs.declared.packet.Packet.{Packet}
use Rattle.telegram.specs.Encodings.{Encoded}
use Rattle.telegram.specs.Faults.{telegram_fault}
use Rattle.telegram.specs.Telegrams.{header, next_packet, Carries, SpellsPackets, SpellsTelegram}
use Rattle.telegram.specs.declared.header.Header.{Header}
use Rattle.telegram.specs.declared.message.Telegram.{Telegram}
use Rattle.telegram.proofs.Lengths.{found-header, next_is_packet, end_mark}

-- ---- packets in turn

-- the packet at a place, with what spells those after it
pub record Next (ps : List Packet) (i : ℕ) (p : Packet) (old all : List Bool) : Type 0 where
  pub front : List Bool
  pub rest : List Bool
  pub spelled : Spells packet p front
  pub others : SpellsPackets (drop (i + 1) ps) rest
  pub parts : old ++ (front ++ rest) ≡ all

pub next_of : (ps : List Packet) (i : ℕ) (p : Packet) (old all left : List Bool) → i < length ps → p ≡ get_or ps i p → SpellsPackets (drop i ps) left → old ++ left ≡ all → Next ps i p old all
next_of ps i p old all left lt e s parts =
    let next : suc i ≡ i + 1 = omega arith in
    let cut : drop i ps ≡ p ∷ drop (i + 1) ps = drop-cons ps i p lt ∙ ap (λ (q : Packet). q ∷ drop (suc i) ps) (sym e) ∙ ap (λ (n : ℕ). p ∷ drop n ps) next in
    let t : SpellsPackets (p ∷ drop (i + 1) ps) left = subst (λ (qs : List Packet). SpellsPackets qs left) cut s in
    record { front = t.0; rest = t.1; spelled = next_is_packet p t.0 t.3; others = t.4; parts = ap (λ (u : List Bool). old ++ u) (sym t.2) ∙ parts }

-- after the packets only the end mark is left
pub last_of : (ps : List Packet) (i : ℕ) (left : List Bool) → length ps ≤ i → SpellsPackets (drop i ps) left → left ≡ number_bits 8 255
last_of ps i left le s = end_mark left (subst (λ (qs : List Packet). SpellsPackets qs left) (drop_all i ps le) s)

-- what fits as a whole fits in part
pub part_fits : (old front rest start bits : List Bool) → old ++ (front ++ rest) ≡ start ++ bits → length start + length bits ≤ 832 → length old + length front ≤ 832
part_fits old front rest start bits parts fits =
    omega (arith, ap length parts, length-append old (front ++ rest), length-append front rest, length-append start bits)

pub whole_fits : (old left start bits : List Bool) (n : ℕ) → length left ≡ n → old ++ left ≡ start ++ bits → (length old + n ≤ 832 → length start + length bits ≤ 832) × (length start + length bits ≤ 832 → length old + n ≤ 832)
whole_fits old left start bits n long parts =
    let same : length old + n ≡ length start + length bits = omega (arith, ap length parts, length-append old left, length-append start bits) in
    (λ fits. omega arith, λ fits. omega arith)

pub one_written : (old front rest new all : List Bool) → new ≡ old ++ front → old ++ (front ++ rest) ≡ all → new ++ rest ≡ all
one_written old front rest new all put parts = ap (λ (t : List Bool). t ++ rest) put ∙ append_assoc old front rest ∙ parts

-- ---- the whole telegram

pub header_first : (t : Telegram) (bits start first : List Bool) → start ≡ [] → first ≡ appended header t.header start → (s : SpellsTelegram t bits) → first ≡ s.0
header_first t bits start first none put s = put ∙ ap (appended header t.header) none ∙ sym (found-header.is t.header [] s.0 s.3)

pub encoded : (t : Telegram) (bits written : List Bool) (old new : List ℕ) (n : ℕ) → written ≡ bits → SpellsTelegram t bits → n ≡ (length written + 7) / 8
    → bits_of (take n new) ≡ written ++ replicate (8 * n - length written) false → drop n new ≡ drop n old → Encoded t old new n
encoded t bits written old new n same s count parts rest = record {
  bits = written;
  spelled = subst (λ (b : List Bool). SpellsTelegram t b) (sym same) s;
  count = count;
  written = parts;
  rest = rest;
}

pub carried : (t : Telegram) (old new : List ℕ) (n : ℕ) → length new ≡ 104 → Encoded t old new n → Carries (take n new) t
carried t old new n long e = record {
  small = omega (arith, length-take n new);
  front = e.bits;
  rest = replicate (8 * n - length e.bits) false;
  parts = e.written;
  spelled = e.spelled;
}

-- ---- one more packet

after_other : (number : ℕ) (p : Packet) (bits : List Bool) → (number == 255) ≡ false → Spells (packet_of number) p bits
    → Spells (choice (number == 255) (done None) (kind Some (λ (o : Option Packet). o) (reported_as telegram_fault (packet_of number)))) (Some p) bits
after_other number p bits other s = rw other (p, refl, s)

pub next_packet_spelled : (p : Packet) (bits : List Bool) → Spells packet p bits → Spells next_packet (Some p) bits
unfolding next_packet packet packet_of
next_packet_spelled p bits s = (s.0, s.1, s.2, s.3, s.4, after_other s.0 p s.2 (s.5.4.0) s.5)

pushed : (ps : List Packet) (p : Packet) (bits part : List Bool) → SpellsPackets ps bits → Spells packet p part → (all : List Bool) × SpellsPackets (ps ++ p ∷ []) all
pushed [] p bits part s one = (part ++ bits, (part, bits, refl, next_packet_spelled p part one, s))
pushed (q ∷ ps) p bits part s one =
    let more = pushed ps p s.1 part s.4 one in
    (s.0 ++ more.0, (s.0, more.0, refl, s.3, more.1))

pub pushed_telegram : (t u : Telegram) (p : Packet) (bits part : List Bool) → u.header ≡ t.header → u.packets.items ≡ t.packets.items ++ p ∷ [] → SpellsTelegram t bits → Spells packet p part
    → (all : List Bool) × SpellsTelegram u all
pushed_telegram t u p bits part heads lists s one =
    let more = pushed t.packets.items p s.1 part s.4 one in
    (s.0 ++ more.0, (s.0, more.0, refl, subst (λ (h : Header). Spells header h s.0) (sym heads) s.3, subst (λ (ps : List Packet). SpellsPackets ps more.0) (sym lists) more.1))
