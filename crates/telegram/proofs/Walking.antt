-- The packets that so many readings give.
use Rattle.std.proofs.Common.{◌≡◌, ◌↔◌, ℕ, zero, suc, ◌+◌, ◌-◌, ◌<◌, ◌≤◌, Bool, List, [], ◌∷◌, length, drop, Some, None, Ok, Err, refl, sym, ap, subst, ◌∙◌, arith}
use Rattle.bits.specs.Bits.{bits_of}
use Rattle.bits.specs.Layout.{read}
use Rattle.bits.proofs.Bytes.{length-bits_of}
use Rattle.bits.proofs.Laws.{initial, found}
use Rattle.packets.specs.Packets.{length_of}
use Rattle.packets.specs.declared.packet.Packet.{Packet}
use Rattle.telegram.specs.Sequences.{BeginsPackets}
use Rattle.telegram.specs.Telegrams.{header_bits, next_packet, Carries, RefusesBytes}
use Rattle.telegram.specs.Walks.{Walk, IsWalkOf, packets_of, located_from, packets_in, received, HoldPackets}
use Rattle.telegram.specs.declared.header.Header.{Header}
use Rattle.telegram.specs.declared.message.Telegram.{Telegram}
use Rattle.telegram.proofs.Answering.{made, failed, ok_same, carried, carried_once, not_refused}
use Rattle.telegram.proofs.Lengths.{packet_length, packets_take, header_takes}
use Rattle.telegram.proofs.Places.{after_front}
use Rattle.telegram.specs.declared.fault.TelegramFault.{TelegramFault}

-- packets that the bits begin with are read
pub packets_in-begins : (ps : List Packet) (bits rest : List Bool) → BeginsPackets ps bits rest → packets_in (length ps) bits ≡ ps
unfolding packets_in
packets_in-begins [] bits rest b = refl
packets_in-begins (p ∷ ps) bits rest b = rw (initial next_packet (Some p) bits b.0 b.1) (ap (λ (t : List Packet). p ∷ t) (packets_in-begins ps b.0 rest b.2))

-- the first of so many packets is read, and as many less one are left
pub packets_in-first : (n : ℕ) (bits next : List Bool) (p : Packet) → 0 < n → read next_packet bits ≡ Ok (Some p, next) → packets_in n bits ≡ p ∷ packets_in (n - 1) next
unfolding packets_in
packets_in-first zero bits next p some e = absurd (omega arith)
packets_in-first (suc n) bits next p some e =
    let k : suc n - 1 ≡ n = omega arith in
    rw (k, e) refl

-- where no packet is read there are not so many
pub packets_in-end : (n : ℕ) (bits next : List Bool) → 0 < n → read next_packet bits ≡ Ok (None, next) → length (packets_in n bits) ≡ n → ⊥
unfolding packets_in
packets_in-end zero bits next some e exact = omega arith
packets_in-end (suc n) bits next some e exact = let none = rw e at exact in omega arith

pub packets_in-fault : (n : ℕ) (bits : List Bool) (d : TelegramFault) → 0 < n → read next_packet bits ≡ Err d → length (packets_in n bits) ≡ n → ⊥
unfolding packets_in
packets_in-fault zero bits d some e exact = omega arith
packets_in-fault (suc n) bits d some e exact = let none = rw e at exact in omega arith

-- the bits that a packet took
pub taken : (p : Packet) (bits next : List Bool) → read next_packet bits ≡ Ok (Some p, next) → length next + length_of p ≡ length bits
taken p bits next e = packet_length p bits next (found next_packet _ _ _ e)

-- ---- answers

abbrev walk_of : List ℕ → Telegram → Walk
walk_of bytes t = record { header = t.header; items = located_from bytes header_bits t.packets.items }

-- as many packets as there are
pub packets_in-all : (ps : List Packet) (n : ℕ) (bits rest : List Bool) → length ps ≡ n → BeginsPackets ps bits rest → packets_in n bits ≡ ps
packets_in-all ps n bits rest e b = subst (λ (k : ℕ). packets_in k bits ≡ ps) e (packets_in-begins ps bits rest b)

pub walk_found : (bytes : List ℕ) (t : Telegram) (v : Walk) → Carries bytes t → v ≡ walk_of bytes t → (w : Walk) → (made v ≡ made w) ↔ IsWalkOf bytes w
walk_found bytes t v c e w = (
  λ same. (t, c, sym (ok_same v w same) ∙ e),
  λ h. ap made (e ∙ ap (walk_of bytes) (carried_once bytes t h.0 c h.1) ∙ sym h.2),
)

pub walk_refused : (bytes : List ℕ) (d : TelegramFault) → RefusesBytes d bytes → (w : Walk) → (failed Walk d ≡ made w) ↔ IsWalkOf bytes w
walk_refused bytes d r w = (λ same. absurd cc, λ h. absurd (not_refused bytes h.0 d h.1 r))

-- ---- a telegram that is kept in its bytes

-- what a walk reports
pub located_packets : (bytes : List ℕ) (start : ℕ) (ps : List Packet) → packets_of (located_from bytes start ps) ≡ ps
located_packets bytes start [] = refl
located_packets bytes start (p ∷ ps) = ap (λ (qs : List Packet). p ∷ qs) (located_packets bytes (start + length_of p) ps)

-- as many as there are places
pub located_count : (bytes : List ℕ) (start : ℕ) (ps : List Packet) → length (located_from bytes start ps) ≡ length ps
located_count bytes start [] = refl
located_count bytes start (p ∷ ps) = let more = located_count bytes (start + length_of p) ps in omega (arith, more)

-- after its header the packets of a telegram are read
packets_after : (bytes : List ℕ) (t : Telegram) → Carries bytes t → packets_in (length t.packets.items) (drop header_bits (bits_of bytes)) ≡ t.packets.items
packets_after bytes t c =
    let b = carried bytes t c in
    let long = header_takes t.header (bits_of bytes) b.following b.header_first in
    rw (after_front b.header_first.front b.following (bits_of bytes) header_bits b.header_first.parts long) (packets_in-begins t.packets.items b.following c.rest b.packets_then)

pub all_after : (bytes : List ℕ) (t : Telegram) (n : ℕ) → Carries bytes t → n ≡ length t.packets.items → packets_in n (drop header_bits (bits_of bytes)) ≡ t.packets.items
all_after bytes t n c e = subst (λ (k : ℕ). packets_in k (drop header_bits (bits_of bytes)) ≡ t.packets.items) (sym e) (packets_after bytes t c)

-- what has space after the header and before the end mark
pub few_packets : (bytes : List ℕ) (t : Telegram) → Carries bytes t → length t.packets.items ≤ 33
few_packets bytes t c =
    let b = carried bytes t c in
    omega (arith, c.small, length-bits_of bytes, header_takes _ _ _ b.header_first, packets_take _ _ _ b.packets_then)

pub held : (bytes : List ℕ) (t : Telegram) (n : ℕ) → Carries bytes t → n ≡ length t.packets.items → HoldPackets n bytes
held bytes t n c e =
    let b = carried bytes t c in
    let long = header_takes t.header (bits_of bytes) b.following b.header_first in
    record {
      small = c.small;
      header_first = omega (arith, long, length-bits_of bytes);
      few = omega (arith, e, few_packets bytes t c);
      counted = ap length (all_after bytes t n c e) ∙ sym e;
    }

-- what is kept of the bytes of a walk: a copy of them, the header and the number of the packets
module _ (bytes copy : List ℕ) (w : Walk) (walk : IsWalkOf bytes w) (h : Header) (n : ℕ) (h_is : h ≡ w.header) (n_is : n ≡ length w.items) (copy_is : copy ≡ bytes) where
  count_is : n ≡ length walk.0.packets.items
  count_is = n_is ∙ ap (λ (v : Walk). length v.items) walk.2 ∙ located_count bytes header_bits walk.0.packets.items

  pub copy_held : HoldPackets n copy
  copy_held = subst (λ (b : List ℕ). HoldPackets n b) (sym copy_is) (held bytes walk.0 n walk.1 count_is)

  pub received_same : received h n copy ≡ walk.0
  received_same =
      let header_is : h ≡ walk.0.header = h_is ∙ ap (λ (v : Walk). v.header) walk.2 in
      (λ i. received (header_is i) n (copy_is i)) ∙ (λ i. record { header = walk.0.header; packets = record { items = all_after bytes walk.0 n walk.1 count_is i } })

pub received_found : (bytes : List ℕ) (t v : Telegram) → Carries bytes t → v ≡ t → (u : Telegram) → (made v ≡ made u) ↔ Carries bytes u
received_found bytes t v c e u = (
  λ same. subst (λ (x : Telegram). Carries bytes x) (sym e ∙ ok_same v u same) c,
  λ d. ap made (e ∙ carried_once bytes t u c d),
)

pub received_refused : (bytes : List ℕ) (d : TelegramFault) → RefusesBytes d bytes → (u : Telegram) → (failed Telegram d ≡ made u) ↔ Carries bytes u
received_refused bytes d r u = (λ same. absurd cc, λ c. absurd (not_refused bytes u d c r))
