-- The telegram that bytes carry is the one that is read in them.
use Rattle.std.proofs.Common.{◌≡◌, ◌<◌, ◌≤◌, ℕ, zero, suc, Bool, true, false, List, [], ◌∷◌, length, Option, Some, None, Result, Ok, Err, refl, ap, subst, cond, arith}
use Rattle.std.specs.Prelude.{nat_le}
use Rattle.std.specs.Option.{option_map}
use Rattle.std.proofs.lemmas.Bool.Decides.{nat_tests}
use Rattle.std.proofs.lemmas.Option.{same_Some, none-some}
use Rattle.bits.specs.Bits.{bits_of}
use Rattle.bits.specs.Layout.{read}
use Rattle.bits.proofs.Laws.{found, initial}
use Rattle.packets.specs.declared.packet.Packet.{Packet}
use Rattle.telegram.specs.declared.fault.TelegramFault.{TelegramFault}
use Rattle.telegram.specs.declared.header.Header.{Header}
use Rattle.telegram.specs.declared.message.Telegram.{Telegram}
use Rattle.telegram.specs.Sequences.{BeginsPackets}
use Rattle.telegram.specs.Telegrams.{header, next_packet, Carries, RefusesBytes}
use Rattle.telegram.proofs.Answering.{carried, not_refused, read_carries}
use Rattle.telegram.proofs.Lengths.{packets_take}
use Rattle.track_picture.specs.Bytes.{telegram_in, packets_before_end, those_from, with_header}

-- ---- the packets before the end mark

all_before_end : (ps : List Packet) (n : ℕ) (bits rest : List Bool) → BeginsPackets ps bits rest → length ps < n → packets_before_end n bits ≡ Some ps
unfolding packets_before_end
all_before_end ps zero bits rest b few = absurd (omega arith)
all_before_end [] (suc n) bits rest b few = rw (initial next_packet None bits rest b) refl
all_before_end (p ∷ ps) (suc n) bits rest b few =
    rw (initial next_packet (Some p) bits b.0 b.1) (ap (option_map (λ (qs : List Packet). p ∷ qs)) (all_before_end ps n b.0 rest b.2 (omega arith)))

abbrev StartsWithPackets : List Packet → List Bool → Type 0
StartsWithPackets ps bits = (rest : List Bool) × BeginsPackets ps bits rest

one_before : (p : Packet) (bits mid : List Bool) (o : Option (List Packet)) (ps : List Packet) → read next_packet bits ≡ Ok (Some p, mid)
    → option_map (λ (qs : List Packet). p ∷ qs) o ≡ Some ps → ((qs : List Packet) → o ≡ Some qs → StartsWithPackets qs mid) → StartsWithPackets ps bits
one_before p bits mid None ps is same more = absurd (none-some ps same)
one_before p bits mid (Some qs) ps is same more =
    let b = more qs refl in
    subst (λ (rs : List Packet). StartsWithPackets rs bits) (same_Some (p ∷ qs) ps same) (b.0, (mid, found next_packet bits (Some p) mid is, b.1))

from_read : (n : ℕ) (bits : List Bool) (r : Result (Option Packet × List Bool) TelegramFault) (ps : List Packet) → read next_packet bits ≡ r
    → those_from r (packets_before_end n) ≡ Some ps → ((mid : List Bool) (qs : List Packet) → packets_before_end n mid ≡ Some qs → StartsWithPackets qs mid) → StartsWithPackets ps bits
from_read n bits (Err e) ps is same more = absurd (none-some ps same)
from_read n bits (Ok (None, rest)) ps is same more =
    subst (λ (rs : List Packet). StartsWithPackets rs bits) (same_Some [] ps same) (rest, found next_packet bits None rest is)
from_read n bits (Ok (Some p, mid)) ps is same more = one_before p bits mid (packets_before_end n mid) ps is same (more mid)

some_before_end : (n : ℕ) (bits : List Bool) (ps : List Packet) → packets_before_end n bits ≡ Some ps → StartsWithPackets ps bits
unfolding packets_before_end
some_before_end zero bits ps e = absurd (none-some ps e)
some_before_end (suc n) bits ps e = from_read n bits (read next_packet bits) ps refl e (some_before_end n)

-- ---- the telegram

pub carried_in : (bytes : List ℕ) (t : Telegram) → Carries bytes t → telegram_in bytes ≡ Some t
unfolding telegram_in
carried_in bytes t c =
    let b = carried bytes t c in
    let small : nat_le (length bytes) 104 ≡ true = (let s = c.small in grind (arith, nat_tests)) in
    let few : length t.packets.items < length b.following = omega (arith, packets_take t.packets.items b.following c.rest b.packets_then) in
    rw (small, initial header t.header (bits_of bytes) b.following b.header_first, all_before_end t.packets.items (length b.following) b.following c.rest b.packets_then few) refl

module _ (bytes : List ℕ) (small : length bytes ≤ 104) where
  bits_after_header : (h : Header) (following : List Bool) (o : Option (List Packet)) (t : Telegram) → read header (bits_of bytes) ≡ Ok (h, following)
      → option_map (λ (ps : List Packet). record { header = h; packets = record { items = ps } }) o ≡ Some t
      → ((ps : List Packet) → o ≡ Some ps → StartsWithPackets ps following) → Carries bytes t
  bits_after_header h following None t is same more = absurd (none-some t same)
  bits_after_header h following (Some ps) t is same more =
      let u : Telegram = record { header = h; packets = record { items = ps } } in
      let b = more ps refl in
      subst (λ (x : Telegram). Carries bytes x) (same_Some u t same) (read_carries bytes u following b.0 small is b.1)

  from_header : (r : Result (Header × List Bool) TelegramFault) (t : Telegram) → read header (bits_of bytes) ≡ r → with_header r ≡ Some t → Carries bytes t
  from_header (Err e) t is same = absurd (none-some t same)
  from_header (Ok (h, following)) t is same =
      bits_after_header h following (packets_before_end (length following) following) t is same (some_before_end (length following) following)

if_small : (b : Bool) (o : Option Telegram) (t : Telegram) → cond b o None ≡ Some t → (b ≡ true) × (o ≡ Some t)
if_small true o t e = (refl, e)
if_small false o t e = absurd (none-some t e)

pub in_carried : (bytes : List ℕ) (t : Telegram) → telegram_in bytes ≡ Some t → Carries bytes t
unfolding telegram_in
in_carried bytes t e =
    let p = if_small (nat_le (length bytes) 104) (with_header (read header (bits_of bytes))) t e in
    let few = p.0 in
    let small : length bytes ≤ 104 = grind (arith, nat_tests) in
    from_header bytes small (read header (bits_of bytes)) t refl p.1

none_refused : (bytes : List ℕ) (e : TelegramFault) (o : Option Telegram) → RefusesBytes e bytes → telegram_in bytes ≡ o → o ≡ None
none_refused bytes e None r is = refl
none_refused bytes e (Some t) r is = absurd (not_refused bytes t e (in_carried bytes t is) r)

pub refused_none : (bytes : List ℕ) (e : TelegramFault) → RefusesBytes e bytes → telegram_in bytes ≡ None
refused_none bytes e r = none_refused bytes e (telegram_in bytes) r refl
