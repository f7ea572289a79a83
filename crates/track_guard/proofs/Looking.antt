-- The packets of a telegram that bytes carry are those that are listed by L_PACKET.
use Rattle.std.proofs.Common.{◌≡◌, ℕ, zero, suc, ◌+◌, ◌<◌, nat_eq, Bool, true, false, if◌then◌else◌, List, [], ◌∷◌, ◌++◌, Some, None, Ok, Err, length, length-append, take, drop, refl, sym, ap, subst, ◌∙◌, arith, append_assoc}
use Rattle.std.specs.List.{AllZip}
use Rattle.std.proofs.lemmas.Bool.{eqb-true, le-ltb}
use Rattle.std.proofs.lemmas.List.{take_at, drop_at, drop-drop}
use Rattle.bits.specs.Bits.{bits_of, number, number_bits}
use Rattle.bits.specs.Layout.{Begins}
use Rattle.bits.proofs.Numbers.{length-number_bits, number-of_bits}
use Rattle.packets.specs.Packets.{packet, length_of}
use Rattle.packets.specs.declared.packet.Packet.{Packet}
use Rattle.packets.proofs.AnyPacket.{spelled-packet}
use Rattle.telegram.specs.Sequences.{BeginsPackets}
use Rattle.telegram.specs.Telegrams.{header, next_packet}
use Rattle.telegram.specs.declared.fault.TelegramFault.{TelegramFault}
use Rattle.telegram.specs.declared.header.Header.{Header}
use Rattle.telegram.proofs.Answering.{carried}
use Rattle.telegram.proofs.Lengths.{next_is_packet, end_mark, header_takes}
use Rattle.telegram.proofs.Walking.{few_packets}
use Rattle.track_packets.specs.Listing.{number_at, place_at, in_front, listed, listing_of}
use Rattle.track_packets.specs.declared.listing.Listing.{Listing}
use Rattle.track_packets.specs.declared.listing.PacketPlace.{PacketPlace}
use Rattle.track_packets.proofs.Steps.{Marks, packet_listed, mark_listed}
use Rattle.track_packets.proofs.Heads.{headed, listing_long}
use Rattle.track_guard.specs.Demands.{packets_found}
use Rattle.track_guard.specs.Findings.{field_at, has_known_packets}
use Rattle.track_guard.specs.Laws.{AllAreLookedAt, IsPlaceOf}

-- ---- each packet is listed

begins_packet : (p : Packet) (bits rest : List Bool) → Begins next_packet (Some p) bits rest → Begins packet p bits rest
begins_packet p bits rest b = record { front = b.front; parts = b.parts; spelled = next_is_packet p b.front b.spelled }

marks : (bits rest : List Bool) → Begins next_packet None bits rest → Marks bits
marks bits rest b =
    let whole : bits ≡ number_bits 8 255 ++ rest = b.parts ∙ ap (λ f. f ++ rest) (end_mark b.front b.spelled) in
    record {
      long = omega (arith, ap length whole, length-append (number_bits 8 255) rest, length-number_bits 8 255);
      mark = ap number_at whole ∙ ap number (take_at (number_bits 8 255) rest 8 (length-number_bits 8 255)) ∙ number-of_bits 8 255 (omega arith);
    }

all_listed : (ps : List Packet) (n at : ℕ) (all rest : List Bool) → length ps < n → BeginsPackets ps (drop at all) rest
    → AllZip (IsPlaceOf all) ps (listed n at (drop at all)).packets.items
all_listed [] zero at all rest lt b = absurd (omega (arith, lt))
all_listed (p ∷ ps) zero at all rest lt b = absurd (omega (arith, lt))
all_listed [] (suc n) at all rest lt b =
    subst (λ (l : Listing). AllZip (IsPlaceOf all) [] l.packets.items) (sym (mark_listed n at (drop at all) (marks (drop at all) rest b))) tt
all_listed (p ∷ ps) (suc n) at all rest lt b =
    let bits = drop at all in
    let first = begins_packet p bits b.0 b.1 in
    let h = headed p bits b.0 first in
    let len = length_of p in
    let front_long : length first.front ≡ len = (spelled-packet p first.front first.spelled).length_is in
    let following : b.0 ≡ drop (at + len) all = sym (drop_at first.front b.0 len front_long) ∙ ap (drop len) (sym first.parts) ∙ drop-drop len at all in
    let is : listed (suc n) at bits ≡ in_front (place_at at bits) (listed n (at + len) (drop (at + len) all)) =
    packet_listed n at bits h.stands
    ∙ ap (λ k. in_front (place_at at bits) (listed n (at + k) (drop k bits))) h.length_is
    ∙ ap (λ r. in_front (place_at at bits) (listed n (at + len) r)) (drop-drop len at all) in
    let others = all_listed ps n (at + len) all rest (omega (arith, lt)) (subst (λ (r : List Bool). BeginsPackets ps r rest) following b.2) in
    subst (λ (l : Listing). AllZip (IsPlaceOf all) (p ∷ ps) l.packets.items) (sym is)
    (record { rest = b.0; spelled = first; length = h.length_is }, others)

-- ---- and looked at

field_there : (u f rest : List Bool) (at width : ℕ) → length u ≡ at → length f ≡ width → field_at at width (u ++ (f ++ rest)) ≡ Some (number f)
field_there u f rest at width lu lf =
    rw (le-ltb (length (u ++ (f ++ rest))) (at + width) (omega (arith, lu, lf, length-append u (f ++ rest), length-append f rest)))
    (ap (λ b. Some (number (take width b))) (drop_at u (f ++ rest) at lu) ∙ ap (λ b. Some (number b)) (take_at f rest width lf))

only_one : (n v : ℕ) (other : TelegramFault) (x : Unit {0}) (same : Bool) → nat_eq n v ≡ same → (if same then Ok tt else Err other) ≡ Ok x → n ≡ v
only_one n v other x true e k = eqb-true n v e
only_one n v other x false e k = absurd cc

-- Q_UPDOWN, M_VERSION and Q_MEDIA of a header
record Known (bits : List Bool) : Type 0 where
  up : field_at 0 1 bits ≡ Some 1
  version : field_at 1 7 bits ≡ Some 16
  medium : field_at 8 1 bits ≡ Some 0

known_header : (h : Header) (bits rest : List Bool) → Begins header h bits rest → Known bits
unfolding header
known_header h bits rest b =
    let s = b.spelled in
    let r = s.5 in
    let m = r.5 in
    let more = m.2 ++ rest in
    let whole : bits ≡ s.1 ++ (r.1 ++ (m.1 ++ more)) =
    b.parts ∙ ap (λ f. f ++ rest) (s.3 ∙ ap (λ f. s.1 ++ f) (r.3 ∙ ap (λ f. r.1 ++ f) m.3))
    ∙ append_assoc s.1 (r.1 ++ (m.1 ++ m.2)) rest ∙ ap (λ f. s.1 ++ f) (append_assoc r.1 (m.1 ++ m.2) rest ∙ ap (λ f. r.1 ++ f) (append_assoc m.1 m.2 rest)) in
    let two : bits ≡ (s.1 ++ r.1) ++ (m.1 ++ more) = whole ∙ sym (append_assoc s.1 r.1 (m.1 ++ more)) in
    record {
      up = ap (field_at 0 1) whole ∙ field_there [] s.1 (r.1 ++ (m.1 ++ more)) 0 1 refl s.4.0 ∙ ap (λ n. Some n) (only_one (number s.1) 1 _ s.0 (nat_eq (number s.1) 1) refl s.4.1);
      version = ap (field_at 1 7) whole ∙ field_there s.1 r.1 (m.1 ++ more) 1 7 s.4.0 r.4.0 ∙ ap (λ n. Some n) (only_one (number r.1) 16 _ r.0 (nat_eq (number r.1) 16) refl r.4.1);
      medium = ap (field_at 8 1) two ∙ field_there (s.1 ++ r.1) m.1 more 8 1 (omega (arith, length-append s.1 r.1, s.4.0, r.4.0)) m.4.0
          ∙ ap (λ n. Some n) (only_one (number m.1) 0 _ m.0 (nat_eq (number m.1) 0) refl m.4.1);
    }

are_known : (bits : List Bool) → Known bits → has_known_packets bits ≡ true
are_known bits k = rw (k.up, k.version, k.medium) refl

pub all_are_looked_at : AllAreLookedAt
all_are_looked_at bytes t c =
    let all = bits_of bytes in
    let b = carried bytes t c in
    let h = b.header_first in
    let takes = header_takes t.header all b.following h in
    let front_long : length h.front ≡ 50 = omega (arith, ap length h.parts, length-append h.front b.following) in
    let following : b.following ≡ drop 50 all = sym (drop_at h.front b.following 50 front_long) ∙ ap (drop 50) (sym h.parts) in
    let listing : listing_of bytes ≡ listed 34 50 (drop 50 all) = listing_long bytes (omega (arith, takes)) in
    let zip = all_listed t.packets.items 34 50 all c.rest (omega (arith, few_packets bytes t c)) (subst (λ (r : List Bool). BeginsPackets t.packets.items r c.rest) following b.packets_then) in
    let looked : (listing_of bytes).packets.items ≡ packets_found bytes =
    ap (λ x. if x then (listing_of bytes).packets.items else []) (sym (are_known all (known_header t.header all b.following h))) in
    subst (λ (qs : List PacketPlace). AllZip (IsPlaceOf all) t.packets.items qs) (ap (λ (l : Listing). l.packets.items) (sym listing) ∙ looked) zip
