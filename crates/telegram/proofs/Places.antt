-- Where packets stand in the bytes of a telegram.
use Rattle.std.proofs.Common.{◌≡◌, ℕ, ◌+◌, ◌-◌, ◌*◌, ◌/◌, ◌%◌, ◌≤◌, Bool, List, [], ◌∷◌, ◌++◌, length, drop, Some, refl, sym, ap, ◌∙◌, arith, length-append, length-take, length-drop}
use Rattle.std.specs.List.{All, slice_range}
use Rattle.std.proofs.lemmas.List.{drop_at, drop-drop, drop-append-le}
use Rattle.std.proofs.lemmas.List.Elements.{All-nil, All-cons}
use Rattle.std.proofs.lemmas.List.Folds.{drop_split}
use Rattle.bits.specs.Bits.{bits_of}
use Rattle.bits.specs.Layout.{Spells}
use Rattle.bits.proofs.Bytes.{length-bits_of, bits_of-drop}
use Rattle.bits.proofs.Writes.{bits_of-append}
use Rattle.packets.specs.Packets.{length_of}
use Rattle.packets.specs.declared.packet.Packet.{Packet}
use Rattle.telegram.specs.Sequences.{BeginsPackets}
use Rattle.telegram.specs.Telegrams.{next_packet}
use Rattle.telegram.specs.Walks.{Located, StandsInPlace, located_from}
use Rattle.telegram.proofs.Lengths.{next_is_packet, length-next_packet}

-- ---- parts

-- of two fronts of the same bits the longer one begins with the other
longer_front : (a b c d : List Bool) → a ++ b ≡ c ++ d → length a ≤ length c → (r : List Bool) × (c ≡ a ++ r)
longer_front [] b c d e le = (c, refl)
longer_front (x ∷ a) b [] d e le = absurd (omega arith)
longer_front (x ∷ a) b (y ∷ c) d e le =
    let head : x ≡ y = cc in
    let tail : a ++ b ≡ c ++ d = cc in
    let shorter : length a ≤ length c = omega arith in
    let more = longer_front a b c d tail shorter in
    let same = more.1 in
    (more.0, cc)

-- the bits after a place: those of a part of the bytes that begins before it, and others
in_part : (bytes : List ℕ) (start end : ℕ) → start ≤ 8 * end → end ≤ length bytes
    → drop start (bits_of bytes) ≡ drop (start % 8) (bits_of (slice_range bytes (start / 8) end)) ++ bits_of (drop end bytes)
in_part bytes start end order within =
    let first : start / 8 ≤ end = omega arith in
    let split : 8 * (start / 8) + start % 8 ≡ start = omega arith in
    let some : start % 8 ≤ length (bits_of (slice_range bytes (start / 8) end)) =
    omega (arith, length-bits_of (slice_range bytes (start / 8) end), length-take (end - start / 8) (drop (start / 8) bytes), length-drop (start / 8) bytes) in
    let whole : bits_of (drop (start / 8) bytes) ≡ bits_of (slice_range bytes (start / 8) end) ++ bits_of (drop end bytes) =
    ap bits_of (drop_split bytes (start / 8) end first) ∙ bits_of-append (slice_range bytes (start / 8) end) (drop end bytes) in
    ap (λ (n : ℕ). drop n (bits_of bytes)) (sym split) ∙ sym (drop-drop (start % 8) (8 * (start / 8)) (bits_of bytes))
    ∙ ap (drop (start % 8)) (sym (bits_of-drop (start / 8) bytes) ∙ whole)
    ∙ drop-append-le (start % 8) (bits_of (slice_range bytes (start / 8) end)) (bits_of (drop end bytes)) some

abbrev place : List ℕ → ℕ → Packet → Located
place bytes start p = record { packet = p; bytes = slice_range bytes (start / 8) ((start + length_of p + 7) / 8); offset = start % 8 }

stands : (bytes : List ℕ) (start : ℕ) (p : Packet) (front rest : List Bool) → start + length_of p ≤ 8 * length bytes → drop start (bits_of bytes) ≡ front ++ rest → Spells next_packet (Some p) front
    → StandsInPlace (place bytes start p)
stands bytes start p front rest within parts s =
    let end = (start + length_of p + 7) / 8 in
    let long = length-next_packet p front s in
    let inside : start ≤ 8 * ((start + length_of p + 7) / 8) = omega arith in
    let ends : (start + length_of p + 7) / 8 ≤ length bytes = omega arith in
    let whole = in_part bytes start end inside ends in
    let held : length (drop (start % 8) (bits_of (slice_range bytes (start / 8) end))) ≡ 8 * ((start + length_of p + 7) / 8) - start =
    omega (arith, length-drop (start % 8) (bits_of (slice_range bytes (start / 8) end)), length-bits_of (slice_range bytes (start / 8) end), length-take (end - start / 8) (drop (start / 8) bytes), length-drop (start / 8) bytes) in
    let enough : length front ≤ length (drop (start % 8) (bits_of (slice_range bytes (start / 8) end))) = omega arith in
    let more = longer_front front rest (drop (start % 8) (bits_of (slice_range bytes (start / 8) end))) (bits_of (drop end bytes)) (sym parts ∙ whole) enough in
    record {
      rest = more.0;
      stands = record { front = front; parts = more.1; spelled = next_is_packet p front s };
      starts_in_first = omega arith;
      ends_in_last = omega (arith, held, ap length more.1, length-append front more.0, long);
    }

pub all_stand : (bytes : List ℕ) (start : ℕ) (ps : List Packet) (bits rest : List Bool) → drop start (bits_of bytes) ≡ bits → start ≤ 8 * length bytes → BeginsPackets ps bits rest
    → All StandsInPlace (located_from bytes start ps)
all_stand bytes start [] bits rest here within b = All-nil StandsInPlace
all_stand bytes start (p ∷ ps) bits rest here within b =
    let long = length-next_packet p b.1.front b.1.spelled in
    let following = ap length here in
    let space : start + length_of p ≤ 8 * length bytes =
    omega (arith, following, ap length b.1.parts, length-append b.1.front b.0, length-drop start (bits_of bytes), length-bits_of bytes, long) in
    let next : drop (start + length_of p) (bits_of bytes) ≡ b.0 =
    sym (drop-drop (length_of p) start (bits_of bytes)) ∙ ap (drop (length_of p)) (here ∙ b.1.parts) ∙ drop_at b.1.front b.0 (length_of p) long in
    All-cons StandsInPlace (place bytes start p) (located_from bytes (start + length_of p) ps)
    (stands bytes start p b.1.front b.0 space (here ∙ b.1.parts) b.1.spelled)
    (all_stand bytes (start + length_of p) ps b.0 rest next space b.2)

-- after a front of so many bits
pub after_front : (front rest bits : List Bool) (n : ℕ) → bits ≡ front ++ rest → length rest + n ≡ length bits → drop n bits ≡ rest
after_front front rest bits n parts long =
    let fits : length front ≡ n = omega (arith, ap length parts, length-append front rest, long) in
    ap (drop n) parts ∙ drop_at front rest n fits
