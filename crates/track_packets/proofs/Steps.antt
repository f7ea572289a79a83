-- What stands at a place of bits, what of it stays where other bits follow, and the listing from there. Places and lengths
-- are bits.
use Rattle.std.proofs.Common.{◌≡◌, ◌⊎◌, inl, inr, ℕ, suc, ◌+◌, ◌/◌, ◌%◌, ◌≤◌, ◌==◌, nat_lt, Bool, true, false, List, ◌++◌, length, length-append, take, drop, refl, sym, ap, ◌∙◌, arith, if◌then◌else◌}
use Rattle.std.proofs.lemmas.Bool.{eqb-true, eqb-false, eq-eqb, ne_eqb, ltb-false, le-ltb}
use Rattle.std.proofs.lemmas.List.{length-drop, take-append-le, drop-append-le}
use Rattle.bits.specs.Bits.{number}
use Rattle.vars.specs.Values.{direction_of}
use Rattle.track_packets.specs.Listing.{number_at, head_at, length_at, place_at, step_at, direction_in, ended, in_front, gone_on, listed}
use Rattle.track_packets.specs.declared.listing.ListingEnd.{ListingEnd}
use Rattle.track_packets.specs.declared.listing.ListingEnd.TheVariants.{EndMark, NoEnd, CutOff, WrongLength, TooMany}
use Rattle.track_packets.specs.declared.listing.PacketPlace.{PacketPlace}
use Rattle.track_packets.specs.declared.listing.Step.{Step}
use Rattle.track_packets.specs.declared.listing.Step.TheVariants as steps

-- a packet stands at the front of the bits
pub record Stands (bits : List Bool) : Type 0 where
  pub no_mark : number_at bits ≡ 255 → ⊥
  pub head : 23 ≤ length_at bits
  pub whole : length_at bits ≤ length bits

-- ---- the five tests of a step

abbrev chosen : Bool → Bool → Bool → Bool → Bool → ℕ → PacketPlace → Step
chosen a b c d e at p =
    if a then steps.End (NoEnd at) else if b then steps.End (EndMark at) else if c then steps.End (CutOff at)
    else if d then steps.End (WrongLength at) else if e then steps.End (CutOff at) else steps.Packet p

is_packet : (a b c d e : Bool) (at : ℕ) (p : PacketPlace) → a ≡ false → b ≡ false → c ≡ false → d ≡ false → e ≡ false → chosen a b c d e at p ≡ steps.Packet p
is_packet a b c d e at p ha hb hc hd he = rw (ha, hb, hc, hd, he) refl

is_end : (a b c d e : Bool) (at : ℕ) (p : PacketPlace) → a ≡ false → b ≡ true → chosen a b c d e at p ≡ steps.End (EndMark at)
is_end a b c d e at p ha hb = rw (ha, hb) refl

-- no end mark
abbrev pub NoMark : ListingEnd → Type 0
NoMark end = (k : ℕ) → end ≡ EndMark k → ⊥

abbrev OtherEnd : Step → Type 0
OtherEnd s = (end : ListingEnd) × (s ≡ steps.End end) × NoMark end

abbrev Tested : Bool → Bool → Bool → Bool → Bool → ℕ → PacketPlace → Type 0
Tested a b c d e at p = ((b ≡ false) × (d ≡ false) × (e ≡ false)) ⊎ (((a ≡ false) × (b ≡ true)) ⊎ OtherEnd (chosen a b c d e at p))

tested : (a b c d e : Bool) (at : ℕ) (p : PacketPlace) → Tested a b c d e at p
tested true b c d e at p = inr (inr (NoEnd at, refl, λ k h. absurd cc))
tested false true c d e at p = inr (inl (refl, refl))
tested false false true d e at p = inr (inr (CutOff at, refl, λ k h. absurd cc))
tested false false false true e at p = inr (inr (WrongLength at, refl, λ k h. absurd cc))
tested false false false false true at p = inr (inr (CutOff at, refl, λ k h. absurd cc))
tested false false false false false at p = inl (refl, refl, refl)

-- ---- a packet, the end mark, or another end

-- the end mark stands at the front of the bits
pub record Marks (bits : List Bool) : Type 0 where
  pub long : 8 ≤ length bits
  pub mark : number_at bits ≡ 255

-- another end of the list
pub record EndsElse (at : ℕ) (bits : List Bool) : Type 0 where
  pub end : ListingEnd
  pub no_mark : NoMark end
  pub listed_is : (n : ℕ) → listed (suc n) at bits ≡ ended end

packet_here : (at : ℕ) (bits : List Bool) → Stands bits → step_at at bits ≡ steps.Packet (place_at at bits)
packet_here at bits s =
    let h = s.head in
    let w = s.whole in
    let with_earlier : 15 ≤ length (drop 8 bits) = omega (arith, length-drop 8 bits) in
    is_packet (nat_lt (length bits) 8) (number_at bits == 255) (nat_lt (length (drop 8 bits)) 15) (nat_lt (length_at bits) 23) (nat_lt (length bits) (length_at bits)) at (place_at at bits)
    (le-ltb (length bits) 8 (omega arith)) (ne_eqb (number_at bits) 255 s.no_mark) (le-ltb (length (drop 8 bits)) 15 with_earlier)
    (le-ltb (length_at bits) 23 h) (le-ltb (length bits) (length_at bits) w)

mark_here : (at : ℕ) (bits : List Bool) → Marks bits → step_at at bits ≡ steps.End (EndMark at)
mark_here at bits m =
    is_end (nat_lt (length bits) 8) (number_at bits == 255) (nat_lt (length (drop 8 bits)) 15) (nat_lt (length_at bits) 23) (nat_lt (length bits) (length_at bits)) at (place_at at bits)
    (le-ltb (length bits) 8 m.long) (eq-eqb (number_at bits) 255 m.mark)

go_on : (n at : ℕ) (bits : List Bool) (s : Step) → step_at at bits ≡ s → listed (suc n) at bits ≡ gone_on s (λ p. listed n (at + p.length) (drop p.length bits))
unfolding listed
go_on n at bits s e = ap (λ t. gone_on t (λ p. listed n (at + p.length) (drop p.length bits))) e

-- the listing from a packet on
pub packet_listed : (n at : ℕ) (bits : List Bool) → Stands bits → listed (suc n) at bits ≡ in_front (place_at at bits) (listed n (at + length_at bits) (drop (length_at bits) bits))
packet_listed n at bits s = go_on n at bits (steps.Packet (place_at at bits)) (packet_here at bits s)

pub mark_listed : (n at : ℕ) (bits : List Bool) → Marks bits → listed (suc n) at bits ≡ ended (EndMark at)
mark_listed n at bits m = go_on n at bits (steps.End (EndMark at)) (mark_here at bits m)

pub none_listed : (at : ℕ) (bits : List Bool) → listed 0 at bits ≡ ended (TooMany at)
unfolding listed
none_listed at bits = refl

pub here : (at : ℕ) (bits : List Bool) → Stands bits ⊎ (Marks bits ⊎ EndsElse at bits)
here at bits =
    elim (tested (nat_lt (length bits) 8) (number_at bits == 255) (nat_lt (length (drop 8 bits)) 15) (nat_lt (length_at bits) 23) (nat_lt (length bits) (length_at bits)) at (place_at at bits)) [
      | inl w ↦ inl (record { no_mark = eqb-false (number_at bits) 255 w.0; head = ltb-false (length_at bits) 23 w.1; whole = ltb-false (length bits) (length_at bits) w.2 })
      | inr o ↦ elim o [
        | inl m ↦ inr (inl (record { long = ltb-false (length bits) 8 m.0; mark = eqb-true (number_at bits) 255 m.1 }))
        | inr e ↦ inr (inr (record { end = e.0; no_mark = e.2; listed_is = λ n. go_on n at bits (steps.End e.0) e.1 }))
      ]
    ]

-- ---- other bits after

pub number_front : (u v : List Bool) → 8 ≤ length u → number_at (u ++ v) ≡ number_at u
number_front u v le = ap number (take-append-le 8 u v le)

pub head_front : (u v : List Bool) → 23 ≤ length u → head_at (u ++ v) ≡ head_at u
head_front u v le =
    let with_earlier : 15 ≤ length (drop 8 u) = omega (arith, length-drop 8 u) in
    ap (λ (bits : List Bool). number (take 15 bits)) (drop-append-le 8 u v (omega arith)) ∙ ap number (take-append-le 15 (drop 8 u) v with_earlier)

abbrev by_head : ℕ → ℕ → ℕ → PacketPlace
by_head at n h = record { number = n; direction = direction_in (direction_of (h / 8192)); start = at; length = h % 8192 }

pub place_front : (at : ℕ) (u v : List Bool) → 23 ≤ length u → place_at at (u ++ v) ≡ place_at at u
place_front at u v le =
    ap (λ n. by_head at n (head_at (u ++ v))) (number_front u v (omega arith)) ∙ ap (by_head at (number_at u)) (head_front u v le)

length_front : (u v : List Bool) → 23 ≤ length u → length_at (u ++ v) ≡ length_at u
length_front u v le = ap (λ (h : ℕ). h % 8192) (head_front u v le)

pub stands_more : (u v : List Bool) → Stands u → Stands (u ++ v)
stands_more u v s =
    let h = s.head in
    let w = s.whole in
    let long : 23 ≤ length u = omega arith in
    let same = length_front u v long in
    record {
      no_mark = λ is. s.no_mark (sym (number_front u v (omega arith)) ∙ is);
      head = omega (arith, same);
      whole = omega (arith, same, length-append u v);
    }

pub stands_less : (u v : List Bool) → Stands (u ++ v) → length_at (u ++ v) ≤ length u → Stands u
stands_less u v s le =
    let h = s.head in
    let long : 23 ≤ length u = omega arith in
    let same = length_front u v long in
    record {
      no_mark = λ is. s.no_mark (number_front u v (omega arith) ∙ is);
      head = omega (arith, same);
      whole = omega (arith, same);
    }
