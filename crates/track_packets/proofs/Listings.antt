-- The packets of a telegram, one after another: those that were found, and the listing of what is left.
use Rattle.std.proofs.Common.{◌≡◌, ℕ, suc, ◌+◌, ◌-◌, ◌<◌, ◌≤◌, Bool, false, nat_lt, List, [], ◌∷◌, ◌++◌, length, drop, refl, sym, ap, ◌∙◌, arith, append_assoc, append-nil}
use Rattle.bits.specs.Bits.{bits_of}
use Rattle.track_packets.specs.Listing.{step_at, ended, in_front, gone_on, listed, listing_of}
use Rattle.track_packets.specs.declared.listing.Listing.{Listing}
use Rattle.track_packets.specs.declared.listing.ListingEnd.{ListingEnd}
use Rattle.track_packets.specs.declared.listing.ListingEnd.TheVariants.{TooMany}
use Rattle.track_packets.specs.declared.listing.PacketPlace.{PacketPlace}
use Rattle.track_packets.specs.declared.listing.Step.TheVariants as steps

-- packets in front of a listing
abbrev pub with_earlier : List PacketPlace → Listing → Listing
with_earlier before l = record { packets = record { items = before ++ l.packets.items }; end = l.end }

one_more : (most i at : ℕ) (bits : List Bool) → i < most
    → listed (most - i) at bits ≡ gone_on (step_at at bits) (λ p. listed (most - (i + 1)) (at + p.length) (drop p.length bits))
unfolding listed
one_more most i at bits lt =
    let k : most - i ≡ suc (most - (i + 1)) = omega arith in
    rw k refl

pub found_before : (before : List PacketPlace) (end : ListingEnd) → with_earlier before (ended end) ≡ record { packets = record { items = before }; end = end }
found_before before end = ap (λ items. record { packets = record { items = items }; end = end }) (append-nil before)

pub listed_step : (most i : ℕ) (before : List PacketPlace) (at : ℕ) (bits : List Bool) (p : PacketPlace) (total : Listing) → i < most → steps.Packet p ≡ step_at at bits
    → with_earlier before (listed (most - i) at bits) ≡ total → with_earlier (before ++ p ∷ []) (listed (most - (i + 1)) (at + p.length) (drop p.length bits)) ≡ total
listed_step most i before at bits p total lt e so_far =
    let rest = listed (most - (i + 1)) (at + p.length) (drop p.length bits) in
    let moved : with_earlier (before ++ p ∷ []) rest ≡ with_earlier before (in_front p rest) =
    ap (λ items. record { packets = record { items = items }; end = rest.end }) (append_assoc before (p ∷ []) rest.packets.items) in
    moved
    ∙ ap (λ s. with_earlier before (gone_on s (λ q. listed (most - (i + 1)) (at + q.length) (drop q.length bits)))) e
    ∙ ap (with_earlier before) (sym (one_more most i at bits lt)) ∙ so_far

pub listed_ends : (most i : ℕ) (before : List PacketPlace) (at : ℕ) (bits : List Bool) (end : ListingEnd) (total : Listing) → i < most → steps.End end ≡ step_at at bits
    → with_earlier before (listed (most - i) at bits) ≡ total → record { packets = record { items = before }; end = end } ≡ total
listed_ends most i before at bits end total lt e so_far =
    sym (found_before before end)
    ∙ ap (λ s. with_earlier before (gone_on s (λ q. listed (most - (i + 1)) (at + q.length) (drop q.length bits)))) e
    ∙ ap (with_earlier before) (sym (one_more most i at bits lt)) ∙ so_far

pub listed_full : (most i : ℕ) (before : List PacketPlace) (at : ℕ) (bits : List Bool) (total : Listing) → most ≤ i
    → with_earlier before (listed (most - i) at bits) ≡ total → record { packets = record { items = before }; end = TooMany at } ≡ total
unfolding listed
listed_full most i before at bits total le so_far =
    let k : most - i ≡ 0 = omega arith in
    let one : listed (most - i) at bits ≡ ended (TooMany at) = rw k refl in
    sym (found_before before (TooMany at)) ∙ ap (with_earlier before) (sym one) ∙ so_far

pub listing_is : (bytes : List ℕ) → 50 ≤ length (bits_of bytes) → listed 34 50 (drop 50 (bits_of bytes)) ≡ listing_of bytes
listing_is bytes le =
    let e : nat_lt (length (bits_of bytes)) 50 ≡ false = grind (arith, le) in
    rw e refl
