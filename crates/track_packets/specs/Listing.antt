-- The packets of a telegram one after another, by L_PACKET alone (SUBSET-026, 7.3 and 8.4.2). Places and lengths are
-- bits; places are counted from the first bit of the telegram.
use Rattle.std.specs.Prelude.{ℕ, zero, suc, ◌+◌, ◌/◌, ◌%◌, ◌<◌, ◌≤◌, ◌==◌, nat_lt, Bool, List, [], ◌∷◌, length, take, drop, Option, Some, None, Result, Ok, Err, if◌then◌else◌}
use Rattle.bits.specs.Bits.{number, bits_of}
use Rattle.vars.specs.Values.{direction_of}
use Rattle.vars.specs.declared.packet_head.ValidityDirection.{ValidityDirection}
use Rattle.vars.specs.declared.variable.NoValue.{NoValue}
use Rattle.track_packets.specs.declared.listing.Listing.{Listing}
use Rattle.track_packets.specs.declared.listing.ListingEnd.{ListingEnd}
use Rattle.track_packets.specs.declared.listing.ListingEnd.TheVariants.{EndMark, NoEnd, CutOff, WrongLength, TooMany}
use Rattle.track_packets.specs.declared.listing.PacketPlace.{PacketPlace}
use Rattle.track_packets.specs.declared.listing.Step.{Step}
use Rattle.track_packets.specs.declared.listing.Step.TheVariants as steps

-- ---- what stands at a place

-- the bits of NID_PACKET, and of Q_DIR and L_PACKET after it
abbrev pub number_at : List Bool → ℕ
number_at bits = number (take 8 bits)

abbrev pub head_at : List Bool → ℕ
head_at bits = number (take 15 (drop 8 bits))

-- L_PACKET has the lowest 13 of them
abbrev pub length_at : List Bool → ℕ
length_at bits = head_at bits % 8192

-- a direction, where the number has one
abbrev pub direction_in : Result ValidityDirection NoValue → Option ValidityDirection
direction_in (Ok d) = Some d
direction_in (Err e) = None

abbrev pub place_at : ℕ → List Bool → PacketPlace
place_at at bits = record { number = number_at bits; direction = direction_in (direction_of (head_at bits / 8192)); start = at; length = length_at bits }

-- what stands here: a packet, or what ends the list
abbrev pub step_at : ℕ → List Bool → Step
step_at at bits =
    if nat_lt (length bits) 8 then steps.End (NoEnd at)
    else if number_at bits == 255 then steps.End (EndMark at)
    else if nat_lt (length (drop 8 bits)) 15 then steps.End (CutOff at)
    else if nat_lt (length_at bits) 23 then steps.End (WrongLength at)
    else if nat_lt (length bits) (length_at bits) then steps.End (CutOff at)
    else steps.Packet (place_at at bits)

-- it is a packet whose bits are all there
abbrev pub IsWhole : List Bool → Step → Type 0
IsWhole bits (steps.Packet p) = (p.length ≤ length bits) × (p.length < 8192)
IsWhole bits (steps.End e) = Unit {0}

-- ---- one after another

-- no packet, and what ends the list
abbrev pub ended : ListingEnd → Listing
ended e = record { packets = record { items = [] }; end = e }

-- a packet in front of those after it
abbrev pub in_front : PacketPlace → Listing → Listing
in_front p with_earlier = record { packets = record { items = p ∷ with_earlier.packets.items }; end = with_earlier.end }

abbrev pub gone_on : Step → (PacketPlace → Listing) → Listing
gone_on (steps.End e) with_earlier = ended e
gone_on (steps.Packet p) with_earlier = in_front p (with_earlier p)

-- at most so many packets, the first of them here
unfoldable pub listed : ℕ → ℕ → List Bool → Listing
listed zero at bits = ended (TooMany at)
listed (suc n) at bits = gone_on (step_at at bits) (λ p. listed n (at + p.length) (drop p.length bits))

-- The packets of a telegram after its header of 50 bits, at most 34 of them.
abbrev pub listing_of : List ℕ → Listing
listing_of bytes = if nat_lt (length (bits_of bytes)) 50 then ended (CutOff 0) else listed 34 50 (drop 50 (bits_of bytes))
