-- Telegrams in one list of bytes: one more comes after the others.
use Rattle.std.proofs.Common.{◌≡◌, ℕ, suc, ◌*◌, ◌≤◌, List, [], ◌∷◌, ◌++◌, length, take, drop, refl, sym, ap, subst, ◌∙◌, arith, length-drop, length-append}
use Rattle.std.proofs.lemmas.List.{take-append-le, drop-append-le, take_all, drop_all, length-take-le}
use Rattle.bits.specs.Bits.{bits_of}
use Rattle.packets.specs.declared.packet.Packet.{Packet}
use Rattle.telegram.specs.declared.gathered.Extent.{Extent}
use Rattle.telegram.specs.Gathering.{packets_of_each, AreGathered}
use Rattle.telegram.specs.Telegrams.{header_bits}
use Rattle.telegram.specs.Walks.{packets_in, HoldPackets}

-- as many as there are extents
pub each_count : (extents : List Extent) (bytes : List ℕ) → length (packets_of_each extents bytes) ≡ length extents
each_count [] bytes = refl
each_count (extent ∷ extents) bytes = ap suc (each_count extents (drop extent.bytes bytes))

-- each has at most 104 bytes
pub gathered_space : (extents : List Extent) (bytes : List ℕ) → AreGathered extents bytes → length bytes ≤ length extents * 104
gathered_space [] bytes held = omega (arith, ap length held)
gathered_space (extent ∷ extents) bytes held =
    let others = gathered_space extents (drop extent.bytes bytes) held.2 in
    let first : length (take extent.bytes bytes) ≤ 104 = held.1.small in
    omega (arith, others, first, held.0, length-drop extent.bytes bytes, length-take-le extent.bytes bytes held.0)

abbrev one : ℕ → ℕ → Extent
one bytes packets = record { bytes = bytes; packets = packets }

pub gathered_more : (extents : List Extent) (bytes more : List ℕ) (packets : ℕ) → AreGathered extents bytes → HoldPackets packets more
    → AreGathered (extents ++ one (length more) packets ∷ []) (bytes ++ more)
gathered_more [] bytes more packets held last =
    subst (λ (b : List ℕ). AreGathered (one (length more) packets ∷ []) (b ++ more)) (sym held)
    (omega arith, subst (λ (b : List ℕ). HoldPackets packets b) (sym (take_all (length more) more (omega arith))) last, drop_all (length more) more (omega arith))
gathered_more (extent ∷ extents) bytes more packets held last =
    let front = take-append-le extent.bytes bytes more held.0 in
    let following = drop-append-le extent.bytes bytes more held.0 in (
      omega (arith, held.0, length-append bytes more),
      subst (λ (b : List ℕ). HoldPackets extent.packets b) (sym front) held.1,
      subst (λ (b : List ℕ). AreGathered (extents ++ one (length more) packets ∷ []) b) (sym following) (gathered_more extents (drop extent.bytes bytes) more packets held.2 last),
    )

pub each_more : (extents : List Extent) (bytes more : List ℕ) (packets : ℕ) → AreGathered extents bytes
    → packets_of_each (extents ++ one (length more) packets ∷ []) (bytes ++ more) ≡ packets_of_each extents bytes ++ packets_in packets (drop header_bits (bits_of more)) ∷ []
each_more [] bytes more packets held =
    ap (λ (b : List ℕ). packets_of_each (one (length more) packets ∷ []) (b ++ more)) held
    ∙ ap (λ (b : List ℕ). packets_in packets (drop header_bits (bits_of b)) ∷ []) (take_all (length more) more (omega arith))
each_more (extent ∷ extents) bytes more packets held =
    let front = take-append-le extent.bytes bytes more held.0 in
    let following = drop-append-le extent.bytes bytes more held.0 in
    ap (λ (b : List ℕ). packets_in extent.packets (drop header_bits (bits_of b)) ∷ packets_of_each (extents ++ one (length more) packets ∷ []) (drop extent.bytes (bytes ++ more))) front
    ∙ ap (λ (b : List ℕ). packets_in extent.packets (drop header_bits (bits_of (take extent.bytes bytes))) ∷ packets_of_each (extents ++ one (length more) packets ∷ []) b) following
    ∙ ap (λ (ps : List (List Packet)). packets_in extent.packets (drop header_bits (bits_of (take extent.bytes bytes))) ∷ ps) (each_more extents (drop extent.bytes bytes) more packets held.2)
