use Rattle.std.proofs.Common.{◌≡◌, ◌≤◌, ◌*◌, ℕ, List, length, drop, ap, arith}
use Rattle.std.specs.List.{All}
use Rattle.std.proofs.lemmas.List.Elements.{All-same}
use Rattle.bits.specs.Bits.{bits_of}
use Rattle.bits.proofs.Bytes.{length-bits_of}
use Rattle.telegram.specs.Walks.{Walk, IsWalkOf, StandsInPlace, located_from}
use Rattle.telegram.proofs.Answering.{carried}
use Rattle.telegram.proofs.Lengths.{header_takes}
use Rattle.telegram.proofs.Places.{all_stand, after_front}
use Rattle.telegram.proofs.laws.packets_stand_in_place.Goals as goal

stand : (bytes : List ℕ) (w : Walk) → IsWalkOf bytes w → All StandsInPlace w.items
stand bytes w h =
    let b = carried bytes h.0 h.1 in
    let long = header_takes h.0.header (bits_of bytes) b.following b.header_first in
    let here : drop 50 (bits_of bytes) ≡ b.following = after_front b.header_first.front b.following (bits_of bytes) 50 b.header_first.parts long in
    let within : 50 ≤ 8 * length bytes = omega (arith, long, length-bits_of bytes) in
    All-same StandsInPlace w.items (located_from bytes 50 h.0.packets.items) (ap (λ (v : Walk). v.items) h.2)
    (all_stand bytes 50 h.0.packets.items b.following h.1.rest here within b.packets_then)

pub returns : goal.returns
returns c = stand
