use Rattle.std.proofs.Common.{◌≡◌, ◌↔◌, ◌≤◌, ◌*◌, ℕ, Bool, List, length, drop, Option, Some, None, IsSome, OnSome, refl, ap, ◌∙◌, arith, length-drop}
use Rattle.bits.specs.Bits.{bits_of}
use Rattle.bits.proofs.Bytes.{length-bits_of}
use Rattle.telegram.proofs.Walking.{located_packets}
use Rattle.telegram.proofs.walk.Packets.after_header.Goals as goal

-- so many bits were there, and were skipped
skipped : {A : Type 0} (o : Option A) (n : ℕ) (old new : List Bool) → IsSome o ↔ (n ≤ length old) → OnSome o (new ≡ drop n old) → n ≤ length old → new ≡ drop n old
skipped None n old new found rest enough = absurd (let none = found.1 enough in cc)
skipped (Some x) n old new found rest enough = rest

-- the reader stands after the header
following : (bytes : List ℕ) (o : Option (List Bool)) (old new : List Bool) → old ≡ bits_of bytes → IsSome o ↔ (50 ≤ length old) → OnSome o (new ≡ drop 50 old)
    → 50 ≤ 8 * length bytes → new ≡ drop 50 (bits_of bytes)
following bytes o old new held found rest enough =
    skipped o 50 old new found rest (omega (arith, ap length held, length-bits_of bytes)) ∙ ap (drop 50) held

pub invariant_of-result : goal.invariant_of-result
invariant_of-result c =
    let bytes = c.args.bytes.now in
    let here = following bytes _ _ _ c.new-reader.ensures c.run.ensures.found c.run.ensures.rest c.requires.header_first in
    rw here (c.requires.small, omega (arith, c.requires.header_first, length-bits_of bytes, length-drop 50 (bits_of bytes)), c.requires.counted)

pub returns-clause-packets : goal.returns-clause-packets
returns-clause-packets c =
    let here = following c.args.bytes.now _ _ _ c.new-reader.ensures c.run.ensures.found c.run.ensures.rest c.requires.header_first in
    located_packets _ 50 _ ∙ rw here refl
