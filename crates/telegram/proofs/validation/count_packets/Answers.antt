use Rattle.std.proofs.Common.{◌≡◌, ◌+◌, List, [], ◌∷◌, ◌++◌, length, Ok, Some, None, arith, length-append}
use Rattle.std.proofs.lemmas.List.{append-nil}
use Rattle.std.proofs.lemmas.Result.{err_from_is_err_and}
use Rattle.bits.specs.Layout.{Refuses, read}
use Rattle.bits.proofs.Laws.{found, refused}
use Rattle.packets.specs.declared.packet.Packet.{Packet}
use Rattle.telegram.specs.Telegrams.{next_packet}
use Rattle.telegram.proofs.Lengths.{packet_takes}
use Rattle.telegram.proofs.PacketsInTurn.{one_more_begins, one_more_refused}
use Rattle.telegram.proofs.validation.count_packets.Goals as goal

pub returns-in_err-more-clause-err : goal.returns-in_err-more-clause-err
returns-in_err-more-clause-err c =
    let p = err_from_is_err_and c.from_residual.result c.from_residual.ensures.1 in
    let fault : Refuses next_packet c.in_err-more.field-0.0 c.packets.reader = refused next_packet _ _ c.in_err-more.ensures in
    rw (p.1, p.2) (_, c.packets.invariant.refused _ [] fault)

pub returns-then-not-more-clause-ok : goal.returns-then-not-more-clause-ok
returns-then-not-more-clause-ok c =
    let here : read next_packet c.packets.reader ≡ Ok (None, c.read_next.new.reader) = rw c.if-not-more.true at c.in_ok-more.ensures in
    (c.packets.invariant.front, c.packets.invariant.counted, rw append-nil at (c.packets.invariant.begins [] _ (found next_packet _ _ _ here)))

pub packets-smaller : goal.packets-smaller
packets-smaller c =
    let here : read next_packet c.packets.reader ≡ Ok (Some c.read_next.new.out, c.read_next.new.reader) = rw c.if-not-more.false at c.in_ok-more.ensures in
    let taken = packet_takes _ _ _ (found next_packet _ _ _ here) in
    omega (arith, taken)

one_more : (front : List Packet) (p : Packet) → length (front ++ p ∷ []) ≡ length front + 1
one_more front p = length-append front (p ∷ [])

pub packets-preserved : goal.packets-preserved
packets-preserved c =
    let here : read next_packet c.packets.reader ≡ Ok (Some c.read_next.new.out, c.read_next.new.reader) = rw c.if-not-more.false at c.in_ok-more.ensures in
    let b = found next_packet _ _ _ here in
    let taken = packet_takes _ _ _ b in
    let one = one_more c.packets.invariant.front c.read_next.new.out in
    record {
      front = c.packets.invariant.front ++ c.read_next.new.out ∷ [];
      counted = omega (arith, one, c.packets.invariant.counted);
      begins = one_more_begins _ _ _ _ _ b c.packets.invariant.begins;
      refused = one_more_refused _ _ _ _ _ b c.packets.invariant.refused;
      space = omega (arith, taken, c.packets.invariant.space);
    }
