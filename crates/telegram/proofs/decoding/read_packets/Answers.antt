use Rattle.std.proofs.Common.{◌≡◌, ◌<◌, [], Ok, Some, None, length, arith}
use Rattle.std.proofs.lemmas.List.{append-nil}
use Rattle.std.proofs.lemmas.Result.{err_from_is_err_and}
use Rattle.bits.specs.Layout.{Refuses, read}
use Rattle.bits.proofs.Laws.{found, refused}
use Rattle.telegram.specs.Telegrams.{next_packet}
use Rattle.telegram.specs.declared.fault.TelegramFault.TheVariants.{NoEnd}
use Rattle.telegram.proofs.Lengths.{packet_takes}
use Rattle.telegram.proofs.PacketsInTurn.{no_end, one_more_begins, one_more_refused}
use Rattle.telegram.proofs.decoding.read_packets.Goals as goal

pub returns-in_err-more-clause-err : goal.returns-in_err-more-clause-err
returns-in_err-more-clause-err c =
    let p = err_from_is_err_and c.from_residual.result c.from_residual.ensures.1 in
    let fault : Refuses next_packet c.in_err-more.field-0.0 c.packets.reader = refused next_packet _ _ c.in_err-more.ensures in
    rw (p.1, p.2) (_, c.packets.invariant.refused _ [] fault)

pub returns-then-not-more-clause-ok : goal.returns-then-not-more-clause-ok
returns-then-not-more-clause-ok c =
    let here : read next_packet c.packets.reader ≡ Ok (None, c.read_next.new.reader) = rw c.if-not-more.true at c.in_ok-more.ensures in
    rw append-nil at (c.packets.invariant.begins [] _ (found next_packet _ _ _ here))

pub returns-then-len-eq33-clause-err : goal.returns-then-len-eq33-clause-err
returns-then-len-eq33-clause-err c =
    let here : read next_packet c.packets.reader ≡ Ok (Some c.read_next.new.out, c.read_next.new.reader) = rw c.if-not-more.false at c.in_ok-more.ensures in
    let b = found next_packet _ _ _ here in
    let taken = packet_takes _ _ _ b in
    let few : length c.read_next.new.reader < 8 = omega (arith, taken, c.packets.invariant.space, c.len.ensures.value, c.if-len-eq33.true) in
    (_, one_more_refused _ _ _ _ _ b c.packets.invariant.refused NoEnd [] (no_end _ few))

pub packets-smaller : goal.packets-smaller
packets-smaller c =
    let here : read next_packet c.packets.reader ≡ Ok (Some c.read_next.new.out, c.read_next.new.reader) = rw c.if-not-more.false at c.in_ok-more.ensures in
    let taken = packet_takes _ _ _ (found next_packet _ _ _ here) in
    omega (arith, taken)

pub packets-preserved : goal.packets-preserved
packets-preserved c =
    let here : read next_packet c.packets.reader ≡ Ok (Some c.read_next.new.out, c.read_next.new.reader) = rw c.if-not-more.false at c.in_ok-more.ensures in
    let b = found next_packet _ _ _ here in
    let taken = packet_takes _ _ _ b in
    record {
      begins = rw c.push.ensures.items (one_more_begins _ _ _ _ _ b c.packets.invariant.begins);
      refused = rw c.push.ensures.items (one_more_refused _ _ _ _ _ b c.packets.invariant.refused);
      space = omega (arith, taken, c.push.ensures.len, c.packets.invariant.space);
    }
