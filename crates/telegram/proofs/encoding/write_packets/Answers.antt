use Rattle.std.proofs.Common.{◌++◌, List, Bool, length, refl, sym, ap, ◌∙◌, lit<}
use Rattle.std.proofs.lemmas.Bool.{false≢true}
use Rattle.std.proofs.lemmas.Result.{err_from_is_err_and}
use Rattle.bits.proofs.Numbers.{length-number_bits}
use Rattle.telegram.proofs.Written.{next_of, last_of, part_fits, whole_fits, one_written}
use Rattle.telegram.proofs.encoding.write_packets.Goals as goal

pub write_packet-requires : goal.write_packet-requires
write_packet-requires c =
    let w = c.loop-packet.invariant c.requires.0 c.requires.1 in
    let n = next_of c.args.packets.now c.loop-packet.packet-index c.packet-item.result c.loop-packet.writer _ w.0 c.loop-packet-test.true c.packet-item.is w.1 w.2 in
    (lit< tt, (n.front, n.spelled))

pub returns-in_err-write_packet-clause-space : goal.returns-in_err-write_packet-clause-space
returns-in_err-write_packet-clause-space c = λ bits s.
    let p = err_from_is_err_and c.from_residual.result c.from_residual.ensures.1 in
    let w = c.loop-packet.invariant bits s in
    let n = next_of c.args.packets.now c.loop-packet.packet-index c.packet-item.result c.loop-packet.writer _ w.0 c.loop-packet-test.true c.packet-item.is w.1 w.2 in
    rw p.1 (
      λ no. absurd (false≢true no),
      λ fits. (c.in_err-write_packet.ensures.space n.front n.spelled).1 (part_fits c.loop-packet.writer n.front n.rest c.args.writer.now bits n.parts fits),
    )

pub loop-packet-preserved : goal.loop-packet-preserved
loop-packet-preserved c = λ bits s.
    let w = c.loop-packet.invariant bits s in
    let n = next_of c.args.packets.now c.loop-packet.packet-index c.packet-item.result c.loop-packet.writer _ w.0 c.loop-packet-test.true c.packet-item.is w.1 w.2 in
    (n.rest, n.others, one_written c.loop-packet.writer n.front n.rest c.write_packet.new.writer _ (c.in_ok-write_packet.ensures.ok n.front n.spelled) n.parts)

pub returns-in_err-put-clause-space : goal.returns-in_err-put-clause-space
returns-in_err-put-clause-space c = λ bits s.
    let p = err_from_is_err_and c.from_residual-in_err-put.result c.from_residual-in_err-put.ensures.1 in
    let w = c.loop-packet.invariant bits s in
    let last = last_of c.args.packets.now c.loop-packet.packet-index w.0 c.loop-packet-test.false w.1 in
    let space = whole_fits c.loop-packet.writer w.0 c.args.writer.now bits 8 (ap length last ∙ length-number_bits 8 255) w.2 in
    rw p.1 (
      λ no. absurd (false≢true no),
      λ fits. c.in_err-put.ensures.space.1 (space.1 fits),
    )

pub returns-clause-space : goal.returns-clause-space
returns-clause-space c = λ bits s.
    let w = c.loop-packet.invariant bits s in
    let last = last_of c.args.packets.now c.loop-packet.packet-index w.0 c.loop-packet-test.false w.1 in
    let space = whole_fits c.loop-packet.writer w.0 c.args.writer.now bits 8 (ap length last ∙ length-number_bits 8 255) w.2 in
    (λ _. space.0 (c.in_ok-put.ensures.space.0 refl), λ _. refl)

pub returns-clause-ok : goal.returns-clause-ok
returns-clause-ok c = λ bits s.
    let w = c.loop-packet.invariant bits s in
    let last = last_of c.args.packets.now c.loop-packet.packet-index w.0 c.loop-packet-test.false w.1 in
    c.in_ok-put.ensures.ok ∙ ap (λ (t : List Bool). c.loop-packet.writer ++ t) (sym last) ∙ w.2
