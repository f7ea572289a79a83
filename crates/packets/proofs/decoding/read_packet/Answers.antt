use Rattle.std.proofs.Common.{◌≡◌, Ok, Err, ap, ◌∙◌, rules}
use Rattle.std.proofs.lemmas.Result.{err_from_is_err_and}
use Rattle.bits.specs.Layout.{Begins, Refuses, read}
use Rattle.packets.specs.Packets.{packet}
use Rattle.packets.specs.declared.packet.Packet.{Packet}
use Rattle.bits.proofs.Laws.{err_same, found, refused, begins_once, begins_not_refused, refused_once}
use Rattle.packets.proofs.decoding.read_packet.Goals as goal

pub returns-in_err-packet-clause-only : goal.returns-in_err-packet-clause-only
returns-in_err-packet-clause-only c = λ p rest b.
    let r : Refuses packet c.in_err-packet.field-0.0 c.args.reader.now = refused packet _ _ (rw c.fork-trial.ensures at c.in_err-packet.ensures) in
    absurd (begins_not_refused packet p _ _ rest b r)

pub returns-in_err-packet-clause-fault : goal.returns-in_err-packet-clause-fault
returns-in_err-packet-clause-fault c =
    let p = err_from_is_err_and c.from_residual.result c.from_residual.ensures.1 in
    let refusal : read packet c.args.reader.now ≡ Err c.in_err-packet.field-0.0 = rw c.fork-trial.ensures at c.in_err-packet.ensures in
    rw (p.1, p.2) (λ e. (
      λ same. refused packet c.args.reader.now e (refusal ∙ ap (λ d. Err d) (err_same Packet _ e same)),
      λ r. ap (λ d. Err d) (refused_once packet _ e c.args.reader.now (refused packet _ _ refusal) r),
    ))

pub returns-in_err-packet-clause-err : goal.returns-in_err-packet-clause-err
returns-in_err-packet-clause-err c = search rules

pub returns-clause-found : goal.returns-clause-found
returns-clause-found c = found packet c.args.reader.now c.in_ok-packet.packet c.whole.new.reader (rw c.fork-trial.ensures at c.in_ok-packet.ensures)

pub returns-clause-only : goal.returns-clause-only
returns-clause-only c = λ p rest b.
    let begins : Begins packet c.in_ok-packet.packet c.args.reader.now c.whole.new.reader = found packet _ _ _ (rw c.fork-trial.ensures at c.in_ok-packet.ensures) in
    let one = begins_once packet _ p _ _ rest begins b in
    (ap (λ q. Ok q) one.0, one.1)

pub returns-clause-fault : goal.returns-clause-fault
returns-clause-fault c = λ e. (
  λ same. absurd cc,
  λ r.
      let begins : Begins packet c.in_ok-packet.packet c.args.reader.now c.whole.new.reader = found packet _ _ _ (rw c.fork-trial.ensures at c.in_ok-packet.ensures) in
      absurd (begins_not_refused packet _ e _ _ begins r),
)

pub returns-clause-spelled : goal.returns-clause-spelled
returns-clause-spelled c =
    let begins : Begins packet c.in_ok-packet.packet c.args.reader.now c.whole.new.reader = found packet _ _ _ (rw c.fork-trial.ensures at c.in_ok-packet.ensures) in
    (begins.front, begins.spelled)
