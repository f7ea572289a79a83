use Rattle.std.proofs.Common.{◌≡◌, Ok, Err, arith}
use Rattle.std.proofs.lemmas.Result.{err_from_is_err_and}
use Rattle.bits.specs.Bits.{bits_of}
use Rattle.bits.specs.Layout.{read}
use Rattle.bits.proofs.Bytes.{length-bits_of}
use Rattle.bits.proofs.Laws.{found}
use Rattle.telegram.specs.Telegrams.{header}
use Rattle.telegram.proofs.Answering.{header_refused, packets_refused, read_carries}
use Rattle.telegram.proofs.Lengths.{header_takes}
use Rattle.telegram.proofs.decoding.fill.Goals as goal

pub returns-in_err-telegram-clause-err : goal.returns-in_err-telegram-clause-err
returns-in_err-telegram-clause-err c =
    let p = err_from_is_err_and c.from_residual.result c.from_residual.ensures.1 in
    let fault : read header (bits_of c.args.bytes.now) ≡ Err c.in_err-telegram.field-0.0 = rw c.new-reader.ensures at c.in_err-telegram.ensures in
    rw (p.1, p.2) (header_refused _ _ c.if-bytes-gt-TELEGRAM_BYTES.false fault)

pub read_packets-requires-clause-small : goal.read_packets-requires-clause-small
read_packets-requires-clause-small c =
    let first : read header (bits_of c.args.bytes.now) ≡ Ok (c.in_ok-telegram.field-0, c.read_header.new.reader) = rw c.new-reader.ensures at c.in_ok-telegram.ensures in
    omega (arith, header_takes _ _ _ (found header _ _ _ first), length-bits_of c.args.bytes.now)

pub returns-in_err-read_packets-clause-err : goal.returns-in_err-read_packets-clause-err
returns-in_err-read_packets-clause-err c =
    let p = err_from_is_err_and c.from_residual-in_err-read_packets.result c.from_residual-in_err-read_packets.ensures.1 in
    let first : read header (bits_of c.args.bytes.now) ≡ Ok (c.in_ok-telegram.field-0, c.read_header.new.reader) = rw c.new-reader.ensures at c.in_ok-telegram.ensures in
    let refusal = c.in_err-read_packets.ensures.err in
    rw (p.1, p.2) (packets_refused _ _ _ _ refusal.0 c.if-bytes-gt-TELEGRAM_BYTES.false first refusal.1)

pub returns-clause-ok : goal.returns-clause-ok
returns-clause-ok c =
    let first : read header (bits_of c.args.bytes.now) ≡ Ok (c.in_ok-telegram.field-0, c.read_header.new.reader) = rw c.new-reader.ensures at c.in_ok-telegram.ensures in
    read_carries _ _ _ _ c.if-bytes-gt-TELEGRAM_BYTES.false first c.in_ok-read_packets.ensures.ok
