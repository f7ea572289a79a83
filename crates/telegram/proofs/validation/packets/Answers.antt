use Rattle.std.proofs.Common.{◌≡◌, ◌+◌, ◌*◌, ℕ, List, Bool, Ok, Err, length, ap, ◌∙◌, arith}
use Rattle.std.proofs.lemmas.Result.{err_from_is_err_and}
use Rattle.bits.specs.Bits.{bits_of}
use Rattle.bits.specs.Layout.{read}
use Rattle.bits.proofs.Bytes.{length-bits_of}
use Rattle.bits.proofs.Laws.{found}
use Rattle.packets.specs.declared.packet.Packet.{Packet}
use Rattle.telegram.specs.Telegrams.{header}
use Rattle.telegram.specs.Walks.{Walk, located_from}
use Rattle.telegram.specs.declared.header.Header.{Header}
use Rattle.telegram.specs.declared.message.Telegram.{Telegram}
use Rattle.telegram.proofs.Answering.{header_refused, packets_refused, read_carries, fault_ok, fault_err}
use Rattle.telegram.proofs.Lengths.{header_takes}
use Rattle.telegram.proofs.Walking.{packets_in-all, walk_found, walk_refused}
use Rattle.telegram.proofs.validation.packets.Goals as goal

-- what is read of the header
bits_after_header : (bytes : List ℕ) (h : Header) (rest : List Bool) → read header (bits_of bytes) ≡ Ok (h, rest) → 50 + length rest ≡ 8 * length bytes
bits_after_header bytes h rest first = omega (arith, header_takes _ _ _ (found header _ _ _ first), length-bits_of bytes)

pub returns-in_err-header-clause-found : goal.returns-in_err-header-clause-found
returns-in_err-header-clause-found c =
    let p = err_from_is_err_and c.from_residual.result c.from_residual.ensures.1 in
    let fault : read header (bits_of c.args.bytes.now) ≡ Err c.in_err-header.field-0.0 = rw c.new-reader.ensures at c.in_err-header.ensures in
    rw (p.1, p.2) (walk_refused _ _ (header_refused _ _ c.if-bytes-gt-TELEGRAM_BYTES.false fault))

pub returns-in_err-header-clause-fault : goal.returns-in_err-header-clause-fault
returns-in_err-header-clause-fault c =
    let p = err_from_is_err_and c.from_residual.result c.from_residual.ensures.1 in
    let fault : read header (bits_of c.args.bytes.now) ≡ Err c.in_err-header.field-0.0 = rw c.new-reader.ensures at c.in_err-header.ensures in
    rw (p.1, p.2) (fault_err _ _ _ (header_refused _ _ c.if-bytes-gt-TELEGRAM_BYTES.false fault))

pub count_packets-requires : goal.count_packets-requires
count_packets-requires c =
    let first : read header (bits_of c.args.bytes.now) ≡ Ok (c.in_ok-header.header, c.read_header.new.reader) = rw c.new-reader.ensures at c.in_ok-header.ensures in
    record { small = omega (arith, bits_after_header _ _ _ first, c.if-bytes-gt-TELEGRAM_BYTES.false) }

pub returns-in_err-left-clause-found : goal.returns-in_err-left-clause-found
returns-in_err-left-clause-found c =
    let p = err_from_is_err_and c.from_residual-in_err-left.result c.from_residual-in_err-left.ensures.1 in
    let first : read header (bits_of c.args.bytes.now) ≡ Ok (c.in_ok-header.header, c.read_header.new.reader) = rw c.new-reader.ensures at c.in_ok-header.ensures in
    let refusal = c.in_err-left.ensures.err in
    rw (p.1, p.2) (walk_refused _ _ (packets_refused _ _ _ _ refusal.0 c.if-bytes-gt-TELEGRAM_BYTES.false first refusal.1))

pub returns-in_err-left-clause-fault : goal.returns-in_err-left-clause-fault
returns-in_err-left-clause-fault c =
    let p = err_from_is_err_and c.from_residual-in_err-left.result c.from_residual-in_err-left.ensures.1 in
    let first : read header (bits_of c.args.bytes.now) ≡ Ok (c.in_ok-header.header, c.read_header.new.reader) = rw c.new-reader.ensures at c.in_ok-header.ensures in
    let refusal = c.in_err-left.ensures.err in
    rw (p.1, p.2) (fault_err _ _ _ (packets_refused _ _ _ _ refusal.0 c.if-bytes-gt-TELEGRAM_BYTES.false first refusal.1))

pub invariant_of-result : goal.invariant_of-result
invariant_of-result c =
    let first : read header (bits_of c.args.bytes.now) ≡ Ok (c.in_ok-header.header, c.read_header.new.reader) = rw c.new-reader.ensures at c.in_ok-header.ensures in
    let ps = c.in_ok-left.ensures.ok in
    let all = packets_in-all ps.0 _ _ _ ps.1 ps.2 in
    rw c.fork-first.ensures (c.if-bytes-gt-TELEGRAM_BYTES.false, bits_after_header _ _ _ first, ap length all ∙ ps.1)

abbrev telegram_of : Header → List Packet → Telegram
telegram_of h ps = record { header = h; packets = record { items = ps } }

abbrev walk_at : List ℕ → Header → List Packet → Walk
walk_at bytes h ps = record { header = h; items = located_from bytes 50 ps }

pub returns-clause-found : goal.returns-clause-found
returns-clause-found c =
    let first : read header (bits_of c.args.bytes.now) ≡ Ok (c.in_ok-header.header, c.read_header.new.reader) = rw c.new-reader.ensures at c.in_ok-header.ensures in
    let ps = c.in_ok-left.ensures.ok in
    let all = packets_in-all ps.0 _ _ _ ps.1 ps.2 in
    let t = telegram_of c.in_ok-header.header ps.0 in
    rw c.fork-first.ensures (walk_found _ t _ (read_carries _ t _ _ c.if-bytes-gt-TELEGRAM_BYTES.false first ps.2) (ap (walk_at c.args.bytes.now c.in_ok-header.header) all))

pub returns-clause-fault : goal.returns-clause-fault
returns-clause-fault c =
    let first : read header (bits_of c.args.bytes.now) ≡ Ok (c.in_ok-header.header, c.read_header.new.reader) = rw c.new-reader.ensures at c.in_ok-header.ensures in
    let ps = c.in_ok-left.ensures.ok in
    let t = telegram_of c.in_ok-header.header ps.0 in
    fault_ok _ _ t (read_carries _ t _ _ c.if-bytes-gt-TELEGRAM_BYTES.false first ps.2)
