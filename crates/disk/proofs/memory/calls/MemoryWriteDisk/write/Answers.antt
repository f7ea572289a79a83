use Rattle.std.proofs.Common.{rules, refl, ◌≡◌, ◌+◌, ◌*◌, ◌/◌, length, arith}
use Rattle.disk.specs.Record.{IsWithin}
use Rattle.disk.specs.declared.record.Span.{Span}
use Rattle.disk.specs.declared.record.Call.TheVariants.{Written, Torn, Quiet}
use Rattle.disk.specs.Memory.{IsRecording}
use Rattle.disk.proofs.Calls.{quiet_to, leaves_quiet, within_quiet, leaves_written_bytes, leaves_torn_bytes, touches_to, written_holds, hands_written, hands_torn, handed_holds, same_handed_written, same_handed_torn, others_handed, torn_contents}
use Rattle.disk.proofs.memory.calls.MemoryWriteDisk.write.Goals as goal

pub returns-in-Runs-clause-moments : goal.returns-in-Runs-clause-moments
returns-in-Runs-clause-moments c =
    let m = c.args.self.now in
    let kept : IsRecording m = c.has_space.ensures.kept in
    let whole : length c.args.bytes.now ≡ 512 * (length c.args.bytes.now / 512) = omega (arith, c.requires.whole) in
    let at : c.len.result ≡ length m.written = search rules in
    let span : Span = record { first = c.args.first; sectors = length c.args.bytes.now / 512; from = c.len.result } in
    let inside : IsWithin m.sectors (length m.written + length c.args.bytes.now) (Written span) = record {
      below = omega (arith, whole, c.requires.within);
      bytes = omega (arith, whole, at);
    } in
    touches_to c.args.first (length c.args.bytes.now) (length m.written) m.sectors m.faults _ m.start m.written c.args.bytes.now m.calls (Written span) _ _ _ _ kept.recorded refl kept.whole inside
    (λ s out. leaves_written_bytes span (length c.args.bytes.now) s whole out) c.note.ensures.sectors (search rules) c.note.ensures.written c.note.ensures.calls

pub returns-in-Runs-clause-written : goal.returns-in-Runs-clause-written
returns-in-Runs-clause-written c =
    let m = c.args.self.now in
    let kept : IsRecording m = c.has_space.ensures.kept in
    let whole : length c.args.bytes.now ≡ 512 * (length c.args.bytes.now / 512) = omega (arith, c.requires.whole) in
    let at : c.len.result ≡ length m.written = search rules in
    let span : Span = record { first = c.args.first; sectors = length c.args.bytes.now / 512; from = c.len.result } in
    written_holds m.start m.written c.args.bytes.now m.calls span _ _ _ at whole (search rules) c.note.ensures.written c.note.ensures.calls

pub returns-in-Runs-clause-handed : goal.returns-in-Runs-clause-handed
returns-in-Runs-clause-handed c = λ _ _.
    let m = c.args.self.now in
    let kept : IsRecording m = c.has_space.ensures.kept in
    let whole : length c.args.bytes.now ≡ 512 * (length c.args.bytes.now / 512) = omega (arith, c.requires.whole) in
    let at : c.len.result ≡ length m.written = search rules in
    let span : Span = record { first = c.args.first; sectors = length c.args.bytes.now / 512; from = c.len.result } in
    handed_holds m.start m.written c.args.bytes.now m.calls (Written span) span _ _ _ (hands_written span) at whole c.note.ensures.written c.note.ensures.calls

pub returns-in-Runs-clause-others_handed : goal.returns-in-Runs-clause-others_handed
returns-in-Runs-clause-others_handed c =
    let m = c.args.self.now in
    let kept : IsRecording m = c.has_space.ensures.kept in
    let whole : length c.args.bytes.now ≡ 512 * (length c.args.bytes.now / 512) = omega (arith, c.requires.whole) in
    let at : c.len.result ≡ length m.written = search rules in
    let span : Span = record { first = c.args.first; sectors = length c.args.bytes.now / 512; from = c.len.result } in
    let inside : IsWithin m.sectors (length m.written + length c.args.bytes.now) (Written span) = record {
      below = omega (arith, whole, c.requires.within);
      bytes = omega (arith, whole, at);
    } in
    others_handed c.args.first (length c.args.bytes.now) (length m.written) m.sectors m.start m.written c.args.bytes.now m.calls (Written span) _ _ _ kept.recorded refl kept.whole inside
    (λ s out. same_handed_written span (length c.args.bytes.now) s whole out) (search rules) c.note.ensures.written c.note.ensures.calls

pub returns-in-Fails-clause-moments : goal.returns-in-Fails-clause-moments
returns-in-Fails-clause-moments c =
    let m = c.args.self.now in
    let kept : IsRecording m = c.has_space.ensures.kept in
    let whole : length c.args.bytes.now ≡ 512 * (length c.args.bytes.now / 512) = omega (arith, c.requires.whole) in
    let at : c.len.result ≡ length m.written = search rules in
    let span : Span = record { first = c.args.first; sectors = length c.args.bytes.now / 512; from = c.len.result } in
    let inside : IsWithin m.sectors (length m.written + length c.args.bytes.now) (Torn span) = record {
      below = omega (arith, whole, c.requires.within);
      bytes = omega (arith, whole, at);
    } in
    touches_to c.args.first (length c.args.bytes.now) (length m.written) m.sectors m.faults _ m.start m.written c.args.bytes.now m.calls (Torn span) _ _ _ _ kept.recorded refl kept.whole inside
    (λ s out. leaves_torn_bytes span (length c.args.bytes.now) s whole out) (search rules) (search rules) (search rules) (search rules)

pub returns-in-Fails-clause-old_bytes : goal.returns-in-Fails-clause-old_bytes
returns-in-Fails-clause-old_bytes c =
    let m = c.args.self.now in
    let kept : IsRecording m = c.has_space.ensures.kept in
    let span : Span = record { first = c.args.first; sectors = length c.args.bytes.now / 512; from = c.len.result } in
    torn_contents (length m.written) m.sectors m.start m.written c.args.bytes.now m.calls span c.fault-in-Fails.new.self.start c.fault-in-Fails.new.self.written c.fault-in-Fails.new.self.calls kept.recorded refl (search rules) (search rules) (search rules)

pub returns-in-Fails-clause-handed : goal.returns-in-Fails-clause-handed
returns-in-Fails-clause-handed c = λ _ _.
    let m = c.args.self.now in
    let kept : IsRecording m = c.has_space.ensures.kept in
    let whole : length c.args.bytes.now ≡ 512 * (length c.args.bytes.now / 512) = omega (arith, c.requires.whole) in
    let at : c.len.result ≡ length m.written = search rules in
    let span : Span = record { first = c.args.first; sectors = length c.args.bytes.now / 512; from = c.len.result } in
    handed_holds m.start m.written c.args.bytes.now m.calls (Torn span) span c.fault-in-Fails.new.self.start c.fault-in-Fails.new.self.written c.fault-in-Fails.new.self.calls (hands_torn span) at whole (search rules) (search rules)

pub returns-in-Fails-clause-others_handed : goal.returns-in-Fails-clause-others_handed
returns-in-Fails-clause-others_handed c =
    let m = c.args.self.now in
    let kept : IsRecording m = c.has_space.ensures.kept in
    let whole : length c.args.bytes.now ≡ 512 * (length c.args.bytes.now / 512) = omega (arith, c.requires.whole) in
    let at : c.len.result ≡ length m.written = search rules in
    let span : Span = record { first = c.args.first; sectors = length c.args.bytes.now / 512; from = c.len.result } in
    let inside : IsWithin m.sectors (length m.written + length c.args.bytes.now) (Torn span) = record {
      below = omega (arith, whole, c.requires.within);
      bytes = omega (arith, whole, at);
    } in
    others_handed c.args.first (length c.args.bytes.now) (length m.written) m.sectors m.start m.written c.args.bytes.now m.calls (Torn span) c.fault-in-Fails.new.self.start c.fault-in-Fails.new.self.written c.fault-in-Fails.new.self.calls kept.recorded refl kept.whole inside
    (λ s out. same_handed_torn span (length c.args.bytes.now) s whole out) (search rules) (search rules) (search rules)

pub returns-in-Dead-clause-moments : goal.returns-in-Dead-clause-moments
returns-in-Dead-clause-moments c =
    let m = c.args.self.now in
    let kept : IsRecording m = c.has_space.ensures.kept in
    let after = c.fault-in-Dead.new.self in
    quiet_to c.args.first (length c.args.bytes.now) (length m.written) m.sectors m.faults after.faults m.start m.written m.calls Quiet after.sectors after.start after.written after.calls
    kept.recorded refl kept.whole (λ s. leaves_quiet s) (within_quiet m.sectors (length m.written)) (search rules) (search rules) (search rules) (search rules)
