use Rattle.std.proofs.Common.{ℕ, length, subst, refl}
use Rattle.std.specs.Prelude.{All}
use Rattle.disk.specs.Memory.{IsRecording, handed_of}
use Rattle.disk.specs.Record.{trace_of, IsWithin}
use Rattle.disk.proofs.RecordLemmas.{placed}
use Rattle.disk.proofs.Widths.{width_at}
use Rattle.disk.proofs.Reaching.{reached, settles}
use Rattle.disk.proofs.laws.settling_gives_each_image.Goals as goal

pub returns-clause-images : goal.returns-clause-images
returns-clause-images c =
    let m = c.args.disk.now in
    let kept : IsRecording m = c.kept.ensures in
    settles m.sectors m.faults (length m.written) m.start m.written m.calls (handed_of m) kept.recorded kept.whole refl
    (λ s below. width_at m.sectors m.start m.written s (trace_of s m.calls).handed kept.whole below
    (placed m.sectors (length m.written) s m.calls (subst (λ (n : ℕ). All (IsWithin m.sectors n) m.calls) refl kept.recorded)).handed)

pub returns-clause-each : goal.returns-clause-each
returns-clause-each c =
    let m = c.args.disk.now in
    let kept : IsRecording m = c.kept.ensures in
    reached m.sectors m.faults (length m.written) m.start m.written m.calls (handed_of m) kept.recorded kept.whole refl
