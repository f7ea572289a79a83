use Rattle.std.proofs.Common.{rules, refl, length}
use Rattle.disk.specs.declared.record.Call.TheVariants.{Quiet}
use Rattle.disk.specs.Memory.{IsRecording}
use Rattle.disk.proofs.Calls.{quiet_to, leaves_quiet, within_quiet}
use Rattle.disk.proofs.memory.calls.MemoryDisk.read.Goals as goal

pub returns-in-Runs-clause-moments : goal.returns-in-Runs-clause-moments
returns-in-Runs-clause-moments c =
    let m = c.args.self.now in
    let kept : IsRecording m = c.has_space.ensures.kept in
    quiet_to 0 0 (length m.written) m.sectors m.faults _ m.start m.written m.calls Quiet _ _ _ _
    kept.recorded refl kept.whole (λ s. leaves_quiet s) (within_quiet m.sectors (length m.written)) (search rules) (search rules) (search rules) (search rules)

pub returns-in-Fails-clause-moments : goal.returns-in-Fails-clause-moments
returns-in-Fails-clause-moments c =
    let m = c.args.self.now in
    let kept : IsRecording m = c.has_space.ensures.kept in
    quiet_to 0 0 (length m.written) m.sectors m.faults _ m.start m.written m.calls Quiet _ _ _ _
    kept.recorded refl kept.whole (λ s. leaves_quiet s) (within_quiet m.sectors (length m.written)) (search rules) (search rules) (search rules) (search rules)

pub returns-in-Fails-clause-counted : goal.returns-in-Fails-clause-counted
returns-in-Fails-clause-counted c = search rules
