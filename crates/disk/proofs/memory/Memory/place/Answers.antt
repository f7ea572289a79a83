use Rattle.std.proofs.Common.{◌≡◌, sym, subst, length, rules, arith}
use Rattle.std.proofs.lemmas.Grind.{common_steps}
use Rattle.disk.specs.Memory.{IsRecording}
use Rattle.disk.specs.Record.{IsPlaced, trace_of}
use Rattle.disk.specs.declared.record.Place.{Place}
use Rattle.disk.proofs.RecordLemmas.{placed}
use Rattle.disk.proofs.memory.Memory.place.Goals as goal

pub returns-clause-placed : goal.returns-clause-placed
returns-clause-placed c =
    let m = c.args.self.now in
    let kept : IsRecording m = search rules in
    let last : c.index.result.now ≡ (trace_of c.args.sector m.calls).last = grind (arith, common_steps) in
    let P : Place → Type 0 = λ p. IsPlaced (length m.written) p in
    subst P (sym last) (placed m.sectors (length m.written) c.args.sector m.calls kept.recorded).last
