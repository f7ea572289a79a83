use Rattle.std.proofs.Common.{sym, subst, take}
use Rattle.std.proofs.lemmas.List.Elements.{All-take}
use Rattle.disk.specs.Record.{IsWithin, AllPlaced}
use Rattle.disk.specs.declared.record.Trace.{Trace}
use Rattle.disk.proofs.RecordLemmas.{placed}
use Rattle.disk.proofs.record.follow.Goals as goal

pub returns-clause-placed : goal.returns-clause-placed
returns-clause-placed c =
    let P : Trace → Type 0 = λ t. AllPlaced c.args.written t in
    subst P (sym c.loop-call.invariant)
    (placed c.args.sectors c.args.written c.args.sector (take c.loop-call.call-index c.args.calls.now) (All-take (IsWithin c.args.sectors c.args.written) c.loop-call.call-index c.args.calls.now c.requires))
