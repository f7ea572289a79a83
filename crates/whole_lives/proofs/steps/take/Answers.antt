use Rattle.std.proofs.Common.{◌≡◌, List, [], ◌++◌, sym, subst}
use Rattle.std.proofs.lemmas.List.{append-nil}
use Rattle.events.specs.declared.step.Step.{Step}
use Rattle.disk.specs.State.{State, contents_of}
use Rattle.whole_lives.specs.Runs.{flush_one, IsStepped, Took}
use Rattle.whole_lives.specs.Written.{earlier_one, IsLastWritten}
use Rattle.onboard.specs.declared.released.Released.{Released}
use Rattle.whole_lives.proofs.Stepping.{took_input, took_flush}
use Rattle.whole_lives.proofs.steps.take.Goals as goal

pub returns-in-Ok-clause-stepped : goal.returns-in-Ok-clause-stepped
returns-in-Ok-clause-stepped g c = λ whole_from durable accepted honest opened ahead.
    let halves = c.in-Ok.ensures.stepped whole_from durable accepted honest opened ahead in
    let u = c.accept_one.new.unit in
    let T : Step → Type 0 = λ x. IsStepped whole_from x durable accepted (g.D.WriteDisk.state c.args.unit.now.disk) (g.D.WriteDisk.state u.disk)
    × ((its : List Released) × (c.args.out.now.items ≡ c.args.out.now.items ++ its) × Took whole_from durable accepted x u.journal u.life (g.D.WriteDisk.state u.disk) its) in
    subst T (sym c.in-Accept.is) (halves.0, ([], sym (append-nil c.args.out.now.items), took_input whole_from durable accepted c.in-Accept.input u.journal u.life (g.D.WriteDisk.state u.disk) halves.1.0 halves.1.1))

pub returns-in-Err-clause-stepped : goal.returns-in-Err-clause-stepped
returns-in-Err-clause-stepped g c = λ whole_from durable accepted honest opened ahead.
    let halves = c.in-Err.ensures.stepped whole_from durable accepted honest opened ahead in
    let T : Step → Type 0 = λ x. IsStepped whole_from x durable accepted (g.D.WriteDisk.state c.args.unit.now.disk) (g.D.WriteDisk.state c.accept_one.new.unit.disk) in
    (subst T (sym c.in-Accept.is) halves.0, tt)

pub returns-in-Ok-flush_onto-clause-stepped : goal.returns-in-Ok-flush_onto-clause-stepped
returns-in-Ok-flush_onto-clause-stepped g c = λ whole_from durable accepted honest opened ahead.
    let halves = c.in-Ok-flush_onto.ensures.stepped whole_from durable accepted honest opened ahead in
    let u = c.flush_onto.new.unit in
    let T : Step → Type 0 = λ x. IsStepped whole_from x durable accepted (g.D.WriteDisk.state c.args.unit.now.disk) (g.D.WriteDisk.state u.disk)
    × ((its : List Released) × (c.flush_onto.new.out.items ≡ c.args.out.now.items ++ its) × Took whole_from durable accepted x u.journal u.life (g.D.WriteDisk.state u.disk) its) in
    subst T (sym c.in-Flush.is) (halves.0, (c.args.unit.now.life.pairs, c.in-Ok-flush_onto.ensures.released, took_flush whole_from durable accepted u.journal u.life c.args.unit.now.life.pairs (g.D.WriteDisk.state u.disk) halves.1.0 halves.1.1 ahead.pairs_are))

pub returns-in-Err-flush_onto-clause-stepped : goal.returns-in-Err-flush_onto-clause-stepped
returns-in-Err-flush_onto-clause-stepped g c = λ whole_from durable accepted honest opened ahead.
    let halves = c.in-Err-flush_onto.ensures.stepped whole_from durable accepted honest opened ahead in
    let T : Step → Type 0 = λ x. IsStepped whole_from x durable accepted (g.D.WriteDisk.state c.args.unit.now.disk) (g.D.WriteDisk.state c.flush_onto.new.unit.disk) in
    (subst T (sym c.in-Flush.is) halves.0, tt)

pub returns-in-Ok-clause-last : goal.returns-in-Ok-clause-last
returns-in-Ok-clause-last g c = λ whole_from earlier durable accepted honest opened ahead last.
    let new : State = g.D.WriteDisk.state c.accept_one.new.unit.disk in
    let L : Step → Type 0 = λ x. IsLastWritten new.sectors (earlier_one earlier durable accepted x) (flush_one durable accepted x) (contents_of new) in
    subst L (sym c.in-Accept.is) (c.in-Ok.ensures.last whole_from earlier durable accepted honest opened ahead last)

pub returns-in-Ok-flush_onto-clause-last : goal.returns-in-Ok-flush_onto-clause-last
returns-in-Ok-flush_onto-clause-last g c = λ whole_from earlier durable accepted honest opened ahead last.
    let new : State = g.D.WriteDisk.state c.flush_onto.new.unit.disk in
    let L : Step → Type 0 = λ x. IsLastWritten new.sectors (earlier_one earlier durable accepted x) (flush_one durable accepted x) (contents_of new) in
    subst L (sym c.in-Flush.is) (c.in-Ok-flush_onto.ensures.last whole_from earlier durable accepted honest opened ahead last)
