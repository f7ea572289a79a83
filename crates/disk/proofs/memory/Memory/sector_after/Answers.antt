use Rattle.std.proofs.Common.{rules, ◌≡◌, ◌∙◌, sym, ap}
use Rattle.disk.specs.Choice.{chosen}
use Rattle.disk.specs.Memory.{Recording, handed_of}
use Rattle.disk.specs.Record.{bytes_at}
use Rattle.disk.proofs.Settling.{after_open, after_shut}
use Rattle.disk.proofs.memory.Memory.sector_after.Goals as goal

pub returns-in-Old-clause-bytes : goal.returns-in-Old-clause-bytes
returns-in-Old-clause-bytes c =
    let m = c.args.self.now in
    after_open m.sectors m.faults m.start m.written m.calls c.args.sector c.trace-trace.result _ _ _ c.args.choice.now c.trace-trace.ensures.trace (search rules) (search rules)

pub returns-in-New-clause-bytes : goal.returns-in-New-clause-bytes
returns-in-New-clause-bytes c =
    let m = c.args.self.now in
    let start : c.deref-in-New.result.now ≡ m.start = c.deref-in-New.ensures.value ∙ ap (λ (r : Recording). r.start) c.self.view_is in
    let written : c.deref-in-New-2.result.now ≡ m.written = c.deref-in-New-2.ensures.value ∙ ap (λ (r : Recording). r.written) c.self.view_is in
    let here : c.bytes_in-in-New.result.now ≡ handed_of m c.args.sector = c.bytes_in-in-New.ensures.bytes ∙ (λ i. bytes_at (start i) (written i) c.args.sector (c.trace-trace.ensures.trace i).handed) in
    after_open m.sectors m.faults m.start m.written m.calls c.args.sector c.trace-trace.result _ _ (handed_of m c.args.sector) c.args.choice.now c.trace-trace.ensures.trace (search rules)
    (here ∙ ap (λ choice. chosen (bytes_at m.start m.written c.args.sector c.trace-trace.result.synced) (handed_of m c.args.sector) choice) (sym c.in-New.is))

pub returns-then-not-trace-clause-bytes : goal.returns-then-not-trace-clause-bytes
returns-then-not-trace-clause-bytes c =
    let m = c.args.self.now in
    let start : c.deref.result.now ≡ m.start = c.deref.ensures.value ∙ ap (λ (r : Recording). r.start) c.self.view_is in
    let written : c.deref-then-not-trace.result.now ≡ m.written = c.deref-then-not-trace.ensures.value ∙ ap (λ (r : Recording). r.written) c.self.view_is in
    c.bytes_in.ensures.bytes ∙ (λ i. bytes_at (start i) (written i) c.args.sector c.trace-trace.result.last)
    ∙ after_shut m.sectors m.faults m.start m.written m.calls c.args.sector c.trace-trace.result _ c.trace-trace.ensures.trace (search rules)
