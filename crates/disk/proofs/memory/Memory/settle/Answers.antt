use Rattle.std.proofs.Common.{rules, refl, ◌≡◌, ◌*◌, length, ap, ◌∙◌}
use Rattle.std.proofs.lemmas.Bool.{cond-false}
use Rattle.disk.specs.Choice.{settled_sector}
use Rattle.disk.specs.Memory.{IsRecording, memory_state, handed_of}
use Rattle.disk.proofs.Settling.{settled_past, fresh_contents, settled_all}
use Rattle.disk.proofs.Reaching.{width_settled}
use Rattle.disk.proofs.memory.Memory.settle.Goals as goal

pub returns-clause-contents : goal.returns-clause-contents
returns-clause-contents c = λ s.
    let m = c.args.self.now in
    let kept : IsRecording m = search rules in
    let size : length c.in_ok-settled.field-0.items ≡ 512 * m.sectors = search rules in
    fresh_contents _ _ _ s c.in_ok-with_capacity.ensures.items
    ∙ settled_all c.in_ok-settled.field-0.items m.sectors (settled_sector (memory_state m) (handed_of m) c.args.choices.now) size c.in_ok-settled.ensures.sectors
    (λ t past. settled_past m.sectors m.faults _ m.start m.written m.calls (handed_of m) c.args.choices.now t kept.recorded kept.whole past) s

pub returns-clause-image : goal.returns-clause-image
returns-clause-image c =
    let m = c.args.self.now in
    let kept : IsRecording m = search rules in
    let size : length c.in_ok-settled.field-0.items ≡ 512 * m.sectors = search rules in
    record {
      shut = λ s shut. returns-clause-contents c s ∙ cond-false _ _ _ shut;
      whole = λ s. ap length (fresh_contents _ _ _ s c.in_ok-with_capacity.ensures.items)
          ∙ width_settled m.sectors (length m.written) m.start m.written m.calls kept.whole refl kept.recorded c.in_ok-settled.field-0.items size s;
    }
