use Rattle.std.proofs.Common.{rules, ◌≡◌, ℕ, ◌+◌, ◌++◌, length, ◌∙◌, sym, ap, arith, length-append}
use Rattle.std.specs.Prelude.{if◌then◌else◌}
use Rattle.disk.specs.State.{Platter, now, contents_of, last_synced}
use Rattle.disk.specs.Choice.{choice_at, chosen, settled_sector}
use Rattle.disk.specs.Memory.{memory_state, handed_of}
use Rattle.disk.specs.declared.choice.Choice.{Choice}
use Rattle.disk.proofs.Settling.{open_yes, open_no, settled_more}
use Rattle.disk.proofs.memory.Memory.settled.Goals as goal
use Rattle.disk.proofs.memory.Memory.settled.Goals.{then-is_open, else-is_open}

pub loop-sector-preserved : goal.loop-sector-preserved
loop-sector-preserved c =
    let m = c.args.self.now in
    let p : Platter = now (memory_state m) in
    let i : ℕ = c.loop-sector.sector in
    let is : c.extend_from_slice.new.self.items ≡ c.loop-sector.after.items ++ c.sector_after.result.now = search rules in
    record {
      size = omega (arith, ap length is, length-append c.loop-sector.after.items c.sector_after.result.now, c.sector_after.ensures.size, c.loop-sector.invariant.size);
      few = elim c.if-is_open.branch [ then-is_open w ↦ omega (arith, w.next-is, c.loop-sector.invariant.few) | else-is_open w ↦ omega (arith, w.next-is, c.loop-sector.invariant.few) ];
      next = elim c.if-is_open.branch [
        | then-is_open w ↦ w.next-is ∙ ap (λ (n : ℕ). n + 1) c.loop-sector.invariant.next ∙ sym (open_yes p i (sym c.is_open.ensures ∙ w.if-is_open.true))
        | else-is_open w ↦ w.next-is ∙ c.loop-sector.invariant.next ∙ sym (open_no p i (sym c.is_open.ensures ∙ w.if-is_open.false))
      ];
      settled = settled_more c.loop-sector.after.items c.extend_from_slice.new.self.items c.sector_after.result.now i (settled_sector (memory_state m) (handed_of m) c.args.choices.now) is c.loop-sector.invariant.size c.sector_after.ensures.size
          (c.sector_after.ensures.bytes
          ∙ ap (λ (choice : Choice). if p.is_open i then chosen (last_synced (memory_state m) i) (handed_of m i) choice else contents_of (memory_state m) i) (c.nth-choice.ensures ∙ ap (λ (n : ℕ). choice_at c.args.choices.now n) c.loop-sector.invariant.next))
          c.loop-sector.invariant.settled;
    }
