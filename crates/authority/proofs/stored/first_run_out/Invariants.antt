use Rattle.std.proofs.Common.{◌≡◌, drop}
use Rattle.authority.specs.Steps.{first_over}
use Rattle.authority.proofs.stored.first_run_out.Given as goal

abbrev pub invariant-loop-section : goal.invariant-loop-section
invariant-loop-section l = first_over l.start l.now (drop l.section-index l.timed) ≡ first_over l.start l.now l.timed
