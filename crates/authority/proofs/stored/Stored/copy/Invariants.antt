use Rattle.std.proofs.Common.{◌≡◌, take}
use Rattle.authority.proofs.stored.Stored.copy.Given as goal

abbrev pub invariant-loop-section : goal.invariant-loop-section
invariant-loop-section l = l.timed.items ≡ take l.section-index l.sections
