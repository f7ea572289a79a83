use Rattle.std.proofs.Common.{◌≡◌, ◌+◌, ◌*◌, ◌≤◌, ◌++◌, drop}
use Rattle.std.specs.Int.RustNames.{unsigned_abs}
use Rattle.arrayvec.specs.ArrayVec.{array_vec_len}
use Rattle.units.specs.Limits.{farthest, reach}
use Rattle.authority.specs.Track.{timed_from, end_from}
use Rattle.authority.proofs.accepting.store.Given as goal

abbrev pub invariant-loop-section : goal.invariant-loop-section
invariant-loop-section l = record {
  timers : l.stored.timed.items ++ timed_from l.scale l.at (drop l.section-index l.sections) ≡ timed_from l.scale l.fn.place l.sections;
  end : end_from l.scale l.at (drop l.section-index l.sections) ≡ end_from l.scale l.fn.place l.sections;
  count : array_vec_len l.stored.timed ≤ l.section-index;
  near : unsigned_abs l.at ≤ 3 * farthest + l.section-index * reach;
}
