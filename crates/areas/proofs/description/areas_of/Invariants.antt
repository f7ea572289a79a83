use Rattle.std.proofs.Common.{◌≡◌, ◌+◌, ◌*◌, ◌≤◌, ◌++◌, drop}
use Rattle.std.specs.Int.RustNames.{unsigned_abs}
use Rattle.arrayvec.specs.ArrayVec.{array_vec_len}
use Rattle.units.specs.Limits.{farthest, reach}
use Rattle.areas.specs.Description.{areas_from}
use Rattle.areas.proofs.description.areas_of.Given as goal

abbrev pub invariant-loop-area : goal.invariant-loop-area
invariant-loop-area l = record {
  areas : l.areas.items ++ areas_from l.scale l.at (drop l.area-index l.reported) ≡ areas_from l.scale l.fn.place l.reported;
  count : array_vec_len l.areas ≡ l.area-index;
  near : unsigned_abs l.at ≤ 3 * farthest + l.area-index * reach;
}
