use Rattle.std.proofs.Common.{◌≡◌, ◌++◌, drop}
use Rattle.arrayvec.specs.ArrayVec.{array_vec_len}
use Rattle.linking.specs.Linking.{numbered_from, numbered}
use Rattle.linking.proofs.links.numbered.Given as goal

abbrev pub invariant-loop-announcement : goal.invariant-loop-announcement
invariant-loop-announcement l = record {
  length : array_vec_len l.list ≡ l.announcement-index;
  items : l.list.items ++ numbered_from l.announcement-index (drop l.announcement-index l.announcements) ≡ numbered l.announcements;
}
