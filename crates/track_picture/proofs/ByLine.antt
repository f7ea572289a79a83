-- Kind by kind, what counts after a happening follows the kind's line of the table.
use Rattle.std.proofs.Common.{List, refl, ap}
use Rattle.std.specs.Prelude.{reverse}
use Rattle.mode_table.specs.declared.mode.Mode.{Mode}
use Rattle.mode_table.specs.declared.statuses.Item.TheVariants as item
use Rattle.track_store.specs.declared.restriction.Restriction.{Restriction}
use Rattle.track_picture.specs.Live.{Happening}
use Rattle.track_picture.specs.Parts.{areas_or_none, mark_in, newest}
use Rattle.track_picture.specs.Ending.{NoneAtPowerUp, EachByItsLine, LeavesNone, LeavesAll, ModesDeleteByTheTable}
use Rattle.track_picture.proofs.OneKind.{step, stays, deleted}
use Rattle.track_picture.proofs.EachKind.{values, link, miss, grant, look, gradients, speeds, level, restricted, zones}
use Rattle.track_picture.proofs.Limits as limits
use Rattle.track_picture.proofs.Limits.{held}
use Rattle.track_picture.proofs.Nation as nation

pub none_at_power_up : NoneAtPowerUp
none_at_power_up length = refl

pub each_by_its_line : EachByItsLine
each_by_its_line = record {
  values = step values;
  links = step link;
  misses = step miss;
  authorities = step grant;
  looks = step look;
  gradients = step gradients;
  speeds = step speeds;
  levels = step level;
  restrictions = step restricted;
  areas = step zones;
}

leaves_none : (mode : Mode) (earlier : List Happening) → LeavesNone mode earlier
leaves_none mode earlier = record {
  links = λ d. deleted link item.Linking (λ m x. refl) mode earlier d;
  authority = λ d. ap newest (deleted grant item.Authority (λ m x. refl) mode earlier d);
  gradients = λ d. deleted gradients item.Profiles (λ m x. refl) mode earlier d;
  speeds = λ d. deleted speeds item.Profiles (λ m x. refl) mode earlier d;
  areas = λ d. ap (λ xs. areas_or_none (newest xs)) (deleted zones item.ModeAreas (λ m x. refl) mode earlier d);
  level = λ d. ap newest (deleted level item.LevelAnnouncement (λ m x. refl) mode earlier d);
}

leaves_all : (mode : Mode) (earlier : List Happening) → LeavesAll mode earlier
leaves_all mode earlier = record {
  restrictions =
      ap (λ (rs : List Restriction). held (mark_in earlier) (reverse rs))
      (stays restricted item.Restrictions limits.none_deletes (λ m x. refl) mode earlier);
  values = ap newest (stays values item.AnnouncedValues nation.none_deletes (λ m x. refl) mode earlier);
}

pub modes_delete_by_the_table : ModesDeleteByTheTable
modes_delete_by_the_table mode earlier = (leaves_none mode earlier, leaves_all mode earlier)
