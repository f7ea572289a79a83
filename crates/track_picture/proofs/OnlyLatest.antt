-- Of some kinds one fact counts at most.
use Rattle.std.proofs.Common.{◌≡◌, ◌≤◌, List, [], ◌∷◌, length, sym, subst, arith}
use Rattle.std.specs.Prelude.{Option, Some, None}
use Rattle.areas.specs.declared.area.Area.{Area}
use Rattle.areas.specs.Entries as areas
use Rattle.areas.specs.Entries.{AreaEntry}
use Rattle.areas.specs.Levels as levels
use Rattle.authority.specs.Entries.{accepted}
use Rattle.national.specs.InForce as national
use Rattle.track_store.specs.Profiles.{listed}
use Rattle.track_picture.specs.Columns.{reported_in}
use Rattle.track_picture.specs.Ending.{OnlyLatestCounts}
use Rattle.track_picture.specs.Happenings.{happenings}
use Rattle.track_picture.proofs.Granted.{grants_are}
use Rattle.track_picture.proofs.Zones.{reported_areas, reported_all}
use Rattle.track_picture.proofs.Announced.{levels_are}
use Rattle.track_picture.proofs.Nation.{waiting_are}

one : {X : Type 0} (o : Option X) → length (listed o) ≤ 1
one None = omega arith
one (Some x) = omega arith

none_or_one : {X : Type 0} (xs : List X) (o : Option X) → xs ≡ listed o → length xs ≤ 1
none_or_one {X} xs o e = subst (λ (ys : List X). length ys ≤ 1) (sym e) (one o)

one_of_areas : (es : List AreaEntry) → length (reported_areas es) ≤ 1
one_of_areas [] = omega arith
one_of_areas (areas.AreaEntry.Reported fact ∷ es) = omega arith
one_of_areas (areas.AreaEntry.Cleared ∷ es) = omega arith

pub only_latest_counts : OnlyLatestCounts
only_latest_counts events =
    let all = happenings events in
    let reported = reported_in all in
    record {
      authorities = none_or_one _ (accepted reported.grants) (grants_are all);
      areas = subst (λ (xs : List (List Area)). length xs ≤ 1) (sym (reported_all all)) (one_of_areas reported.areas);
      levels = none_or_one _ (levels.waiting reported.levels) (levels_are all);
      values = none_or_one _ (national.waiting reported.values) (waiting_are all);
    }
