use Rattle.std.proofs.Common.{rules, ap, ◌∙◌}
use Rattle.areas.specs.Areas.{any_met}
use Rattle.vars.specs.declared.level.AreaMode.TheVariants as area
use Rattle.mode_control.specs.Conditions.{conditions}
use Rattle.mode_control.specs.Life.{track_of}
use Rattle.mode_control.specs.StandsFor.{KnownModes}
use Rattle.mode_control.proofs.Keeping.{kept}
use Rattle.mode_control.proofs.Standing.{seen}
use Rattle.mode_control.proofs.state.SupervisionOver.stays.Goals as goal

pub returns-then-waits_for_driver : goal.returns-then-waits_for_driver
returns-then-waits_for_driver g c life s so =
    let mode = ap (λ w. w.parts.mode) c.self-inside.view_is ∙ ap (λ (k : KnownModes). k.mode) (seen c.self.view_is s).parts_are in
    let all = conditions life c.args.train.now in
    let calm = c.is_calm.ensures life c.args.train.now s (search rules) in
    kept mode calm (c.waits_for_driver.ensures (search rules) all)

pub returns-then-is_full_supervision : goal.returns-then-is_full_supervision
returns-then-is_full_supervision g c life s so =
    let before = seen c.self.view_is s in
    let mode = ap (λ w. w.parts.mode) c.self-inside.view_is ∙ ap (λ (k : KnownModes). k.mode) before.parts_are in
    let train = c.args.train.now in
    let all = conditions life train in
    let calm = c.is_calm.ensures life train s (search rules) in
    let runs = c.runs_on.ensures life s (search rules) in
    let areas = c.has_no_area.ensures (track_of life) (ap (λ w. w.track.parts) c.self-inside.view_is ∙ before.track_is.parts_are) so in
    kept mode (λ i. record (calm i) {
      trip = runs.0 i;
      level_0 = runs.1 i;
      on_sight_area = any_met area.OnSight train (areas i);
      shunting_area = any_met area.Shunting train (areas i);
    }) (c.is_full_supervision.ensures (search rules) all)

pub returns-then-is_staff_responsible : goal.returns-then-is_staff_responsible
returns-then-is_staff_responsible g c life s so =
    let mode = ap (λ w. w.parts.mode) c.self-inside.view_is ∙ ap (λ (k : KnownModes). k.mode) (seen c.self.view_is s).parts_are in
    let train = c.args.train.now in
    let all = conditions life train in
    let calm = c.is_calm.ensures life train s (search rules) in
    let runs = c.runs_on.ensures life s (search rules) in
    let responsible = c.stays_responsible.ensures life s so in
    kept mode (λ i. record (calm i) {
      trip = runs.0 i;
      beyond_staff_distance = responsible.0 i;
      level_0 = runs.1 i;
      full = responsible.1 i;
    }) (c.is_staff_responsible.ensures (search rules) all)
