use Rattle.std.proofs.Common.{rules, ap, ◌∙◌}
use Rattle.areas.specs.Areas.{any_met}
use Rattle.vars.specs.declared.level.AreaMode.TheVariants as area
use Rattle.mode_control.specs.Conditions.{conditions}
use Rattle.mode_control.specs.StandsFor.{KnownModes}
use Rattle.mode_control.proofs.Keeping.{kept}
use Rattle.mode_control.proofs.Standing.{seen}
use Rattle.mode_control.proofs.state.SupervisionOver.stays_full.Goals as goal

pub returns : goal.returns
returns g c life train s areas before_end so =
    let mode = ap (λ w. w.parts.mode) c.self-inside.view_is ∙ ap (λ (k : KnownModes). k.mode) (seen c.self.view_is s).parts_are in
    let calm = c.is_calm.ensures life train s (search rules) in
    let runs = c.is_untripped.ensures life train s before_end (search rules) in
    kept mode (λ i. record (calm i) {
      trip = runs.0 i;
      level_0 = runs.1 i;
      on_sight_area = any_met area.OnSight train (areas i);
      shunting_area = any_met area.Shunting train (areas i);
    }) (c.is_full_supervision.ensures (search rules) (conditions life train))
