use Rattle.std.proofs.Common.{rules, sym, ap, ◌∙◌}
use Rattle.mode_control.specs.Life.{track_of}
use Rattle.mode_control.specs.StandsFor.{KnownModes}
use Rattle.mode_control.proofs.Standing.{seen}
use Rattle.mode_control.proofs.state.SupervisionOver.rests.Goals as goal

pub returns : goal.returns
returns g c life s so =
    let before = seen c.self.view_is s in
    let announced = c.announces_nothing.ensures (track_of life) before.track_is.parts_are (search rules) in
    let owed = c.owes_nothing.ensures (search rules) in
    record {
      stays = c.stays.ensures life s so;
      areas = announced.0;
      announced = announced.1;
      coming = announced.2;
      on_sight = sym (ap (λ (k : KnownModes). k.on_sight) before.parts_are) ∙ owed.0;
      shunting = sym (ap (λ (k : KnownModes). k.shunting) before.parts_are) ∙ owed.1;
      level_0 = sym (ap (λ (k : KnownModes). k.level_0) before.parts_are) ∙ owed.2;
    }
