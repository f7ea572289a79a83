-- Nothing comes: no area, level or national value is known that waits for its place, no timer of the authority runs, and the
-- driver has nothing to acknowledge (this project's profile).
use Rattle.std.specs.Prelude.{◌≡◌}
use Rattle.areas.specs.declared.acknowledgement.Acknowledgement.TheVariants.{Nothing}
use Rattle.track_picture.specs.Still as track_picture
use Rattle.mode_control.specs.StandsFor.{Knowledge}

pub record IsStill {G S : Type 0} (known : Knowledge G S) : Type 0 where
  pub track : track_picture.IsStill known.track.parts
  pub on_sight : known.parts.on_sight ≡ Nothing
  pub shunting : known.parts.shunting ≡ Nothing
  pub level_0 : known.parts.level_0 ≡ Nothing
