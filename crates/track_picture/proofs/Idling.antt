-- The track stays the same where nothing but the parts changed.
use Rattle.std.proofs.Common.{◌≡◌, ap, ◌∙◌}
use Rattle.track_picture.specs.StandsFor.{Knowledge, SameTrack}

module _ {G S : Type 0} where
  pub same_seen : (inside old new : Knowledge G S) → inside ≡ old → new.restrictions ≡ inside.restrictions → new.gradients ≡ inside.gradients
      → new.speeds ≡ inside.speeds → SameTrack old new
  same_seen inside old new is restrictions gradients speeds = record {
    restrictions_same = restrictions ∙ ap (λ (k : Knowledge G S). k.restrictions) is;
    gradients_same = gradients ∙ ap (λ (k : Knowledge G S). k.gradients) is;
    speeds_same = speeds ∙ ap (λ (k : Knowledge G S). k.speeds) is;
  }
