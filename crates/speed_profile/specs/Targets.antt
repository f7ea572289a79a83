-- Targets that come one by one, in place of those of each centimetre (this project's profile). Places are centimetres,
-- speeds metres per hour.
use Rattle.std.specs.Prelude.{◌≡◌, ℕ, ◌≤◌, ℤ, true, Option, None, Some, List, [], ◌∷◌, ◌++◌}
use Rattle.track_store.specs.Profiles.{listed}
use Rattle.brakes.specs.declared.brakes.Brakes.{Brakes}
use Rattle.braking.specs.declared.target.Target.{Target}
use Rattle.braking.specs.Braking.{fits, fits_all}
use Rattle.braking.specs.Approaches.{Course}

-- some targets ask the same of a train as others: wherever its front is, whatever the gradients and its brakes are, a
-- speed fits all of the one exactly where it fits all of the other
abbrev pub AskTheSame : List Target → List Target → Type 0
AskTheSame some others = (front : ℤ) (gradient : ℤ → Option ℤ) (brakes : Brakes) (speed : ℕ) →
    fits_all front gradient brakes some speed ≡ fits_all front gradient brakes others speed

-- .. of a train on its way, at each speed up to its own
abbrev pub AskTheSameOf : {G : Type 0} → (ℤ → Option ℤ) → Course G → List Target → List Target → Type 0
AskTheSameOf gradient course some others = (speed : ℕ) → speed ≤ course.speed →
    fits_all course.front gradient course.brakes some speed ≡ fits_all course.front gradient course.brakes others speed

-- nothing is left to ask
abbrev pub AskNothing : List Target → Type 0
AskNothing targets = AskTheSame targets []

-- the targets that are held, one or none at each place of a list
abbrev pub held : List (Option Target) → List Target
held [] = []
held (one ∷ others) = listed one ++ held others

-- targets ask of a train that can come to a stop at a place what others ask of it; without a place, of each train
abbrev pub AskTheSameBeyond : Option ℤ → List Target → List Target → Type 0
AskTheSameBeyond None some others = AskTheSame some others
AskTheSameBeyond (Some place) some others = (front : ℤ) (gradient : ℤ → Option ℤ) (brakes : Brakes) (speed : ℕ) →
    fits front gradient brakes (record { place = place; speed = 0 }) speed ≡ true →
    fits_all front gradient brakes some speed ≡ fits_all front gradient brakes others speed

-- what is left: what it asks, how many targets that takes at most, and where the static speeds among them begin
pub record Left : Type 0 where
  pub targets : List Target
  pub most : ℕ
  pub speeds_from : Option ℤ

-- one comes, or none is left
abbrev pub Describes : Left → Option Target → Left → Type 0
Describes before None after = AskNothing before.targets × AskNothing after.targets × (after.most ≡ 0)
Describes before (Some target) after = AskTheSame before.targets (target ∷ after.targets)
