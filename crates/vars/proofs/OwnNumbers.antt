-- The number of a value stands for it.
use Rattle.std.proofs.Common.{◌≡◌, ◌≢◌, ℕ, ◌<◌, ◌≤◌, ◌↔◌, Bool, true, false, cond, ltb, nat_eq, Result, Ok, Err, refl, arith}
use Rattle.std.proofs.lemmas.Bool.{eqb-false, ltb-false, ne_eqb}
use Rattle.vars.specs.declared.variable.NoValue.{NoValue}
use Rattle.vars.specs.declared.variable.NoValue.TheVariants.{OutOfRange}
use Rattle.vars.specs.declared.group.Duplicate.{Duplicate}
use Rattle.vars.specs.declared.group.Duplicate.TheVariants as duplicates
use Rattle.vars.specs.declared.packet_head.ValidityDirection.{ValidityDirection}
use Rattle.vars.specs.declared.packet_head.ValidityDirection.TheVariants as directions
use Rattle.vars.specs.declared.scale.Scale.{Scale}
use Rattle.vars.specs.declared.scale.Scale.TheVariants as scales
use Rattle.vars.specs.declared.restriction.TrainLengthDelay.{TrainLengthDelay}
use Rattle.vars.specs.declared.restriction.TrainLengthDelay.TheVariants as delays
use Rattle.vars.specs.declared.linking.LinkOrientation.{LinkOrientation}
use Rattle.vars.specs.declared.linking.LinkOrientation.TheVariants as orientations
use Rattle.vars.specs.declared.linking.LinkReaction.{LinkReaction}
use Rattle.vars.specs.declared.linking.LinkReaction.TheVariants as reactions
use Rattle.vars.specs.declared.gradient.GradientDirection.{GradientDirection}
use Rattle.vars.specs.declared.gradient.GradientDirection.TheVariants as gradients
use Rattle.vars.specs.declared.level.Level.{Level}
use Rattle.vars.specs.declared.level.Level.TheVariants as levels
use Rattle.vars.specs.declared.level.AreaMode.{AreaMode}
use Rattle.vars.specs.declared.level.AreaMode.TheVariants as area_modes
use Rattle.vars.specs.declared.special_distance.OpenLength.TheVariants as lengths
use Rattle.vars.specs.declared.special_distance.StartPlace.TheVariants as places
use Rattle.vars.specs.declared.special_speed.AreaSpeed.TheVariants as area_speeds
use Rattle.vars.specs.declared.special_speed.ReleaseSpeed.TheVariants as release_speeds
use Rattle.vars.specs.declared.special_speed.StaticSpeed.TheVariants as static_speeds
use Rattle.vars.specs.Values.{duplicate_of, direction_of, scale_of, orientation_of, reaction_of, release_of, gradient_direction_of, static_of, start_place_of, level_of, area_mode_of, area_speed_of, open_length_of}
use Rattle.vars.specs.Variables.{speed, m_dup, q_dir, q_scale, q_front, q_linkorientation, q_linkreaction, q_gdir, m_leveltr, m_mamode}
use Rattle.vars.proofs.Numbers.{stands_for, same_ok, none_ok}

pub m_dup_own : (x : Duplicate) → m_dup.value (m_dup.number x) ≡ Ok x
unfolding duplicate_of
m_dup_own duplicates.NoDuplicate = refl
m_dup_own duplicates.OfNext = refl
m_dup_own duplicates.OfPrevious = refl

pub q_dir_own : (x : ValidityDirection) → q_dir.value (q_dir.number x) ≡ Ok x
unfolding direction_of
q_dir_own directions.Reverse = refl
q_dir_own directions.Nominal = refl
q_dir_own directions.Both = refl

pub q_scale_own : (x : Scale) → q_scale.value (q_scale.number x) ≡ Ok x
unfolding scale_of
q_scale_own scales.TenCentimetres = refl
q_scale_own scales.OneMetre = refl
q_scale_own scales.TenMetres = refl

pub q_front_own : (x : TrainLengthDelay) → q_front.value (q_front.number x) ≡ Ok x
q_front_own delays.Applied = refl
q_front_own delays.NotApplied = refl

pub q_linkorientation_own : (x : LinkOrientation) → q_linkorientation.value (q_linkorientation.number x) ≡ Ok x
unfolding orientation_of
q_linkorientation_own orientations.Reverse = refl
q_linkorientation_own orientations.Nominal = refl

pub q_linkreaction_own : (x : LinkReaction) → q_linkreaction.value (q_linkreaction.number x) ≡ Ok x
unfolding reaction_of
q_linkreaction_own reactions.Trip = refl
q_linkreaction_own reactions.ServiceBrake = refl
q_linkreaction_own reactions.NoReaction = refl

pub q_gdir_own : (x : GradientDirection) → q_gdir.value (q_gdir.number x) ≡ Ok x
unfolding gradient_direction_of
q_gdir_own gradients.Downhill = refl
q_gdir_own gradients.Uphill = refl

pub m_leveltr_own : (x : Level) → m_leveltr.value (m_leveltr.number x) ≡ Ok x
unfolding level_of
m_leveltr_own levels.Level0 = refl
m_leveltr_own levels.Stm = refl
m_leveltr_own levels.Level1 = refl
m_leveltr_own levels.Level2 = refl
m_leveltr_own levels.Level3 = refl

pub m_mamode_own : (x : AreaMode) → m_mamode.value (m_mamode.number x) ≡ Ok x
unfolding area_mode_of
m_mamode_own area_modes.OnSight = refl
m_mamode_own area_modes.Shunting = refl

in_range : {A : Type 0} (fault : NoValue) (x : A) (b : Bool) → cond b (Err fault) (stands_for x) ≡ Ok x → b ≡ false
in_range fault x true e = absurd (none_ok fault x e)
in_range fault x false e = refl

-- one number is kept for another value
apart : {A : Type 0} (y x : A) (rest : Result A NoValue) (b : Bool) → (y ≡ x → ⊥) → cond b (Ok y) rest ≡ Ok x → (b ≡ false) × (rest ≡ Ok x)
apart y x rest true other e = absurd (other (same_ok y x e))
apart y x rest false other e = (refl, e)

small_speed : (v : ℕ) → ltb 120 v ≡ false → v ≤ 120
small_speed v e = ltb-false 120 v e

-- a speed is a number's own value along with one that is kept exactly where it is a speed
speed_own : {A : Type 0} (k : ℕ) (y : A) (f : ℕ → A) → 120 < k → (v : ℕ) → (y ≡ f v → ⊥)
    → (speed.value v ≡ Ok v) ↔ (cond (nat_eq v k) (stands_for y) (cond (ltb 120 v) (Err OutOfRange) (Ok (f v))) ≡ Ok (f v))
speed_own k y f high v other = (
  λ e.
      let small = in_range OutOfRange v (ltb 120 v) e in
      let low = small_speed v small in
      let no : nat_eq v k ≡ false = ne_eqb v k (λ same. omega arith) in
      rw (no, small) refl,
  λ e. let small = in_range OutOfRange (f v) (ltb 120 v) (apart y (f v) _ (nat_eq v k) other e).1 in rw small refl,
)

-- a number is a value's own along with one that is kept exactly where it isn't that one
other_own : {A : Type 0} (k : ℕ) (y : A) (f : ℕ → A) (v : ℕ) → (y ≡ f v → ⊥) → (v ≢ k) ↔ (cond (nat_eq v k) (stands_for y) (Ok (f v)) ≡ Ok (f v))
other_own k y f v other = (
  λ not. let no : nat_eq v k ≡ false = ne_eqb v k not in rw no refl,
  λ e. eqb-false v k (apart y (f v) _ (nat_eq v k) other e).0,
)

pub v_release_own : (v : ℕ) → (speed.value v ≡ Ok v) ↔ (release_of v ≡ Ok (release_speeds.Speed v))
unfolding release_of
v_release_own v =
    let rest = speed_own 127 release_speeds.National release_speeds.Speed (omega arith) v (λ same. cc) in (
      λ e.
          let low = small_speed v (in_range OutOfRange v (ltb 120 v) e) in
          let no : nat_eq v 126 ≡ false = ne_eqb v 126 (λ same. omega arith) in
          rw no (rest.0 e),
      λ e. rest.1 (apart release_speeds.Onboard (release_speeds.Speed v) _ (nat_eq v 126) (λ same. cc) e).1,
    )

pub v_static_own : (v : ℕ) → (speed.value v ≡ Ok v) ↔ (static_of v ≡ Ok (static_speeds.Speed v))
unfolding static_of
v_static_own v = speed_own 127 static_speeds.End static_speeds.Speed (omega arith) v (λ same. cc)

pub v_mamode_own : (v : ℕ) → (speed.value v ≡ Ok v) ↔ (area_speed_of v ≡ Ok (area_speeds.Speed v))
unfolding area_speed_of
v_mamode_own v = speed_own 127 area_speeds.National area_speeds.Speed (omega arith) v (λ same. cc)

pub start_place_own : (v : ℕ) → (v ≢ 32767) ↔ (start_place_of v ≡ Ok (places.At v))
unfolding start_place_of
start_place_own v = other_own 32767 places.Now places.At v (λ same. cc)

pub open_length_own : (v : ℕ) → (v ≢ 32767) ↔ (open_length_of v ≡ Ok (lengths.Length v))
unfolding open_length_of
open_length_own v = other_own 32767 lengths.NoEnd lengths.Length v (λ same. cc)
