-- The release rule, by the starts of lower speeds.
use Rattle.std.proofs.Common.{◌≡◌, ℕ, ◌≤◌, List, [], ◌∷◌, ◌++◌, ◌⊎◌, inl, inr, true, min, max, refl, ap, sym, ◌∙◌, subst, arith}
use Rattle.std.specs.Prelude.{Option, Some, ◌↔◌}
use Rattle.authority.specs.declared.answers.End.{End}
use Rattle.authority.specs.Laws.{IsAmong}
use Rattle.braking.specs.declared.target.Target.{Target}
use Rattle.braking.specs.Braking.{fits_all}
use Rattle.braking.proofs.Greatest.{greatest_within}
use Rattle.braking.proofs.Slower.{slower_fits}
use Rattle.driver.specs.Limits.{Train}
use Rattle.speed_profile.proofs.Asking.{fit_all}
use Rattle.speed_profile.proofs.Members.{in_left, in_right, in_either}
use Rattle.units.proofs.Gathering.{IsIn}
use Rattle.mode_control.specs.Life.{Life}
use Rattle.mode_control.specs.Sentences.{values_of}
use Rattle.speed_supervision.specs.Limit.{limit, bounds_of, along, supervised_limit, permitted_to, with_release_speed, the_end, the_supervised_location}
use Rattle.safety_laws.specs.Release.{can_meet, release_of, MayRun, limit_to_end, limit_to_location, IsReleased}
use Rattle.safety_laws.specs.Starts.{starts_of, braking_limit}
use Rattle.safety_laws.specs.Stopping.{front_of, gradient_along, IsSupervised}
use Rattle.safety_laws.proofs.Lessening.{greatest_least}
use Rattle.safety_laws.proofs.LowerStarts.{together}
use Rattle.safety_laws.proofs.Meeting.{to_in, to_among, limit_is, permitted_fits}

up_to : (speed to_end release to_location : ℕ) → speed ≤ max to_end (min release to_location) →
    (speed ≤ to_end) ⊎ ((speed ≤ release) × (speed ≤ to_location))
up_to speed to_end release to_location h = grind arith

module _ (life : Life) (train : Train) where
  abbrev starts : List Target
  starts = starts_of life train

  abbrev meets : Target → ℕ → Type 0
  meets t speed = can_meet life train t speed ≡ true

  last_is : (last : Option Target) → permitted_to life train last ≡ braking_limit life train last
  last_is last = together (front_of life) (bounds_of life train) (along life) (supervised_limit life train) last (gradient_along life) train.brakes

  within : (last : Target) → braking_limit life train (Some last) ≤ supervised_limit life train
  within last = greatest_within (fits_all (front_of life) (gradient_along life) train.brakes (starts ++ last ∷ [])) (supervised_limit life train)

  -- up to such a limit a speed fits each start, and the last target
  fits_up_to : (last t : Target) (speed : ℕ) → speed ≤ braking_limit life train (Some last) → IsIn t (starts ++ last ∷ []) → meets t speed
  fits_up_to last t speed below there =
      slower_fits (front_of life) (gradient_along life) train.brakes t (braking_limit life train (Some last)) speed below
      (permitted_fits (front_of life) (gradient_along life) train.brakes (starts ++ last ∷ []) (supervised_limit life train) t there)

  -- .. and one that does is within it
  fitting_within : (last : Target) (speed : ℕ) → speed ≤ supervised_limit life train →
      ((t : Target) → IsAmong t starts → meets t speed) → meets last speed → speed ≤ braking_limit life train (Some last)
  fitting_within last speed here ahead at_last =
      greatest_least (fits_all (front_of life) (gradient_along life) train.brakes (starts ++ last ∷ [])) (supervised_limit life train) speed here
      (fit_all (front_of life) (gradient_along life) train.brakes (starts ++ last ∷ []) speed
      (λ t there. elim (in_either t starts (last ∷ []) there) [
        | inl one ↦ ahead t (to_among t starts one)
        | inr other ↦ elim other [
          | inl is ↦ subst (λ (x : Target). meets x speed) (sym is) at_last
          | inr never ↦ absurd never
        ]
      ]))

  module _ (end : End) (supervised : IsSupervised life train end) where
    abbrev to_end : ℕ
    to_end = limit_to_end life train end

    abbrev to_location : ℕ
    to_location = limit_to_location life train end

    abbrev release : ℕ
    release = release_of life end

    pub by_starts : limit life ≡ with_release_speed (braking_limit life train) end (values_of life).release
    by_starts = limit_is life train end supervised ∙ ap (λ (permitted : Option Target → ℕ). with_release_speed permitted end (values_of life).release) (λ i last. last_is last i)

    limit_by : limit life ≡ max to_end (min release to_location)
    limit_by = by_starts

    may_run : (speed : ℕ) → speed ≤ limit life → MayRun life train end speed
    may_run speed below =
        let which : (speed ≤ to_end) ⊎ ((speed ≤ release) × (speed ≤ to_location)) =
        up_to speed to_end release to_location (omega (arith, below, limit_by)) in
        elim which [
          | inl less ↦ record {
            here = omega (arith, less, within (the_end end));
            ahead = λ t there. fits_up_to (the_end end) t speed less (in_left t starts (the_end end ∷ []) (to_in t starts there));
            to_end = inl (fits_up_to (the_end end) (the_end end) speed less (in_right (the_end end) starts (the_end end ∷ []) (inl refl)));
          }
          | inr less ↦ record {
            here = omega (arith, less.1, within (the_supervised_location end));
            ahead = λ t there. fits_up_to (the_supervised_location end) t speed less.1 (in_left t starts (the_supervised_location end ∷ []) (to_in t starts there));
            to_end = inr (
              less.0,
              fits_up_to (the_supervised_location end) (the_supervised_location end) speed less.1
                  (in_right (the_supervised_location end) starts (the_supervised_location end ∷ []) (inl refl)),
            );
          }
        ]

    below_limit : (speed : ℕ) → MayRun life train end speed → speed ≤ limit life
    below_limit speed may =
        elim may.to_end [
          | inl stops ↦ (let less : speed ≤ to_end = fitting_within (the_end end) speed may.here may.ahead stops in omega (arith, less, limit_by))
          | inr slow ↦ (let less : speed ≤ to_location = fitting_within (the_supervised_location end) speed may.here may.ahead slow.1 in
              omega (arith, less, slow.0, limit_by))
        ]

    pub speed_by_speed : (speed : ℕ) → speed ≤ limit life ↔ MayRun life train end speed
    speed_by_speed speed = (may_run speed, below_limit speed)

    pub case_by_case : IsReleased life train end
    case_by_case = record {
      released = λ below. omega (arith, below, limit_by);
      nearer = λ below. omega (arith, below, limit_by);
      here = omega (arith, limit_by, within (the_end end), within (the_supervised_location end));
    }
