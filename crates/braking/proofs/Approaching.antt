-- A train that is reported one target after another.
use Rattle.std.proofs.Common.{◌≡◌, ℤ, List, [], ◌∷◌, refl, inr, ap, ◌∙◌, sym, subst, true, arith}
use Rattle.std.specs.Prelude.{Option}
use Rattle.braking.specs.declared.target.Target.{Target}
use Rattle.braking.specs.declared.summed.Summed.{Summed}
use Rattle.braking.specs.Braking.{fits, IsSummed}
use Rattle.braking.specs.Approaches.{Course, at_speed, lowered, lowered_by}
use Rattle.braking.proofs.Slower.{one_more}
use Rattle.braking.proofs.Greatest.{greatest_is, greatest_all}

module _ {G : Type 0} (value : G → ℤ → Option ℤ) where
  pub same_speed : (old new : Course G) → old ≡ new → old.speed ≡ new.speed
  same_speed old new is = ap (λ (x : Course G). x.speed) is

  pub summed_inside : (one other : Course G) (sum : Summed) → one ≡ other →
      IsSummed (value other.gradient) other.brakes.deceleration sum → IsSummed (value one.gradient) one.brakes.deceleration sum
  summed_inside one other sum is summed = subst (λ (x : Course G). IsSummed (value x.gradient) x.brakes.deceleration sum) (sym is) summed

  -- equal ones are lowered equally
  pub lowered_from : (targets : List Target) (old new : Course G) → old ≡ new →
      lowered_by (value old.gradient) targets old ≡ lowered_by (value new.gradient) targets new
  lowered_from targets old new is = ap (λ (x : Course G). lowered_by (value x.gradient) targets x) is

  -- no target, or one that the speed fits, changes nothing
  pub lowered_by_none : (course : Course G) → lowered_by (value course.gradient) [] course ≡ course
  lowered_by_none course = ap (at_speed course) (greatest_all course.speed)

  pub lowered_by_fitting : (course : Course G) (t : Target) → fits course.front (value course.gradient) course.brakes t course.speed ≡ true →
      course ≡ lowered (value course.gradient) t course
  lowered_by_fitting course t fitting =
      let test = fits course.front (value course.gradient) course.brakes t in
      ap (at_speed course) (sym (greatest_is test course.speed course.speed (omega arith) (inr fitting) (λ k above below. absurd (omega arith))))

  -- one more target
  pub lowered_by_more : (t : Target) (targets : List Target) (old new : Course G) → new ≡ lowered (value old.gradient) t old →
      lowered_by (value new.gradient) targets new ≡ lowered_by (value old.gradient) (t ∷ targets) old
  lowered_by_more t targets old new is =
      ap (λ (x : Course G). lowered_by (value x.gradient) targets x) is
      ∙ ap (at_speed old) (one_more old.front (value old.gradient) old.brakes t targets old.speed _ refl)

  pub lowered_by_one : (t : Target) (old new : Course G) → new ≡ lowered (value old.gradient) t old →
      new ≡ lowered_by (value old.gradient) (t ∷ []) old
  lowered_by_one t old new is = sym (lowered_by_none new) ∙ lowered_by_more t [] old new is
