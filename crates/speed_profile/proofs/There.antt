-- A target at the first centimetre that something covers, in the words of the definitions.
use Rattle.std.proofs.Common.{◌≡◌, ℕ, ℤ, pos, ◌≤ℤ◌, ◌<ℤ◌, Bool, true, false, cond, refl, ap, arith}
use Rattle.std.specs.Prelude.{Option, None, Some, int_lt, not, ◌&&◌, IsSome, ◌↔◌, ◌^◌, neg_ℤ}
use Rattle.units.specs.Limits.{IsCm}
use Rattle.std.proofs.lemmas.Int.{ints}
use Rattle.braking.specs.declared.target.Target.{Target}
use Rattle.speed_profile.specs.Ahead.{greatest_place}

abbrev pub at_place : ℤ → ℕ → Target
at_place place speed = record { place = place; speed = speed }

-- a target at the first centimetre that a restriction covers, in the words of the definition
pub target_there : (first end place : ℤ) (speed : ℕ) → place ≡ first → first <ℤ end → first ≤ℤ greatest_place →
    Some (at_place place speed) ≡ cond (int_lt first end && not (int_lt greatest_place first)) (Some (at_place first speed)) None
target_there first end place speed is before within =
    let cases : (a b : Bool) → int_lt first end ≡ a → int_lt greatest_place first ≡ b →
    Some (at_place place speed) ≡ cond (a && not b) (Some (at_place first speed)) None = elim [
      | true ↦ elim [
        | true ↦ λ e f. absurd (let never : ⊥ = grind (arith, ints) in never)
        | false ↦ λ e f. ap (λ (c : ℤ). Some (at_place c speed)) is
      ]
      | false ↦ λ b e f. absurd (let never : ⊥ = grind (arith, ints) in never)
    ] in
    cases (int_lt first end) (int_lt greatest_place first) refl refl

pub no_target_passed : (first end : ℤ) (speed : ℕ) → end ≤ℤ first →
    None ≡ cond (int_lt first end && not (int_lt greatest_place first)) (Some (at_place first speed)) None
no_target_passed first end speed beyond =
    let cases : (a : Bool) → int_lt first end ≡ a →
    None ≡ cond (a && not (int_lt greatest_place first)) (Some (at_place first speed)) None = elim [
      | true ↦ λ e. absurd (let never : ⊥ = grind (arith, ints) in never)
      | false ↦ λ e. refl
    ] in
    cases (int_lt first end) refl

pub no_target_beyond : (first end : ℤ) (speed : ℕ) (place : Option ℤ) → place ≡ None → (IsSome place ↔ IsCm first) →
    neg_ℤ (pos (2 ^ 42)) ≤ℤ first →
    None ≡ cond (int_lt first end && not (int_lt greatest_place first)) (Some (at_place first speed)) None
no_target_beyond first end speed place none found low =
    let cases : (a b : Bool) → int_lt greatest_place first ≡ b → None ≡ cond (a && not b) (Some (at_place first speed)) None = elim [
      | true ↦ elim [
        | true ↦ λ e. refl
        | false ↦ λ e. absurd (let within : IsCm first = (low, grind (arith, ints)) in
            let some : IsSome place = found.1 within in let never : false ≡ true = rw none at some in cc)
      ]
      | false ↦ λ b e. refl
    ] in
    cases (int_lt first end) (int_lt greatest_place first) refl
