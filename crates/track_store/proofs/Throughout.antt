-- Whether a profile has a value everywhere, from change to change.
use Rattle.std.proofs.Common.{◌≡◌, ℤ, ◌≤ℤ◌, ◌<ℤ◌, true, false, sym, subst, rules, arith}
use Rattle.std.specs.Prelude.{Option, None, Some, IsSome, is_none}
use Rattle.std.proofs.lemmas.Int.{ints, by_lt_z}
use Rattle.track_store.specs.Profiles.{IsKnownThroughout}

pub not_none : {A : Type 0} (value : Option A) → is_none value ≡ false → IsSome value
not_none None h = absurd cc
not_none (Some v) h = search rules

pub none_known : {A : Type 0} (value : Option A) → is_none value ≡ true → IsSome value → ⊥
none_known None h s = grind arith
none_known (Some v) h s = absurd cc

module _ {A : Type 0} (value : ℤ → Option A) (from place : ℤ) (before : IsKnownThroughout value from place) where
  pub known_further : (next : ℤ) → ((later : ℤ) → place ≤ℤ later → later <ℤ next → value later ≡ value place) → IsSome (value place) →
      IsKnownThroughout value from next
  known_further next same here there a b =
      by_lt_z there place (λ (k : there <ℤ place). before there a k) (λ (k : place ≤ℤ there). subst IsSome (sym (same there k b)) here)

  pub known_for_ever : (end : ℤ) → ((later : ℤ) → place ≤ℤ later → value later ≡ value place) → IsSome (value place) →
      IsKnownThroughout value from end
  known_for_ever end same here there a b =
      by_lt_z there place (λ (k : there <ℤ place). before there a k) (λ (k : place ≤ℤ there). subst IsSome (sym (same there k)) here)

  pub known_before : (end : ℤ) → end ≤ℤ place → IsKnownThroughout value from end
  known_before end h there a b = before there a (omega (arith, ints, b, h))
