-- Whether the track is known throughout, by its centimetres of which nothing is known.
use Rattle.std.proofs.Common.{◌≡◌, ℤ, pos, ◌-ℤ◌, Bool, true, false, List, [], ◌∷◌, inl, cond, refl, arith}
use Rattle.std.specs.Prelude.{Option, None, Some, is_none, not, IsTrue, ◌↔◌}
use Rattle.std.proofs.lemmas.Bool.{false_from_ne_true, not-true, not_from_false}
use Rattle.std.proofs.lemmas.Bool.Decides.{same_from_decides}
use Rattle.std.proofs.lemmas.Int.{ints}
use Rattle.units.specs.Stretches.{over}
use Rattle.units.proofs.Gathering.{IsIn, over_at, in_over}
use Rattle.track_store.specs.Profiles.{is_any, IsKnownThroughout}
use Rattle.track_store.proofs.Throughout.{not_none, none_known}
use Rattle.mode_control.specs.Conditions.{unknown_at, is_known_throughout}

missing : {A : Type 0} (value : Option A) (place v : ℤ) → IsIn v (cond (is_none value) (place ∷ []) []) → is_none value ≡ true
missing None place v h = refl
missing (Some x) place v h = absurd h

listed : {A : Type 0} (value : Option A) (place : ℤ) → is_none value ≡ true → IsIn place (cond (is_none value) (place ∷ []) [])
listed None place h = inl refl
listed (Some x) place h = absurd cc

any_in : (vs : List ℤ) → is_any vs ≡ true → (v : ℤ) × IsIn v vs
any_in [] h = absurd cc
any_in (v ∷ vs) h = (v, inl refl)

none_in : (vs : List ℤ) → is_any vs ≡ false → (v : ℤ) → IsIn v vs → ⊥
none_in [] h v i = i
none_in (w ∷ vs) h v i = absurd cc

module _ {A : Type 0} (value : ℤ → Option A) (from end : ℤ) where
  abbrev gaps : List ℤ
  gaps = over (unknown_at value) from (end -ℤ pos 1)

  whole : is_any gaps ≡ false → IsKnownThroughout value from end
  whole none place a b =
      not_none (value place) (false_from_ne_true (is_none (value place)) (λ (m : is_none (value place) ≡ true).
      none_in gaps none place (in_over (unknown_at value) from (end -ℤ pos 1) place place a (omega (arith, ints, b)) (listed (value place) place m))))

  broken : is_any gaps ≡ true → IsKnownThroughout value from end → ⊥
  broken some known =
      let gap = any_in gaps some in
      let at = over_at (unknown_at value) from (end -ℤ pos 1) gap.0 gap.1 in
      none_known (value at.0) (missing (value at.0) at.0 gap.0 at.3) (known at.0 at.1 (omega (arith, ints, at.2)))

  pub known_by : (b : Bool) → IsTrue b ↔ IsKnownThroughout value from end → b ≡ is_known_throughout value from end
  known_by b i =
      same_from_decides b (not (is_any gaps)) i
      ((λ h. whole (not-true (is_any gaps) h)), (λ known. not_from_false (is_any gaps) (false_from_ne_true (is_any gaps) (λ some. broken some known))))
