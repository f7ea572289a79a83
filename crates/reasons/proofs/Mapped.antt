-- An array of what a closure answers for each element of another, where it stays as it was.
use Rattle.std.proofs.Common.{◌≡◌, ◌<◌, ◌≤◌, ◌+◌, ◌∙◌, ℕ, zero, suc, List, length, map, slice_index_or, ⊎_elim, ap, arith, sym, subst}
use Rattle.std.proofs.Math.Nat.{eq-or-lt_of_le}
use Rattle.std.proofs.lemmas.List.{same_lists, get_or-map, length-map}
use Rattle.std.specs.Array.{MapsFrom, IsMapOf}
use denote.Param.Members.{Mut, Called}

module _ {F A B : Type 0} (g : Mut F (A × Unit {0}) B) (f : F) (of : A → B) (each : (x : A) (y : B) (q : F) → Called g f (x, tt) y q → (q ≡ f) × (y ≡ of x)) (xs : List A) (ys : List B) where
  from : (n i : ℕ) → MapsFrom g f xs ys i n → (k : ℕ) (d : A) (e : B) → i ≤ k → k < i + n → slice_index_or ys k e ≡ of (slice_index_or xs k d)
  from zero i maps k d e low high = absurd (omega (arith, low, high))
  from (suc n) i maps k d e low high =
      let is = each maps.1 maps.2 maps.0 maps.5 in
      ⊎_elim
      (λ (same : i ≡ k). subst (λ (m : ℕ). slice_index_or ys m e ≡ of (slice_index_or xs m d)) same (maps.4.1 e ∙ is.1 ∙ ap of (sym (maps.3.1 d))))
      (λ (more : i < k). from n (i + 1) (subst (λ (h : F). MapsFrom g h xs ys (i + 1) n) is.0 maps.6) k d e (omega (arith, more)) (omega (arith, high)))
      (eq-or-lt_of_le low)

  pub all_mapped : A → IsMapOf g f xs ys (length xs) → ys ≡ map of xs
  all_mapped any maps =
      same_lists ys (map of xs) (maps.long ∙ sym (length-map xs of))
      (λ k e below.
      let within : k < length xs = subst (λ (n : ℕ). k < n) maps.long below in
      from (length xs) 0 maps.each k any e (omega arith) (omega (arith, within)) ∙ sym (get_or-map of xs k any e within))
