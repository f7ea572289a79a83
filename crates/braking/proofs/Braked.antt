-- What a stretch takes off the square of the speed.
use Rattle.std.proofs.Common.{◌≡◌, ℕ, zero, suc, ◌+◌, ◌*◌, ◌^◌, ◌≤◌, ℤ, pos, ◌+ℤ◌, ◌-ℤ◌, ◌≤ℤ◌, ◌<ℤ◌, ◌-◌, ◌<◌, ◌⊎◌, inl, inr, refl, ap, sym, ◌∙◌, arith}
use Rattle.std.specs.Prelude.{Option}
use Rattle.std.proofs.lemmas.Int.{ints, by_lt_z}
use Rattle.std.proofs.Math.Nat.{mul-le-mul_right}
use Rattle.track_store.proofs.Jumps.{natural_is}
use Rattle.units.specs.Stretches.{natural}
use Rattle.brakes.specs.Brakes.{slowing_on}
use Rattle.braking.specs.declared.summed.Summed.{Summed}
use Rattle.braking.specs.Braking.{braked, IsSummed}
use Rattle.braking.specs.Sums.{StartsEvenly}
use Rattle.braking.proofs.Naturals.{parts}

module _ (gradient : ℤ → Option ℤ) (deceleration : ℕ) where
  -- each centimetre of a stretch slows alike
  abbrev pub IsEven : ℕ → ℤ → ℤ → Type 0
  IsEven slowing from end = (place : ℤ) → from ≤ℤ place → place <ℤ end → slowing_on deceleration (gradient place) ≡ slowing

  pub braked_none : (place : ℤ) → braked gradient deceleration place 0 ≡ 0
  unfolding braked
  braked_none place = refl

  braked_next : (place : ℤ) (n : ℕ) →
      braked gradient deceleration place (suc n)
      ≡ 2592 * slowing_on deceleration (gradient place) + braked gradient deceleration (place +ℤ pos 1) n
  unfolding braked
  braked_next place n = refl

  -- a way is braked over in two parts
  pub braked_parts : (place : ℤ) (m n : ℕ) →
      braked gradient deceleration place (m + n)
      ≡ braked gradient deceleration place m + braked gradient deceleration (place +ℤ pos m) n
  braked_parts place zero n =
      let count : zero + n ≡ n = omega arith in
      let start : place +ℤ pos zero ≡ place = omega (arith, ints) in
      omega (arith, ap (braked gradient deceleration place) count, ap (λ (z : ℤ). braked gradient deceleration z n) start, braked_none place)
  braked_parts place (suc m) n =
      let count : suc m + n ≡ suc (m + n) = omega arith in
      let start : (place +ℤ pos 1) +ℤ pos m ≡ place +ℤ pos (suc m) = omega (arith, ints) in
      omega (
        arith,
        ap (braked gradient deceleration place) count,
        braked_next place (m + n),
        braked_parts (place +ℤ pos 1) m n,
        ap (λ (z : ℤ). braked gradient deceleration z n) start,
        braked_next place m,
      )

  -- where each centimetre takes off the same
  pub braked_same : (slowing : ℕ) (place : ℤ) (n : ℕ) →
      ((later : ℤ) → place ≤ℤ later → later <ℤ (place +ℤ pos n) → slowing_on deceleration (gradient later) ≡ slowing) →
      braked gradient deceleration place n ≡ 2592 * slowing * n
  braked_same slowing place zero same = omega (arith, braked_none place)
  braked_same slowing place (suc n) same =
      let here = same place (omega (arith, ints)) (omega (arith, ints)) in
      let rest = braked_same slowing (place +ℤ pos 1) n (λ later a b. same later (omega (arith, ints)) (omega (arith, ints))) in
      omega (arith, braked_next place n, here, rest)

  -- to brake later takes off no more
  pub braked_later : (place : ℤ) (m n : ℕ) →
      braked gradient deceleration (place +ℤ pos m) n ≤ braked gradient deceleration place (m + n)
  braked_later place m n = omega (arith, braked_parts place m n)

  -- a stretch is braked over in two parts
  pub braked_over : (from middle to : ℤ) → from ≤ℤ middle → middle ≤ℤ to →
      braked gradient deceleration from (natural (to -ℤ from))
      ≡ braked gradient deceleration from (natural (middle -ℤ from)) + braked gradient deceleration middle (natural (to -ℤ middle))
  braked_over from middle to a b =
      let n : ℕ = natural (middle -ℤ from) in
      let count : pos n ≡ middle -ℤ from = natural_is (middle -ℤ from) (omega (arith, ints)) in
      let there : from +ℤ pos n ≡ middle = rw count (omega (arith, ints)) in
      omega (
        arith,
        ap (braked gradient deceleration from) (parts from middle to a b),
        braked_parts from n (natural (to -ℤ middle)),
        ap (λ (z : ℤ). braked gradient deceleration z (natural (to -ℤ middle))) there,
      )

  -- .. and where each centimetre takes off the same
  pub braked_evenly : (slowing : ℕ) (place end : ℤ) → place ≤ℤ end → IsEven slowing place end →
      braked gradient deceleration place (natural (end -ℤ place)) ≡ 2592 * slowing * natural (end -ℤ place)
  braked_evenly slowing place end a same =
      let n : ℕ = natural (end -ℤ place) in
      let count : pos n ≡ end -ℤ place = natural_is (end -ℤ place) (omega (arith, ints)) in
      let there : place +ℤ pos n ≡ end = rw count (omega (arith, ints)) in
      braked_same slowing place n (λ later c d. same later c (rw there at d))

  pub braked_even : (place end : ℤ) → place ≤ℤ end → ((later : ℤ) → place ≤ℤ later → later <ℤ end → gradient later ≡ gradient place) →
      braked gradient deceleration place (natural (end -ℤ place)) ≡ 2592 * slowing_on deceleration (gradient place) * natural (end -ℤ place)
  braked_even place end a same =
      braked_evenly (slowing_on deceleration (gradient place)) place end a (λ later b d. ap (slowing_on deceleration) (same later b d))

  -- .. before what is known
  pub even_is : (slowing : ℕ) (place middle end : ℤ) → place ≤ℤ middle → middle ≤ℤ end → IsEven slowing place middle →
      (taken_off : ℕ) → taken_off ≡ braked gradient deceleration middle (natural (end -ℤ middle)) →
      2592 * slowing * natural (middle -ℤ place) + taken_off ≡ braked gradient deceleration place (natural (end -ℤ place))
  even_is slowing place middle end a b same taken_off rest =
      omega (arith, braked_over place middle end a b, braked_evenly slowing place middle a same, rest)

  -- where no centimetre takes off more than 2592 * 549, a stretch takes off no more than so much for each
  braked_small : (place : ℤ) (n : ℕ) → ((later : ℤ) → place ≤ℤ later → later <ℤ (place +ℤ pos n) → slowing_on deceleration (gradient later) ≤ 549) →
      braked gradient deceleration place n ≤ 1_423_008 * n
  braked_small place zero small = omega (arith, braked_none place)
  braked_small place (suc n) small =
      let here = small place (omega (arith, ints)) (omega (arith, ints)) in
      let rest = braked_small (place +ℤ pos 1) n (λ later a b. small later (omega (arith, ints)) (omega (arith, ints))) in
      omega (arith, braked_next place n, here, rest)

  pub braked_little : (place end : ℤ) → place ≤ℤ end → ((later : ℤ) → place ≤ℤ later → later <ℤ end → slowing_on deceleration (gradient later) ≤ 549) →
      braked gradient deceleration place (natural (end -ℤ place)) ≤ 1_423_008 * natural (end -ℤ place)
  braked_little place end a small =
      let n : ℕ = natural (end -ℤ place) in
      let count : pos n ≡ end -ℤ place = natural_is (end -ℤ place) (omega (arith, ints)) in
      let there : place +ℤ pos n ≡ end = rw count (omega (arith, ints)) in
      braked_small place n (λ later c d. small later c (rw there at d))

  pub summed_little : (sum : Summed) → IsSummed gradient deceleration sum → sum.taken_off ≤ 1_423_008 * natural (sum.to -ℤ sum.from)
  summed_little sum summed = omega (arith, summed.1, braked_little sum.from sum.to summed.0 summed.2)

  -- a stretch that was gone on with up to where so much was taken off that it can't be more is summed whole
  reached : (n most : ℕ) (to place : ℤ) → n ≤ 2 ^ 43 → most ≤ 1_423_008 * n → (to ≡ place) ⊎ (18_446_744_073_709_551_615 ≤ most) → to ≡ place
  reached n most to place few small either = elim either [ inl is ↦ is | inr much ↦ absurd (omega arith) ]

  pub reached_whole : (from end : ℤ) (sum : Summed) → natural (end -ℤ from) ≤ 2 ^ 43 → sum.from ≡ from → sum.to ≤ℤ end →
      (sum.to ≡ end) ⊎ (18_446_744_073_709_551_615 ≤ sum.taken_off) → IsSummed gradient deceleration sum → sum.to ≡ end
  reached_whole from end sum near is within either summed =
      let initial : from ≤ℤ sum.to = omega (arith, ints, summed.0, is) in
      let same : natural (sum.to -ℤ sum.from) ≡ natural (sum.to -ℤ from) = ap (λ (z : ℤ). natural (sum.to -ℤ z)) is in
      let first = parts from sum.to end initial within in
      reached (natural (sum.to -ℤ sum.from)) sum.taken_off sum.to end (omega (arith, same, first, near)) (summed_little sum summed) either

  pub taken_off_is : (from end : ℤ) (sum : Summed) → sum.from ≡ from → sum.to ≡ end → IsSummed gradient deceleration sum →
      sum.taken_off ≡ braked gradient deceleration from (natural (end -ℤ from))
  taken_off_is from end sum begins ends summed = summed.1 ∙ (λ i. braked gradient deceleration (begins i) (natural (ends i -ℤ begins i)))

  -- a stretch that is begun where each centimetre takes off the same
  pub initial_summed : (from : ℤ) (slowing : ℕ) (sum initial : Summed) → IsSummed gradient deceleration sum →
      IsEven slowing from sum.from → slowing ≤ 549 → from ≤ℤ initial.from → StartsEvenly slowing sum initial → IsSummed gradient deceleration initial
  initial_summed from slowing sum initial summed same small within is_initial =
      let even = even_is slowing initial.from sum.from sum.to is_initial.ordered summed.0 (λ z a b. same z (omega (arith, ints, within, a)) b) sum.taken_off summed.1 in (
        omega (arith, ints, is_initial.ordered, is_initial.to, summed.0),
        is_initial.taken_off ∙ even ∙ ap (λ (z : ℤ). braked gradient deceleration initial.from (natural (z -ℤ initial.from))) (sym is_initial.to),
        λ (place : ℤ) a b. by_lt_z place sum.from
            (λ (sooner : place <ℤ sum.from). rw (same place (omega (arith, ints, within, a)) sooner) small)
            (λ (later : sum.from ≤ℤ place). summed.2 place later (omega (arith, ints, b, is_initial.to))),
      )

  -- .. takes off little enough
  pub initial_little : (from : ℤ) (slowing : ℕ) (sum : Summed) → IsSummed gradient deceleration sum → from ≤ℤ sum.from → slowing ≤ 549 →
      natural (sum.to -ℤ from) ≤ 2 ^ 43 → 2592 * slowing * natural (sum.from -ℤ from) + sum.taken_off < 2 ^ 64 - 2 ^ 62
  initial_little from slowing sum summed ordered small near =
      let factor : 2592 * slowing ≤ 1_423_008 = omega arith in
      let product : 2592 * slowing * natural (sum.from -ℤ from) ≤ 1_423_008 * natural (sum.from -ℤ from) = mul-le-mul_right (natural (sum.from -ℤ from)) factor in
      omega (arith, product, parts from sum.from sum.to ordered summed.0, summed_little sum summed, near)
