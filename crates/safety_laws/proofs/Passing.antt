-- By how much a train passes a target that it fits at a lower speed.
use Rattle.std.proofs.Common.{◌≡◌, ℕ, zero, suc, ℤ, pos, ◌+ℤ◌, ◌+◌, ◌-◌, ◌*◌, ◌≤◌, true, ap, sym, ◌∙◌, arith, inl, inr}
use Rattle.std.specs.Int.{div_ceil}
use Rattle.std.specs.Prelude.{Option, nat_le, nat_lt, ◌&&◌, ◌||◌}
use Rattle.std.proofs.lemmas.Bool.{or_cases, and_parts, leb-true, ltb-true}
use Rattle.std.proofs.lemmas.Int.{ints}
use Rattle.brakes.specs.declared.brakes.Brakes.{Brakes}
use Rattle.brakes.specs.Brakes.{slowing_on, reaction_way}
use Rattle.braking.specs.Braking.{braked, distance_to, fits}
use Rattle.braking.proofs.Braked.{braked_none, braked_parts}
use Rattle.braking.proofs.Roots.{square_less}
use Rattle.braking.proofs.Slower.{way_less}
use Rattle.safety_laws.specs.Stopping.{IsBraking, IsBetween, later_by}
use Rattle.safety_laws.proofs.Courses.{after_taken}

-- a speed that fits a stop is taken off from where the brakes act, which is no farther than the stop
enough_taken : (v way d vv s none : ℕ) → none ≡ 0 → (v ≤ 0 → (vv ≡ 0) × (way ≡ 0)) →
    (nat_le v 0 || (nat_lt way d && nat_le vv (none + s))) ≡ true → (way ≤ d) × (vv ≤ s)
enough_taken v way d vv s none is stands h =
    elim (or_cases (nat_le v 0) (nat_lt way d && nat_le vv (none + s)) h) [
      | inl still ↦ (let no = stands (leb-true v 0 still) in (omega (arith, no.1), omega (arith, no.0)))
      | inr halves ↦ (let parts = and_parts (nat_lt way d) (nat_le vv (none + s)) halves in
          let acts = ltb-true way d parts.0 in
          let enough = leb-true vv (none + s) parts.1 in
          (omega (arith, acts), omega (arith, enough, is)))
    ]

square_sum : (a b : ℕ) → (a + b) * (a + b) ≡ a * a + 2 * a * b + b * b
square_sum a b = omega arith

sums : (ll two mm loss gain ww ss first farther all lost left end : ℕ) → ll ≤ first → all ≡ first + farther → all ≡ lost + left → gain ≤ farther → lost ≤ loss →
    two + mm + loss ≤ gain → ww ≡ ll + two + mm → ss ≤ ww → end ≤ ss - left → end ≡ 0
sums ll two mm loss gain ww ss first farther all lost left end a b c d e f g h k = omega arith

module _ (front : ℤ) (gradient : ℤ → Option ℤ) (brakes : Brakes) where
  abbrev off : ℕ → ℕ → ℕ
  off from n = braked gradient brakes.deceleration (front +ℤ pos from) n

  off_next : (from n : ℕ) → off from (suc n) ≡ 2592 * slowing_on brakes.deceleration (gradient (front +ℤ pos from)) + off (suc from) n
  unfolding braked
  off_next from n =
      let place : (front +ℤ pos from) +ℤ pos 1 ≡ front +ℤ pos (suc from) = omega (arith, ints) in
      ap (λ (p : ℤ). 2592 * slowing_on brakes.deceleration (gradient (front +ℤ pos from)) + braked gradient brakes.deceleration p n) place

  off_parts : (from m n : ℕ) → off from (m + n) ≡ off from m + off (from + m) n
  off_parts from m n =
      let place : (front +ℤ pos from) +ℤ pos m ≡ front +ℤ pos (from + m) = omega (arith, ints) in
      braked_parts gradient brakes.deceleration (front +ℤ pos from) m n ∙ ap (λ (p : ℤ). off from m + braked gradient brakes.deceleration p n) place

  module _ (way least most : ℕ) (between : IsBetween front gradient brakes way least most) where
    at_least : (n from : ℕ) → from + n ≤ way → 2592 * least * n ≤ off from n
    at_least zero from h = omega (arith, braked_none gradient brakes.deceleration (front +ℤ pos from))
    at_least (suc n) from h =
        let rest = at_least n (suc from) (omega arith) in
        let here = between.at_least from (omega arith) in
        omega (arith, off_next from n, rest, here)

    at_most : (n from : ℕ) → from + n ≤ way → off from n ≤ 2592 * most * n
    at_most zero from h = omega (arith, braked_none gradient brakes.deceleration (front +ℤ pos from))
    at_most (suc n) from h =
        let rest = at_most n (suc from) (omega arith) in
        let here = between.at_most from (omega arith) in
        omega (arith, off_next from n, rest, here)

  stands_still : (v : ℕ) → v ≤ 0 → (v * v ≡ 0) × (reaction_way brakes.reaction v ≡ 0)
  stands_still zero h =
      let none : 0 * brakes.reaction ≡ 0 = omega arith in (omega arith, ap (λ (n : ℕ). div_ceil n 36_000) none)
  stands_still (suc v) h = absurd (omega arith)

  pub passes_by : (place : ℤ) (limit margin speed least most beyond : ℕ) (square : ℕ → ℕ) →
      fits front gradient brakes (record { place = place; speed = 0 }) limit ≡ true → speed ≤ limit + margin →
      IsBraking front gradient brakes speed square →
      IsBetween front gradient brakes (distance_to front (record { place = place; speed = 0 }) + later_by brakes limit margin + beyond) least most →
      2 * limit * margin + margin * margin + 2592 * most * later_by brakes limit margin ≤ 2592 * least * (later_by brakes limit margin + beyond) →
      square (distance_to front (record { place = place; speed = 0 }) + later_by brakes limit margin + beyond) ≡ 0
  passes_by place limit margin speed least most beyond square fit within run between enough =
      let d : ℕ = distance_to front (record { place = place; speed = 0 }) in
      let slow : ℕ = reaction_way brakes.reaction limit in
      let fast : ℕ = reaction_way brakes.reaction (limit + margin) in
      let later : ℕ = fast - slow in
      let way : ℕ = d + later + beyond in
      let order : slow ≤ fast = way_less brakes.reaction (limit + margin) limit (omega arith) in
      let acts : reaction_way brakes.reaction speed ≤ fast = way_less brakes.reaction (limit + margin) speed within in
      let at_limit = enough_taken limit slow d (limit * limit) (off slow (d - slow)) (0 * 0) (omega arith) (stands_still limit) fit in
      let first : off slow ((d - slow) + (later + beyond)) ≡ off slow (d - slow) + off (slow + (d - slow)) (later + beyond) = off_parts slow (d - slow) (later + beyond) in
      let second : off slow (later + (way - fast)) ≡ off slow later + off (slow + later) (way - fast) = off_parts slow later (way - fast) in
      let count : (d - slow) + (later + beyond) ≡ later + (way - fast) = omega (arith, at_limit.0, order) in
      let from : slow + later ≡ fast = omega (arith, order) in
      let gained = at_least way least most between (later + beyond) (slow + (d - slow)) (omega (arith, at_limit.0)) in
      let lost = at_most way least most between later slow (omega (arith, at_limit.0)) in
      let taken = after_taken front gradient brakes speed square run (way - fast) fast acts in
      let end : fast + (way - fast) ≡ way = omega (arith, at_limit.0, order) in
      let rest : off slow ((d - slow) + (later + beyond)) ≡ off slow later + off fast (way - fast) =
      ap (off slow) count ∙ second ∙ ap (λ (n : ℕ). off slow later + off n (way - fast)) from in
      ap square (sym end)
      ∙ sums (limit * limit) (2 * limit * margin) (margin * margin) (2592 * most * later) (2592 * least * (later + beyond)) ((limit + margin) * (limit + margin)) (speed * speed)
      (off slow (d - slow)) (off (slow + (d - slow)) (later + beyond)) (off slow ((d - slow) + (later + beyond))) (off slow later) (off fast (way - fast)) (square (fast + (way - fast)))
      at_limit.1 first rest gained lost enough (square_sum limit margin) (square_less (limit + margin) speed within) taken
