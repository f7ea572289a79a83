-- Between which speeds the greatest one lies that fits a target.
use Rattle.std.proofs.Common.{◌≡◌, ℕ, ℤ, pos, ◌+ℤ◌, ◌-ℤ◌, ◌+◌, ◌*◌, ◌<◌, ◌≤◌, ◌<ℤ◌, ◌≤ℤ◌, ◌⊎◌, inl, inr, Bool, true, false, refl, ap, sym, ◌∙◌, arith}
use Rattle.std.specs.Prelude.{nat_le, Option}
use Rattle.std.specs.Int.{int_max}
use Rattle.std.proofs.lemmas.Bool.Decides.{nat_tests}
use Rattle.std.proofs.lemmas.Int.{ints, clamps, by_lt_z}
use Rattle.units.specs.Stretches.{natural}
use Rattle.brakes.specs.declared.brakes.Brakes.{Brakes}
use Rattle.braking.specs.declared.target.Target.{Target}
use Rattle.braking.specs.declared.summed.Summed.{Summed}
use Rattle.braking.specs.declared.stretch.Stretch.{Stretch}
use Rattle.brakes.specs.Brakes.{reaction_way}
use Rattle.braking.specs.Braking.{braked, fits, greatest, IsSummed}
use Rattle.braking.specs.Sums.{IsSummedWhole, IsRoot, IsStretch, IsEnough}
use Rattle.braking.proofs.Naturals.{none_between}
use Rattle.braking.proofs.Braked.{braked_over, summed_little, even_is}
use Rattle.braking.proofs.Roots.{root_less, square_less, square_greater}
use Rattle.braking.proofs.Greatest.{greatest_is}
use Rattle.braking.proofs.Slower.{way_less, slow_fits, braking_fits, late_fails, faster_fails, summed_whole}

pub order : (a b : ℕ) → (a ≤ b) ⊎ (b < a)
order a b = grind arith

pub is_true : (m n : ℕ) (b : Bool) → m ≤ n → nat_le m n ≡ b → b ≡ true
is_true m n b h is = sym is ∙ (let k : nat_le m n ≡ true = grind (arith, nat_tests) in k)

is_false : (m n : ℕ) (b : Bool) → n < m → nat_le m n ≡ b → b ≡ false
is_false m n b h is = sym is ∙ (let k : nat_le m n ≡ false = grind (arith, nat_tests) in k)

-- no greater speed than that is taken off
pub root_most : (speed taken_off limit root v : ℕ) → IsRoot speed taken_off limit root → v ≤ limit → v * v ≤ speed * speed + taken_off → v ≤ root
root_most speed taken_off limit root v is within below = elim (order v root) [
  | inl less ↦ less
  | inr more ↦ absurd (omega (arith, below, square_less v (root + 1) (omega (arith, more)), is.next (omega (arith, more, within))))
]

-- what is summed up to a target, and the speed from which so much is taken off
pub record IsKnownBefore (gradient : ℤ → Option ℤ) (deceleration : ℕ) (t : Target) (limit : ℕ) (sum : Summed) (low : ℕ) : Type 0 where
  pub summed : IsSummed gradient deceleration sum
  pub to : sum.to ≡ t.place
  pub root : IsRoot t.speed sum.taken_off limit low

module _ (front : ℤ) (gradient : ℤ → Option ℤ) (brakes : Brakes) (t : Target) (limit : ℕ) where
  abbrev start : ℕ → ℤ
  start v = front +ℤ pos (reaction_way brakes.reaction v)

  abbrev off : ℤ → ℕ
  off from = braked gradient brakes.deceleration from (natural (t.place -ℤ from))

  abbrev IsKnown : Summed → ℕ → Type 0
  IsKnown sum low = IsKnownBefore gradient brakes.deceleration t limit sum low

  -- at the speed that is taken off from the limit's place on the brakes act before that, where it is above the target's
  pub acts_first : (sum : Summed) (low : ℕ) → IsSummedWhole front gradient brakes t limit sum → IsRoot t.speed sum.taken_off limit low →
      (low ≤ t.speed) ⊎ (start low ≤ℤ sum.from)
  acts_first sum low whole root = elim (order low t.speed) [
    | inl slow ↦ inl slow
    | inr fast ↦ inr (by_lt_z (start limit) t.place
        (λ (early : start limit <ℤ t.place). omega (arith, ints, clamps, way_less brakes.reaction limit low root.within, whole.from, early))
        (λ (late : t.place ≤ℤ start limit).
        let there : sum.to ≤ℤ sum.from = omega (arith, ints, clamps, whole.from, whole.to, late) in
        absurd (omega (
          arith,
          none_between sum.from sum.to there,
          summed_little gradient brakes.deceleration sum whole.summed,
          square_greater t.speed low fast,
          root.below,
        ))))
  ]

  -- a speed whose brakes act before a place from which on enough is taken off
  fits_from : (v : ℕ) (place : ℤ) → start v ≤ℤ place → place ≤ℤ t.place → start v <ℤ t.place → v * v ≤ t.speed * t.speed + off place →
      fits front gradient brakes t v ≡ true
  fits_from v place acts before early enough = elim (order v t.speed) [
    | inl slow ↦ slow_fits front gradient brakes t v slow
    | inr fast ↦ is_true (v * v) (t.speed * t.speed + off (start v)) _
        (omega (arith, enough, braked_over gradient brakes.deceleration (start v) place t.place acts before))
        (braking_fits front gradient brakes t v (start v) fast refl early)
  ]

  module _ (sum : Summed) (low : ℕ) (known : IsKnown sum low) where
    off_is : sum.taken_off ≡ off sum.from
    off_is = summed_whole front gradient brakes t sum known.summed known.to

    within : sum.from ≤ℤ t.place
    within = omega (arith, ints, known.summed.0, known.to)

    -- where something is taken off, the sum begins before the target
    begins_early : 0 < sum.taken_off → sum.from <ℤ t.place
    begins_early some =
        by_lt_z sum.from t.place (λ (early : sum.from <ℤ t.place). early)
        (λ (late : t.place ≤ℤ sum.from).
        absurd (omega (arith, none_between sum.from sum.to (omega (arith, ints, known.to, late)), summed_little gradient brakes.deceleration sum known.summed, some)))

    pub known_fits : (low ≤ t.speed) ⊎ (start low ≤ℤ sum.from) → fits front gradient brakes t low ≡ true
    known_fits acts = elim (order low t.speed) [
      | inl slow ↦ slow_fits front gradient brakes t low slow
      | inr fast ↦ (let there : start low ≤ℤ sum.from = elim acts [ inl slow ↦ absurd (omega (arith, slow, fast)) | inr there ↦ there ] in
          let early = begins_early (omega (arith, square_greater t.speed low fast, known.root.below)) in
          fits_from low sum.from there within (omega (arith, ints, there, early)) (omega (arith, known.root.below, off_is)))
    ]

    -- no greater one fits whose brakes act where the sum begins, or after that
    pub later_fails : (v : ℕ) → low < v → v ≤ limit → sum.from ≤ℤ start v → fits front gradient brakes t v ≡ false
    later_fails v above below late =
        let greater : t.speed * t.speed + sum.taken_off < v * v =
        omega (arith, known.root.next (omega (arith, above, below)), square_less v (low + 1) (omega (arith, above))) in
        let fast : t.speed < v = root_less v t.speed (omega (arith, greater)) in
        by_lt_z (start v) t.place
        (λ (early : start v <ℤ t.place).
        let over = braked_over gradient brakes.deceleration sum.from (start v) t.place late (omega (arith, ints, early)) in
        is_false (v * v) (t.speed * t.speed + off (start v)) _ (omega (arith, greater, over, off_is))
        (braking_fits front gradient brakes t v (start v) fast refl early))
        (λ (earlier : t.place ≤ℤ start v). late_fails front gradient brakes t v fast earlier)

    -- so it is the greatest where the brakes act there at that
    pub known_greatest : (low ≤ t.speed) ⊎ (start low ≤ℤ sum.from) → sum.from ≤ℤ start low → low ≡ greatest (fits front gradient brakes t) limit
    known_greatest acts late =
        sym (greatest_is (fits front gradient brakes t) low limit known.root.within (inr (known_fits acts))
        (λ k above below. later_fails k above below (omega (arith, ints, late, way_less brakes.reaction k low (omega (arith, above))))))

  -- where one gradient lies before what is summed, and each speed is taken off at which the brakes act before both
  module _ (stretch : Stretch) (low high : ℕ) (is : IsStretch gradient brakes.deceleration stretch) (known : IsKnown stretch.sum low)
      (more : IsKnown stretch.initial high)
      (enough : (v : ℕ) → v ≤ limit → start v <ℤ stretch.initial.from → v * v ≤ t.speed * t.speed + stretch.initial.taken_off) where
    abbrev evenly : ℤ → ℕ
    evenly place = 2592 * stretch.slowing * natural (stretch.sum.from -ℤ place) + stretch.sum.taken_off

    evenly_is : (place : ℤ) → stretch.initial.from ≤ℤ place → place ≤ℤ stretch.sum.from → evenly place ≡ off place
    evenly_is place a b =
        even_is gradient brakes.deceleration stretch.slowing place stretch.sum.from t.place b (within stretch.sum low known) (λ z c d. is.even z (omega (arith, ints, a, c)) d)
        stretch.sum.taken_off (off_is stretch.sum low known)

    late : high < limit → stretch.initial.from ≤ℤ start (high + 1)
    late less =
        by_lt_z (start (high + 1)) stretch.initial.from
        (λ (early : start (high + 1) <ℤ stretch.initial.from). absurd (omega (arith, enough (high + 1) (omega (arith, less)) early, more.root.next less)))
        (λ (earlier : stretch.initial.from ≤ℤ start (high + 1)). earlier)

    enough_fits : (v : ℕ) → IsEnough front brakes t stretch v → fits front gradient brakes t v ≡ true
    enough_fits v much =
        let place : ℤ = int_max (start v) stretch.initial.from in
        let first : stretch.initial.from ≤ℤ place = omega (arith, ints, clamps) in
        let last : place ≤ℤ stretch.sum.from = omega (arith, ints, clamps, is.initial.ordered, much.acts) in
        let target : stretch.sum.from ≤ℤ t.place = within stretch.sum low known in
        fits_from v place (omega (arith, ints, clamps)) (omega (arith, ints, last, target)) (omega (arith, ints, much.acts, target))
        (omega (arith, much.enough, evenly_is place first last))

    not_enough_fails : (v : ℕ) → low < v → v ≤ limit → v ≤ high → ¬ (IsEnough front brakes t stretch v) →
        fits front gradient brakes t v ≡ false
    not_enough_fails v above below most not =
        by_lt_z (start v) stretch.sum.from
        (λ (acts : start v <ℤ stretch.sum.from).
        let place : ℤ = int_max (start v) stretch.initial.from in
        let first : stretch.initial.from ≤ℤ place = omega (arith, ints, clamps) in
        let last : place ≤ℤ stretch.sum.from = omega (arith, ints, clamps, is.initial.ordered, acts) in
        elim (order (v * v) (t.speed * t.speed + evenly place)) [
          | inl much ↦ absurd (not (record { acts = acts; enough = much }))
          | inr less ↦ by_lt_z (start v) stretch.initial.from
              (λ (sooner : start v <ℤ stretch.initial.from).
              let there : place ≡ stretch.initial.from = omega (arith, ints, clamps, sooner) in
              let all = evenly_is place first last in
              absurd (omega (arith, less, all, ap (λ (z : ℤ). off z) there, off_is stretch.initial high more, more.root.below, square_less high v most)))
              (λ (later : stretch.initial.from ≤ℤ start v).
              let there : place ≡ start v = omega (arith, ints, clamps, later) in
              let all = evenly_is place first last in
              let target : stretch.sum.from ≤ℤ t.place = within stretch.sum low known in
              is_false (v * v) (t.speed * t.speed + off (start v)) _ (omega (arith, less, all, ap (λ (z : ℤ). off z) there))
              (braking_fits front gradient brakes t v (start v) (root_less v t.speed (omega (arith, less))) refl (omega (arith, ints, acts, target))))
        ])
        (λ (earlier : stretch.sum.from ≤ℤ start v). later_fails stretch.sum low known v above below earlier)

    module _ (end : ℕ) (next : high < limit → end ≡ high + 1) (last : limit ≤ high → end ≡ limit) (fails : fits front gradient brakes t limit ≡ false) where
      end_fails : fits front gradient brakes t end ≡ false
      end_fails = elim (order limit high) [
        | inl greatest ↦ ap (fits front gradient brakes t) (last greatest) ∙ fails
        | inr less ↦ ap (fits front gradient brakes t) (next less)
            ∙ later_fails stretch.initial high more (high + 1) (omega arith) (omega (arith, less)) (late less)
      ]

      end_near : (end ≤ limit) × (end ≤ high + 1)
      end_near = elim (order limit high) [
        | inl greatest ↦ (omega (arith, last greatest), omega (arith, last greatest, greatest))
        | inr less ↦ (omega (arith, next less, less), omega (arith, next less))
      ]

      -- the greatest speed below that for which enough is taken off
      pub found_greatest : (low ≤ t.speed) ⊎ (start low ≤ℤ stretch.sum.from) → (found : ℕ) → low ≤ found → found ≤ end →
          (found ≡ low) ⊎ IsEnough front brakes t stretch found →
          (found + 1 < end → ¬ (IsEnough front brakes t stretch (found + 1))) → found ≡ greatest (fits front gradient brakes t) limit
      found_greatest acts found least most either none =
          let test : ℕ → Bool = fits front gradient brakes t in
          let fit : test found ≡ true = elim either [
            | inl same ↦ ap test same ∙ known_fits stretch.sum low known acts
            | inr much ↦ enough_fits found much
          ] in
          let after : found + 1 ≤ limit → test (found + 1) ≡ false = λ below. elim (order end (found + 1)) [
            | inl over ↦ faster_fails front gradient brakes t (found + 1) end over end_fails
            | inr under ↦ not_enough_fails (found + 1) (omega (arith, least)) below (omega (arith, under, end_near.1)) (none under)
          ] in
          sym (greatest_is test found limit (omega (arith, most, end_near.0)) (inr fit)
          (λ k above below. faster_fails front gradient brakes t k (found + 1) (omega (arith, above)) (after (omega (arith, above, below)))))
