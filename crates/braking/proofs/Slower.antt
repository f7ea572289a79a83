-- A speed below one that fits also fits.
use Rattle.std.proofs.Common.{◌≡◌, ℕ, ℤ, pos, negsuc, ◌⊎◌, inl, inr, ◌+ℤ◌, ◌≤ℤ◌, ◌+◌, ◌-◌, ◌*◌, ◌<◌, ◌≤◌, ◌-ℤ◌, ◌<ℤ◌, Bool, true, false, List, ◌∷◌, refl, ap, sym, ◌∙◌, arith}
use Rattle.std.specs.Prelude.{IsTrue, nat_le, nat_lt, ◌&&◌, ◌||◌, Option}
use Rattle.std.proofs.lemmas.Bool.Decides.{nat_tests}
use Rattle.std.proofs.lemmas.Int.{ints}
use Rattle.track_store.proofs.Jumps.{natural_is}
use Rattle.brakes.specs.declared.brakes.Brakes.{Brakes}
use Rattle.braking.specs.declared.target.Target.{Target}
use Rattle.units.specs.Stretches.{natural}
use Rattle.brakes.specs.Brakes.{reaction_way}
use Rattle.braking.specs.Braking.{braked, distance_to, fits, fits_all, greatest, IsSummed}
use Rattle.braking.specs.declared.summed.Summed.{Summed}
use Rattle.braking.proofs.Greatest.{greatest_both}
use Rattle.braking.proofs.Roots.{square_less}
use Rattle.braking.proofs.Braked.{braked_later, braked_over}

pub way_less : (reaction v w : ℕ) → w ≤ v → reaction_way reaction w ≤ reaction_way reaction v
way_less reaction v w h =
    let p : w * reaction ≤ v * reaction = grind arith in
    omega (arith, p)

no_farther : (z : ℤ) (n : ℕ) → z ≤ℤ pos n → natural z ≤ n
no_farther (pos m) n h = omega (arith, ints)
no_farther (negsuc m) n h = omega arith

settled : (u v w rv rw' d vv ww uu sv sw : ℕ) → w ≤ v → rw' ≤ rv → ww ≤ vv → (rv < d → sv ≤ sw) →
    (nat_le v u || (nat_lt rv d && nat_le vv (uu + sv))) ≡ true → (nat_le w u || (nat_lt rw' d && nat_le ww (uu + sw))) ≡ true
settled u v w rv rw' d vv ww uu sv sw a b c e f = grind (arith, nat_tests)

module _ (front : ℤ) (gradient : ℤ → Option ℤ) (brakes : Brakes) where
  taken_off : ℕ → ℕ → ℕ
  taken_off way d = braked gradient brakes.deceleration (front +ℤ pos way) (d - way)

  sooner : (way' way d : ℕ) → way' ≤ way → way < d → taken_off way d ≤ taken_off way' d
  unfolding taken_off
  sooner way' way d a b =
      let start : (front +ℤ pos way') +ℤ pos (way - way') ≡ front +ℤ pos way = omega (arith, ints) in
      let count : (way - way') + (d - way) ≡ d - way' = omega arith in
      let later = braked_later gradient brakes.deceleration (front +ℤ pos way') (way - way') (d - way) in
      omega (
        arith,
        later,
        ap (λ (z : ℤ). braked gradient brakes.deceleration z (d - way)) start,
        ap (braked gradient brakes.deceleration (front +ℤ pos way')) count,
      )

  pub slower_fits : (t : Target) (v w : ℕ) → w ≤ v → fits front gradient brakes t v ≡ true → fits front gradient brakes t w ≡ true
  unfolding taken_off
  slower_fits t v w h f =
      let rv : ℕ = reaction_way brakes.reaction v in
      let rw' : ℕ = reaction_way brakes.reaction w in
      let d : ℕ = distance_to front t in
      let ways : rw' ≤ rv = way_less brakes.reaction v w h in
      let squares : w * w ≤ v * v = square_less v w h in
      settled t.speed v w rv rw' d (v * v) (w * w) (t.speed * t.speed) (taken_off rv d) (taken_off rw' d) h ways squares (sooner rw' rv d ways) f

  -- a speed no greater than the target's fits
  pub slow_fits : (t : Target) (v : ℕ) → v ≤ t.speed → fits front gradient brakes t v ≡ true
  slow_fits t v h =
      let slow : nat_le v t.speed ≡ true = grind (arith, nat_tests) in
      rw slow

  -- .. and a greater one where the brakes act before it and take off enough
  pub braking_fits : (t : Target) (v : ℕ) (start : ℤ) → t.speed < v →
      start ≡ front +ℤ pos (reaction_way brakes.reaction v) → start <ℤ t.place →
      nat_le (v * v) (t.speed * t.speed + braked gradient brakes.deceleration start (natural (t.place -ℤ start))) ≡ fits front gradient brakes t v
  braking_fits t v start faster at ahead =
      let way : ℕ = reaction_way brakes.reaction v in
      let all = natural_is (t.place -ℤ front) (omega (arith, ints)) in
      let left = natural_is (t.place -ℤ start) (omega (arith, ints)) in
      let count : natural (t.place -ℤ start) ≡ distance_to front t - way = omega (arith, ints, all, left) in
      let before : way < distance_to front t = omega (arith, ints, all, left) in
      let fast : nat_le v t.speed ≡ false = grind (arith, nat_tests) in
      let acts : nat_lt way (distance_to front t) ≡ true = grind (arith, nat_tests) in
      λ i. sym fast i || (sym acts i && nat_le (v * v) (t.speed * t.speed + braked gradient brakes.deceleration (at i) (count i)))

  -- what is lacking is distinguished by what is summed, if that is all or enough
  lacking_less : (v u lacking taken all : ℕ) → u ≤ v → lacking ≡ v - u → taken ≤ all → (taken ≡ all) ⊎ (lacking ≤ taken) →
      nat_le lacking taken ≡ nat_le v (u + all)
  lacking_less v u lacking taken all a b c either = elim either [ inl e ↦ grind (arith, nat_tests) | inr h ↦ grind (arith, nat_tests) ]

  -- what a stretch up to before a target takes off
  pub summed_less : (t : Target) (sum : Summed) → IsSummed gradient brakes.deceleration sum → sum.to ≤ℤ t.place →
      sum.taken_off ≤ braked gradient brakes.deceleration sum.from (natural (t.place -ℤ sum.from))
  summed_less t sum summed within =
      omega (arith, braked_over gradient brakes.deceleration sum.from sum.to t.place summed.0 within, summed.1)

  pub summed_whole : (t : Target) (sum : Summed) → IsSummed gradient brakes.deceleration sum → sum.to ≡ t.place →
      sum.taken_off ≡ braked gradient brakes.deceleration sum.from (natural (t.place -ℤ sum.from))
  summed_whole t sum summed there = summed.1 ∙ ap (λ (z : ℤ). braked gradient brakes.deceleration sum.from (natural (z -ℤ sum.from))) there

  pub summed_fits : (t : Target) (v lacking : ℕ) (sum : Summed) → t.speed < v → (front +ℤ pos (reaction_way brakes.reaction v)) <ℤ t.place →
      lacking ≡ v * v - t.speed * t.speed → IsSummed gradient brakes.deceleration sum →
      sum.from ≡ front +ℤ pos (reaction_way brakes.reaction v) → sum.to ≤ℤ t.place →
      (sum.to ≡ t.place) ⊎ ((v * v - t.speed * t.speed) ≤ sum.taken_off) →
      nat_le lacking sum.taken_off ≡ fits front gradient brakes t v
  summed_fits t v lacking sum faster acts is summed from to reached =
      let squares : t.speed * t.speed ≤ v * v = square_less v t.speed (omega (arith, faster)) in
      let all : ℕ = braked gradient brakes.deceleration sum.from (natural (t.place -ℤ sum.from)) in
      let either : (sum.taken_off ≡ all) ⊎ (lacking ≤ sum.taken_off) = elim reached [
        | inl there ↦ inl (summed_whole t sum summed there)
        | inr enough ↦ inr (rw is enough)
      ] in
      lacking_less (v * v) (t.speed * t.speed) lacking sum.taken_off all squares is (summed_less t sum summed to) either
      ∙ braking_fits t v sum.from faster from (omega (arith, ints, acts, from))

  -- brakes that act too late
  pub late_fails : (t : Target) (v : ℕ) → t.speed < v → t.place ≤ℤ (front +ℤ pos (reaction_way brakes.reaction v)) →
      fits front gradient brakes t v ≡ false
  late_fails t v faster late =
      let way : ℕ = reaction_way brakes.reaction v in
      let fast : nat_le v t.speed ≡ false = grind (arith, nat_tests) in
      let short : distance_to front t ≤ way = no_farther (t.place -ℤ front) way (omega (arith, ints)) in
      let acts : nat_lt way (distance_to front t) ≡ false = grind (arith, nat_tests) in
      rw fast (rw acts refl)

  -- target by target
  pub one_more : (t : Target) (targets : List Target) (limit speed : ℕ) → speed ≡ greatest (fits front gradient brakes t) limit →
      greatest (fits_all front gradient brakes targets) speed ≡ greatest (fits_all front gradient brakes (t ∷ targets)) limit
  one_more t targets limit speed is =
      ap (greatest (fits_all front gradient brakes targets)) is
      ∙ sym (greatest_both (fits front gradient brakes t) (fits_all front gradient brakes targets) limit (λ v w. slower_fits t v w))

  -- a speed above one that does not fit does not fit
  pub faster_fails : (t : Target) (v w : ℕ) → w ≤ v → fits front gradient brakes t w ≡ false → fits front gradient brakes t v ≡ false
  faster_fails t v w h f =
      let cases : (b : Bool) → fits front gradient brakes t v ≡ b → b ≡ false =
      elim [ true ↦ λ e. absurd (let k : true ≡ false = sym (slower_fits t v w h e) ∙ f in cc) | false ↦ λ e. refl ] in
      cases (fits front gradient brakes t v) refl

  -- a speed that fits is below one that doesn't
  pub slower_than : (t : Target) (v w : ℕ) → fits front gradient brakes t v ≡ true → fits front gradient brakes t w ≡ false → v ≤ w
  slower_than t v w fit fail =
      let order : (v ≤ w) ⊎ (w ≤ v) = grind arith in
      elim order [
        | inl below ↦ below
        | inr over ↦ absurd (let k : true ≡ false = sym (slower_fits t v w over fit) ∙ fail in cc)
      ]

  pub slower_true : (t : Target) (v : ℕ) (b : Bool) → b ≡ fits front gradient brakes t v → IsTrue b →
      (w : ℕ) → w ≤ v → IsTrue (fits front gradient brakes t w)
  slower_true t v b e h w below = slower_fits t v w below (sym e ∙ h)
