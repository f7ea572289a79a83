-- A target farther ahead that asks for no lower speed fits where a nearer one does.
use Rattle.std.proofs.Common.{◌≡◌, ℕ, ℤ, pos, negsuc, ◌+ℤ◌, ◌-ℤ◌, ◌≤ℤ◌, ◌+◌, ◌-◌, ◌*◌, ◌<◌, ◌≤◌, true, ap, arith}
use Rattle.std.specs.Prelude.{nat_le, nat_lt, ◌&&◌, ◌||◌, Option}
use Rattle.std.proofs.lemmas.Bool.Decides.{nat_tests}
use Rattle.std.proofs.lemmas.Int.{ints}
use Rattle.units.specs.Stretches.{natural}
use Rattle.brakes.specs.declared.brakes.Brakes.{Brakes}
use Rattle.braking.specs.declared.target.Target.{Target}
use Rattle.brakes.specs.Brakes.{reaction_way}
use Rattle.braking.specs.Braking.{braked, distance_to, fits}
use Rattle.braking.proofs.Braked.{braked_parts}
use Rattle.braking.proofs.Roots.{square_less}

-- a target that is no nearer and asks for no lower speed
pub record IsNoNearer (near far : Target) : Type 0 where
  pub place : near.place ≤ℤ far.place
  pub speed : near.speed ≤ far.speed

natural_grows : (a b : ℤ) → a ≤ℤ b → natural a ≤ natural b
natural_grows (pos m) (pos n) h = omega (arith, ints)
natural_grows (pos m) (negsuc n) h = absurd (omega (arith, ints))
natural_grows (negsuc m) (pos n) h = omega arith
natural_grows (negsuc m) (negsuc n) h = omega arith

settled : (v u u' way d d' vv uu uu' s s' : ℕ) → u ≤ u' → uu ≤ uu' → d ≤ d' → (way < d → s ≤ s') →
    (nat_le v u || (nat_lt way d && nat_le vv (uu + s))) ≡ true → (nat_le v u' || (nat_lt way d' && nat_le vv (uu' + s'))) ≡ true
settled v u u' way d d' vv uu uu' s s' a b c e f = grind (arith, nat_tests)

module _ (front : ℤ) (gradient : ℤ → Option ℤ) (brakes : Brakes) where
  taken_off : ℕ → ℕ → ℕ
  taken_off way d = braked gradient brakes.deceleration (front +ℤ pos way) (d - way)

  more_taken_off : (way d d' : ℕ) → d ≤ d' → way < d → taken_off way d ≤ taken_off way d'
  unfolding taken_off
  more_taken_off way d d' a b =
      let count : (d - way) + (d' - d) ≡ d' - way = omega arith in
      omega (
        arith,
        braked_parts gradient brakes.deceleration (front +ℤ pos way) (d - way) (d' - d),
        ap (braked gradient brakes.deceleration (front +ℤ pos way)) count,
      )

  pub farther_fits : (near far : Target) (v : ℕ) → IsNoNearer near far →
      fits front gradient brakes near v ≡ true → fits front gradient brakes far v ≡ true
  unfolding taken_off
  farther_fits near far v no_nearer f =
      let way : ℕ = reaction_way brakes.reaction v in
      let d : ℕ = distance_to front near in
      let d' : ℕ = distance_to front far in
      let place : near.place ≤ℤ far.place = no_nearer.place in
      let longer : d ≤ d' = natural_grows (near.place -ℤ front) (far.place -ℤ front) (omega (arith, ints, place)) in
      settled v near.speed far.speed way d d' (v * v) (near.speed * near.speed) (far.speed * far.speed) (taken_off way d) (taken_off way d')
      no_nearer.speed (square_less far.speed near.speed no_nearer.speed) longer (more_taken_off way d d' longer) f
