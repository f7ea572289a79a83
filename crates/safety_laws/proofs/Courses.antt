-- A train that brakes from a speed that fits a target isn't faster there than the target asks.
use Rattle.std.proofs.Common.{◌≡◌, ℕ, zero, suc, ℤ, pos, ◌+ℤ◌, ◌+◌, ◌-◌, ◌*◌, ◌≤◌, ◌<◌, true, ap, arith}
use Rattle.std.specs.Prelude.{Option, nat_le, nat_lt, ◌&&◌, ◌||◌}
use Rattle.std.proofs.lemmas.Bool.Decides.{nat_tests}
use Rattle.std.proofs.lemmas.Int.{ints}
use Rattle.brakes.specs.declared.brakes.Brakes.{Brakes}
use Rattle.brakes.specs.Brakes.{reaction_way}
use Rattle.braking.specs.declared.target.Target.{Target}
use Rattle.braking.specs.Braking.{braked, distance_to, fits}
use Rattle.braking.proofs.Roots.{square_less}
use Rattle.safety_laws.specs.Stopping.{IsBraking}

settled : (v u way d vv uu s sq : ℕ) → (nat_le v u || (nat_lt way d && nat_le vv (uu + s))) ≡ true →
    (v ≤ u → sq ≤ uu) → (way < d → vv ≤ uu + s → sq ≤ uu) → sq ≤ uu
settled v u way d vv uu s sq h slow braking = grind (arith, nat_tests)

module _ (front : ℤ) (gradient : ℤ → Option ℤ) (brakes : Brakes) (speed : ℕ) (square : ℕ → ℕ) (run : IsBraking front gradient brakes speed square) where
  abbrev way : ℕ
  way = reaction_way brakes.reaction speed

  no_faster : (n : ℕ) → square n ≤ speed * speed
  no_faster zero = run.starts
  no_faster (suc n) = omega (arith, run.falls n, no_faster n)

  -- what so many centimetres take off from where the brakes act
  taken : (n m : ℕ) → way ≤ m → square (m + n) ≤ square m - braked gradient brakes.deceleration (front +ℤ pos m) n
  unfolding braked
  taken zero m acts =
      let here : m + 0 ≡ m = omega arith in
      omega (arith, ap square here)
  taken (suc n) m acts =
      let next : m + suc n ≡ suc m + n = omega arith in
      let place : front +ℤ pos (suc m) ≡ (front +ℤ pos m) +ℤ pos 1 = omega (arith, ints) in
      let rest : square (suc m + n) ≤ square (suc m) - braked gradient brakes.deceleration (front +ℤ pos (suc m)) n = taken n (suc m) (omega arith) in
      let same = ap (λ (p : ℤ). braked gradient brakes.deceleration p n) place in
      omega (arith, ap square next, rest, same, run.slowed m acts)

  pub after_taken : (n m : ℕ) → way ≤ m → square (m + n) ≤ speed * speed - braked gradient brakes.deceleration (front +ℤ pos m) n
  after_taken n m acts = omega (arith, taken n m acts, no_faster m)

  pub slows : (target : Target) → fits front gradient brakes target speed ≡ true → square (distance_to front target) ≤ target.speed * target.speed
  slows target fit =
      let d : ℕ = distance_to front target in
      let off : ℕ = braked gradient brakes.deceleration (front +ℤ pos way) (d - way) in
      settled speed target.speed way d (speed * speed) (target.speed * target.speed) off (square d) fit
      (λ slow. omega (arith, no_faster d, square_less target.speed speed slow))
      (λ acts enough. let all : way + (d - way) ≡ d = omega arith in
      omega (arith, ap square all, taken (d - way) way (omega arith), no_faster way, enough))
