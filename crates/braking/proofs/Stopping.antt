-- Where a train can stop, it can stop before all that lies farther ahead.
use Rattle.std.proofs.Common.{◌≡◌, ℕ, ℤ, pos, ◌+ℤ◌, ◌-ℤ◌, ◌*◌, ◌+◌, ◌<◌, ◌≤◌, ◌<ℤ◌, ◌≤ℤ◌, inl, inr, true, refl, arith}
use Rattle.std.specs.Prelude.{Option, None, Some}
use Rattle.std.proofs.lemmas.Int.{ints, by_lt_z}
use Rattle.units.specs.Stretches.{natural}
use Rattle.brakes.specs.declared.brakes.Brakes.{Brakes}
use Rattle.braking.specs.declared.target.Target.{Target}
use Rattle.braking.specs.declared.summed.Summed.{Summed}
use Rattle.brakes.specs.Brakes.{reaction_way}
use Rattle.braking.specs.Braking.{braked, fits, greatest, IsSummed}
use Rattle.braking.specs.Sums.{IsStopping}
use Rattle.braking.specs.Approaches.{IsStop}
use Rattle.braking.proofs.Naturals.{none_between}
use Rattle.braking.proofs.Braked.{braked_over, summed_little}
use Rattle.braking.proofs.Roots.{square_greater}
use Rattle.braking.proofs.Greatest.{greatest_within}
use Rattle.braking.proofs.Bounding.{order, is_true}
use Rattle.braking.proofs.Slower.{slow_fits, slower_fits, braking_fits, summed_less}

module _ (front : ℤ) (gradient : ℤ → Option ℤ) (brakes : Brakes) where
  pub stopping_fits : (v : ℕ) (sum : Summed) → IsSummed gradient brakes.deceleration sum → IsStopping front brakes.reaction v sum →
      (t : Target) → sum.to ≤ℤ t.place → fits front gradient brakes t v ≡ true
  stopping_fits v sum summed stops t earlier = elim (order v t.speed) [
    | inl slow ↦ slow_fits front gradient brakes t v slow
    | inr fast ↦ (let start : ℤ = front +ℤ pos (reaction_way brakes.reaction v) in
        let squares : t.speed * t.speed < v * v = square_greater t.speed v fast in
        let long : sum.from <ℤ sum.to = by_lt_z sum.from sum.to (λ (some : sum.from <ℤ sum.to). some)
        (λ (none : sum.to ≤ℤ sum.from). absurd (omega (arith, none_between sum.from sum.to none, summed_little gradient brakes.deceleration sum summed, stops.enough, squares))) in
        let acts : start <ℤ t.place = omega (arith, ints, stops.acts, long, earlier) in
        let over = braked_over gradient brakes.deceleration start sum.from t.place stops.acts (omega (arith, ints, long, earlier)) in
        let less = summed_less front gradient brakes t sum summed earlier in
        is_true (v * v) (t.speed * t.speed + braked gradient brakes.deceleration start (natural (t.place -ℤ start))) _
        (omega (arith, over, less, stops.enough))
        (braking_fits front gradient brakes t v start fast refl acts))
  ]

  -- .. at a lesser speed too
  stop_slower : (stop : Option ℤ) (v w : ℕ) → w ≤ v → IsStop front gradient brakes v stop → IsStop front gradient brakes w stop
  stop_slower None v w less known = tt
  stop_slower (Some place) v w less known = λ t earlier. slower_fits front gradient brakes t v w less (known t earlier)

  pub stop_lowered : (stop : Option ℤ) (t : Target) (speed v : ℕ) → v ≡ greatest (fits front gradient brakes t) speed →
      IsStop front gradient brakes speed stop → IsStop front gradient brakes v stop
  stop_lowered stop t speed v is = stop_slower stop speed v (rw is (greatest_within (fits front gradient brakes t) speed))
