use Rattle.std.proofs.Common.{◌≡◌, Bool, true, false, cond, refl, ap, inl, inr}
use Rattle.events.specs.declared.output.Brake.{Brake}
use Rattle.events.specs.declared.output.Brake.TheVariants as brake
use Rattle.mode_table.specs.declared.mode.Mode.TheVariants.{Trip, SystemFailure}
use Rattle.mode_table.specs.Modes.{is_mode}
use Rattle.kernel.specs.Brake.{is_in, is_not_revalidated}
use Rattle.kernel.specs.Lives.{life_of}
use Rattle.kernel.proofs.laws.trip_brakes.Goals as goal

-- they are the second and the third row
where_tripped : (first tripped : Bool) (other : Brake) → tripped ≡ true →
    cond first brake.Emergency (cond tripped brake.Emergency other) ≡ brake.Emergency
where_tripped true tripped other h = refl
where_tripped false true other h = refl
where_tripped false false other h = absurd cc

where_failed : (first tripped failed : Bool) (other : Brake) → failed ≡ true →
    cond first brake.Emergency (cond tripped brake.Emergency (cond failed brake.Emergency other)) ≡ brake.Emergency
where_failed true tripped failed other h = refl
where_failed false true failed other h = refl
where_failed false false true other h = refl
where_failed false false false other h = absurd cc

pub returns : goal.returns
returns c events (inl h) =
    let life = life_of events in where_tripped (is_not_revalidated life) (is_in Trip life) _ (ap (is_mode Trip) h)
returns c events (inr h) =
    let life = life_of events in
    where_failed (is_not_revalidated life) (is_in Trip life) (is_in SystemFailure life) _ (ap (is_mode SystemFailure) h)
