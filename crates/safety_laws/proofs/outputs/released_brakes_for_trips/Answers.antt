use Rattle.std.proofs.Common.{◌≡◌, ◌∷◌, sym, subst}
use Rattle.events.specs.declared.output.Brake.TheVariants as brake
use Rattle.onboard.specs.declared.released.Released.{Released}
use Rattle.safety_laws.proofs.Finding.{found_in}
use Rattle.safety_laws.proofs.outputs.released_brakes_for_trips.Goals as goal

pub returns : goal.returns
returns c events pair there =
    let found = found_in events pair there in (
      found.position,
      λ tripped.
          subst (λ (p : Released). p.output.brake ≡ brake.Emergency) (sym found.same) (c.outstanding_trip_brakes.ensures (found.position.event ∷ found.position.earlier) tripped),
    )
