use Rattle.std.proofs.Common.{◌∷◌, sym, subst}
use Rattle.kernel.specs.Lives.{life_of}
use Rattle.onboard.specs.declared.released.Released.{Released}
use Rattle.unit_start.specs.Events.{pair_of}
use Rattle.safety_laws.specs.Outputs.{Halts}
use Rattle.safety_laws.proofs.Finding.{found_in}
use Rattle.safety_laws.proofs.outputs.released_halts.Goals as goal

pub returns : goal.returns
returns c events pair there =
    let found = found_in events pair there in
    let life = life_of (found.position.event ∷ found.position.earlier) in
    let halts : Halts (pair_of found.position.earlier found.position.event).output.limit life = λ train end speed square supervised none within run.
    c.halts_at_location.ensures life train end square supervised none (record { speed = speed; within = within; run = run }) in
    (found.position, subst (λ (p : Released). Halts p.output.limit life) (sym found.same) halts)
