use Rattle.std.proofs.Common.{◌≡◌, true, [], ap, sym, ◌∙◌}
use Rattle.braking.specs.declared.target.Target.{Target}
use Rattle.braking.specs.Braking.{fits}
use Rattle.braking.specs.Approaches.{lowered_by}
use Rattle.braking.proofs.Approaching.{lowered_from}
use Rattle.speed_profile.specs.Targets.{Left}
use Rattle.speed_profile.proofs.Asking.{lowered_beyond}
use Rattle.speed_profile.proofs.speeds_ahead.lower_by_next.Goals as goal

pub returns-then-fits-clause-requested : goal.returns-then-fits-clause-requested
returns-then-fits-clause-requested g c =
    let gradient = g.G.Profile.value in
    let now = c.args.approach.now in
    let stop : Target = record { place = c.args.place; speed = 0 } in
    let stops : fits now.front (gradient now.gradient) now.brakes stop now.speed ≡ true =
    ap (λ (t : Target). fits now.front (gradient now.gradient) now.brakes t now.speed) (sym c.stop_at.ensures)
    ∙ sym c.fits.ensures.value ∙ c.if-fits.true in
    ap (λ (left : Left). lowered_by (gradient c.fits.new.self.gradient) left.targets c.fits.new.self) c.skip_all.ensures.none
    ∙ lowered_from gradient [] c.fits.new.self now c.fits.ensures.same
    ∙ sym (lowered_beyond gradient c.args.speeds.now.speeds_from c.args.place c.args.speeds.now.targets [] now
    c.skip_all.ensures.asks c.requires stops)

pub returns-else-fits-clause-requested : goal.returns-else-fits-clause-requested
returns-else-fits-clause-requested g c =
    c.lower_by_piece.ensures.requested ∙ lowered_from g.G.Profile.value c.args.speeds.now.targets c.fits.new.self c.args.approach.now c.fits.ensures.same
