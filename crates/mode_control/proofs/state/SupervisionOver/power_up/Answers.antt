use Rattle.mode_control.proofs.state.SupervisionOver.power_up.Goals as goal

pub returns-clause-stands : goal.returns-clause-stands
returns-clause-stands g c = c.set_out.ensures.stands c.args.kept c.args.cold c.new-initial.ensures.stands
