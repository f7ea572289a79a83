use Rattle.mode_control.proofs.Known.{known_by}
use Rattle.mode_control.proofs.knowing.is_known.Goals as goal

pub returns : goal.returns
returns g c = known_by (g.P.Profile.value c.args.profile.now) c.args.from c.args.end c.is_known_throughout.result c.is_known_throughout.ensures
