use Rattle.safety_laws.proofs.ByAuthority.{runs_by_end}
use Rattle.safety_laws.proofs.running.runs_by_authority.Goals as goal

pub returns : goal.returns
returns c events runs = runs_by_end events runs
