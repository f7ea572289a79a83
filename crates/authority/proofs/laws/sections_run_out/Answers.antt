use Rattle.authority.proofs.RunningOut.{run_out_so}
use Rattle.authority.proofs.laws.sections_run_out.Goals as goal

pub returns : goal.returns
returns c = run_out_so
