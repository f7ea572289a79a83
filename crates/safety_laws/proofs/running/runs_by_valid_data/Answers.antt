use Rattle.safety_laws.proofs.ByData.{runs_by_data}
use Rattle.safety_laws.proofs.running.runs_by_valid_data.Goals as goal

pub returns : goal.returns
returns c events runs = runs_by_data events runs
