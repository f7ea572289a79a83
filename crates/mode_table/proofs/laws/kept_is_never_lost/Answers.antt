use Rattle.mode_table.proofs.Lasting.{these_are_kept, never_lost}
use Rattle.mode_table.proofs.laws.kept_is_never_lost.Goals as goal

pub returns-clause-which : goal.returns-clause-which
returns-clause-which c = these_are_kept

pub returns-clause-always : goal.returns-clause-always
returns-clause-always c = never_lost
