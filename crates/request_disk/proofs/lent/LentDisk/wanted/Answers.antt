use Rattle.std.proofs.Common.{sym, subst}
use Rattle.request_disk.specs.Lent.{Lent, DescribesMissing, WantsMissing}
use Rattle.request_disk.proofs.Missing.{missing_there}
use Rattle.request_disk.proofs.lent.LentDisk.wanted.Goals as goal

pub returns-clause-missing : goal.returns-clause-missing
returns-clause-missing c = λ disk first count counted quiet.
    let its : WantsMissing disk first count c.args.self.now.wanted = missing_there disk first count c.args.self.now (subst DescribesMissing c.self.view_is c.self.invariant) counted quiet in
    subst (λ (r : Lent). WantsMissing disk first count r.wanted) (sym c.self.view_is) its
