use Rattle.kernel.proofs.Still.{limit_passed}
use Rattle.kernel.proofs.carried.Carried.limit_here.Goals as goal

pub returns-in-Some : goal.returns-in-Some
returns-in-Some g c life s passed =
    limit_passed c.args.supervision.now life c.args.self.now.still c.args.self.now.steady c.in-Some.steady c.in-Some.is passed.0 passed.1 passed.2
