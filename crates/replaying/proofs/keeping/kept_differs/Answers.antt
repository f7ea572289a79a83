use Rattle.std.proofs.Common.{rules}
use Rattle.replaying.proofs.Later.{entered_later, by_found}
use Rattle.replaying.proofs.keeping.kept_differs.Goals as goal

pub returns-in-Some : goal.returns-in-Some
returns-in-Some c = entered_later c.in-Some.field c.args.reported.now c.args.kept.now (search rules) (search rules)

pub returns : goal.returns
returns c = by_found c.args.reported.now c.args.kept.now c.found_differs.result (search rules) (search rules) c.found_differs.ensures
