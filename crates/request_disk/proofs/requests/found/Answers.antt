use Rattle.std.proofs.Common.{ℕ, ◌+◌, ◌≤◌, Option, sym, subst, take}
use Rattle.std.specs.Prelude.{IfSome}
use Rattle.std.proofs.lemmas.List.Elements.{All-take}
use Rattle.disk.specs.Record.{IsWithin}
use Rattle.request_disk.proofs.Found.{found_there}
use Rattle.request_disk.proofs.requests.found.Goals as goal

pub returns-clause-there : goal.returns-clause-there
returns-clause-there c =
    let P : Option ℕ → Type 0 = λ o. IfSome o (λ at. at + 512 ≤ c.args.written) in
    subst P (sym c.loop-request.invariant)
    (found_there c.args.sectors c.args.written c.args.sector (take c.loop-request.request-index c.args.requests.now)
    (All-take (IsWithin c.args.sectors c.args.written) c.loop-request.request-index c.args.requests.now c.requires))
