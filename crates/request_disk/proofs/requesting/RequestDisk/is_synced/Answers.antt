use Rattle.std.proofs.Common.{◌≡◌, sym, ◌∙◌, arith}
use Rattle.std.proofs.lemmas.Grind.{common_steps}
use Rattle.request_disk.specs.Requests.{ends_in_sync}
use Rattle.request_disk.proofs.Shut.{shut_now}
use Rattle.request_disk.proofs.requesting.RequestDisk.is_synced.Goals as goal

pub returns-clause-synced : goal.returns-clause-synced
returns-clause-synced c = λ yes s.
    let last : c.loop-request.synced ≡ ends_in_sync c.args.self.now.requests = grind (arith, common_steps) in
    shut_now s c.args.self.now.requests (sym last ∙ yes)
