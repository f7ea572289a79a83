use Rattle.std.proofs.Common.{length}
use Rattle.disk.specs.Record.{IsWithin}
use Rattle.request_disk.proofs.Found.{at_place}
use Rattle.request_disk.proofs.requesting.RequestDisk.request.Goals as goal

pub returns-clause-within : goal.returns-clause-within
returns-clause-within c = λ call is.
    let m = c.args.self.now in
    let so = c.request_at.ensures.some call is in
    at_place (IsWithin m.sectors (length m.written)) m.requests c.args.index call so.0 so.1 c.request_at.ensures.kept.within
