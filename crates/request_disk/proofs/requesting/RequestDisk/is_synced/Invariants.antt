use Rattle.std.proofs.Common.{◌≡◌, take}
use Rattle.request_disk.specs.Requests.{ends_in_sync}
use Rattle.request_disk.proofs.requesting.RequestDisk.is_synced.Given as goal

abbrev pub invariant-loop-request : goal.invariant-loop-request
invariant-loop-request l = l.synced ≡ ends_in_sync (take l.request-index l.self.requests)
