use Rattle.std.proofs.Common.{◌≡◌, take}
use Rattle.request_disk.specs.Requests.{found_in}
use Rattle.request_disk.proofs.requests.found.Given as goal

abbrev pub invariant-loop-request : goal.invariant-loop-request
invariant-loop-request l = l.at ≡ found_in l.sector (take l.request-index l.requests)
