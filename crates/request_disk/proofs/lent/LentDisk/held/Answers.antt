use Rattle.std.proofs.Common.{◌∙◌, sym, ap}
use Rattle.request_disk.specs.Lent.{Lent}
use Rattle.request_disk.specs.Requesting.{knows}
use Rattle.request_disk.proofs.Missing.{unlent}
use Rattle.request_disk.proofs.lent.LentDisk.held.Goals as goal

pub returns-else-lends-clause-bytes : goal.returns-else-lends-clause-bytes
returns-else-lends-clause-bytes c =
    let w = c.args.self.now in
    let unknown = sym (ap (λ (r : Lent). knows c.args.sector r.disk) c.self.view_is) ∙ sym c.in-None.ensures.known in
    unlent w.disk w.first w.count c.args.sector (sym c.lends.ensures ∙ c.if-lends.false) unknown
