use Rattle.std.proofs.Common.{rules, ◌≡◌, ◌==◌, is_some, List, ap, ◌∙◌}
use Rattle.std.specs.Prelude.{position}
use Rattle.request_disk.specs.declared.known.Known.{Known}
use Rattle.request_disk.specs.Known.{numbers_of, has_number}
use Rattle.request_disk.proofs.Holding.{has_turned}
use Rattle.request_disk.proofs.known.KnownSectors.has.Goals as goal

pub returns : goal.returns
returns c =
    let found : c.is_some.result ≡ is_some (position (λ k. k.sector == c.args.sector) c.self.inside.entries.items) = search rules in
    found ∙ has_turned c.args.sector c.self.inside.oldest c.self.inside.entries.items
    ∙ ap (λ (known : List Known). has_number c.args.sector (numbers_of known)) c.self.view_is
