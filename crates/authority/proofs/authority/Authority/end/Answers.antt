use Rattle.std.proofs.Common.{ap, ◌∙◌}
use Rattle.authority.specs.Entries.{now_of, sights, accepted}
use Rattle.authority.specs.Known.{KnownAuthority}
use Rattle.authority.proofs.Ending.{answer_is}
use Rattle.authority.proofs.authority.Authority.end.Goals as goal

pub returns-in-Some : goal.returns-in-Some
returns-in-Some c entries is =
    let whole = c.self.view_is ∙ is in
    answer_is c.self.inside.stored c.in-Some.stored c.end_now.result c.self.inside.moment (now_of entries) (sights entries) (accepted entries)
    c.in-Some.is (ap (λ (k : KnownAuthority). k.stored) whole) (ap (λ (k : KnownAuthority). k.moment) whole) c.end_now.ensures
