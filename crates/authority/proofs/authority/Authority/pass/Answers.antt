use Rattle.std.proofs.Common.{ap, ◌∙◌}
use Rattle.authority.specs.Entries.{Sight, now_of, sights, accepted}
use Rattle.authority.specs.Known.{KnownAuthority}
use Rattle.authority.proofs.Passing.{passed_is, none_passed}
use Rattle.authority.proofs.authority.Authority.pass.Goals as goal
use Rattle.authority.proofs.authority.Authority.pass.Goals.{in-Some, in_default}

pub returns : goal.returns
returns c entries is =
    let whole = c.self.view_is ∙ is in
    let moment = ap (λ (k : KnownAuthority). k.moment) whole in
    let stored = ap (λ (k : KnownAuthority). k.stored) whole in
    let sight : Sight = record { moment = now_of entries; train = c.args.train.now } in
    elim c.match-self.branch [
      | in-Some w ↦
          let after = passed_is w.in-Some.stored w.pass.new.self c.self.inside.stored c.self.inside.moment sight (accepted entries) (sights entries)
          w.in-Some.is stored w.pass.ensures moment in
          rw w.self-inside-is (λ i. record { moment = moment i; stored = after i })
      | in_default w ↦
          let after = none_passed c.self.inside.stored sight (accepted entries) (sights entries) w.in_default.is stored in
          rw w.self-inside-is (λ i. record { moment = moment i; stored = after i })
    ]
