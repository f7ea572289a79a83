use Rattle.std.proofs.Common.{ℕ, List, sym, ◌∙◌, ap}
use Rattle.request_disk.specs.Requesting.{with_sector}
use Rattle.relayed_unit.specs.Openings.{Opening}
use Rattle.unit_calls.proofs.Taking.{takes}
use Rattle.unit_calls.proofs.sectors.provide_opening.Goals as goal

pub returns-then-provide : goal.returns-then-provide
returns-then-provide c =
    let before : Opening = c.args.opening.now in
    let chunk = c.in-Ok.ensures.1 in
    takes c.args.sector c.args.bytes.now before c.provide.new.self chunk.long (sym c.provide.ensures.reported ∙ c.if-provide.true) (record {
      exact = c.provide.ensures.exact c.if-provide.true
          ∙ ap (λ (bytes : List ℕ). record before { disk = with_sector c.args.sector bytes before.disk }) chunk.same;
      known = c.provide.ensures.known c.if-provide.true;
      nearer = c.provide.ensures.nearer;
      going = λ medium going is. c.provide.ensures.going medium going (chunk.same ∙ is);
    })
