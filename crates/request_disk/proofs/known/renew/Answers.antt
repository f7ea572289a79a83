use Rattle.std.proofs.Common.{get_or, set, ◌∙◌, ap, arith}
use Rattle.std.proofs.lemmas.List.{get_or_default}
use Rattle.std.proofs.lemmas.List.Edits.{map_over_more}
use Rattle.request_disk.specs.declared.known.Known.{Known}
use Rattle.request_disk.specs.Known.{renewed}
use Rattle.request_disk.proofs.known.renew.Goals as goal

pub loop-i-preserved : goal.loop-i-preserved
loop-i-preserved c =
    let ys = c.loop-i.known in let i = c.loop-i.i in
    ap (λ (k : Known). set ys i k) c.renew_one.ensures
    ∙ map_over_more (renewed c.args.written.now c.args.requests.now) c.args.known.now ys i (get_or ys i _) c.loop-i-test.true c.loop-i.invariant (get_or_default ys i _ _ (omega arith))
