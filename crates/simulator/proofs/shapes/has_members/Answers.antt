use Rattle.std.proofs.Common.{◌==◌, sym, ap, ◌∙◌}
use Rattle.serde_json.proofs.Views.{members_len-members_view}
use Rattle.simulator.specs.Shapes.{has_count}
use Rattle.simulator.proofs.shapes.has_members.Goals as goal

pub returns-in-Some : goal.returns-in-Some
returns-in-Some c =
    ap (λ n. n == c.args.count) (c.len.ensures.len ∙ sym (members_len-members_view _)) ∙ ap (has_count c.args.count) c.in-Some.ensures
