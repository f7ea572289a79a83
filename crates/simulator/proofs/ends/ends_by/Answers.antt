use Rattle.std.proofs.Common.{◌≡◌, ℕ, List, [], ◌∷◌, ◌++◌, ◌+◌, length, map, drop, sym, ap, ◌∙◌, arith}
use Rattle.std.proofs.lemmas.Int.{ints}
use Rattle.std.proofs.lemmas.List.{at_drop_more}
use Rattle.serde_json.specs.View.{view}
use Rattle.serde_json.specs.declared.value.Value.{Value}
use Rattle.simulator.specs.Values.{◌>>=◌}
use Rattle.simulator.specs.Passing.{passed}
use Rattle.simulator.specs.Course.{run_of, taken}
use Rattle.simulator.specs.Steps.{step_of}
use Rattle.simulator.specs.Lives.{ends_by}
use Rattle.simulator.proofs.ends.ends_by.Goals as goal

pub loop-item-preserved : goal.loop-item-preserved
loop-item-preserved c =
    let ahead = passed c.args.track.now.balises.items in
    let run = run_of c.loop-item.course in
    let so_far = c.loop-item.ends.items in
    let items = c.args.items.now in
    let i = c.loop-item.item-index in
    let item = c.item-item.result in
    let rest = drop (i + 1) items in
    let more : ends_by ahead (map view (drop i items)) run so_far
    ≡ (step_of (view item) >>= λ step. ends_by ahead (map view rest) (taken ahead step run) (so_far ++ length (taken ahead step run).steps ∷ [])) =
    at_drop_more (λ (vs : List Value). ends_by ahead (map view vs) run so_far) items i item c.loop-item-test.true ∙ ap (λ (v : Value). ends_by ahead (view v ∷ map view rest) run so_far) (sym c.item-item.is) in
    let steps = c.take.new.self.steps in
    let noted : c.push.new.self.items ≡ so_far ++ length steps.items ∷ [] = c.in_ok-push.ensures.items ∙ ap (λ (n : ℕ). so_far ++ n ∷ []) (c.len.ensures ∙ steps.ok.0) in
    record {
      so_far =
          ap (λ (ends : List ℕ). ends_by ahead (map view rest) (run_of c.take.new.self) ends) noted
          ∙ sym (rw (c.in_ok-step.ensures.ok, ← c.in_ok-take.ensures.ok) at more) ∙ c.loop-item.invariant.so_far;
      low = omega (arith, ints, c.loop-item.invariant.low, c.in_ok-take.ensures.least);
      high = omega (arith, ints, c.loop-item.invariant.high, c.in_ok-take.ensures.most);
    }
