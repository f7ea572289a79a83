use Rattle.std.proofs.Common.{◌≡◌, List, ◌∷◌, ◌+◌, map, drop, sym, ap, ◌∙◌, arith}
use Rattle.std.proofs.lemmas.Int.{ints}
use Rattle.std.proofs.lemmas.List.{at_drop_more}
use Rattle.serde_json.specs.View.{view}
use Rattle.serde_json.specs.declared.value.Value.{Value}
use Rattle.simulator.specs.Values.{◌>>=◌}
use Rattle.simulator.specs.Passing.{passed}
use Rattle.simulator.specs.Course.{run_of, taken}
use Rattle.simulator.specs.Steps.{step_of}
use Rattle.simulator.specs.Lives.{lived}
use Rattle.simulator.proofs.lives.steps_of.Goals as goal

pub loop-item-preserved : goal.loop-item-preserved
loop-item-preserved c =
    let ahead = passed c.args.track.now.balises.items in
    let run = run_of c.loop-item.course in
    let items = c.args.items.now in
    let i = c.loop-item.item-index in
    let item = c.item-item.result in
    let rest = drop (i + 1) items in
    let more : lived ahead (map view (drop i items)) run ≡ (step_of (view item) >>= λ step. lived ahead (map view rest) (taken ahead step run)) =
    at_drop_more (λ (vs : List Value). lived ahead (map view vs) run) items i item c.loop-item-test.true ∙ ap (λ (v : Value). lived ahead (view v ∷ map view rest) run) (sym c.item-item.is) in
    record {
      so_far = sym (rw (c.in_ok-step.ensures.ok, ← c.in_ok-take.ensures.ok) at more) ∙ c.loop-item.invariant.so_far;
      low = omega (arith, ints, c.loop-item.invariant.low, c.in_ok-take.ensures.least);
      high = omega (arith, ints, c.loop-item.invariant.high, c.in_ok-take.ensures.most);
    }
