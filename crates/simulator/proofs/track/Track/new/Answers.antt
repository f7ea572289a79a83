use Rattle.std.proofs.Common.{rules, of_calls}
use Rattle.std.proofs.Math.Path.{fun_ext}
use Rattle.std.proofs.lemmas.Fn.{always_returns_same}
use Rattle.std.proofs.lemmas.List.Sorted.{IsNonDecreasingBy-from_sort_by_key}
use Rattle.simulator.proofs.Passing.{passed-same}
use Rattle.simulator.proofs.track.Track.new.Goals as goal

pub invariant_of-result : goal.invariant_of-result
invariant_of-result c = record { rises = IsNonDecreasingBy-from_sort_by_key (λ b. b.at) _ c.in_ok-sort_by_key.ensures.sorted (λ a r q k. search rules) }

pub returns : goal.returns
returns c =
    let stable = c.sort_by_key.ensures.stable (λ b. b.at) (always_returns_same _ _ _ (λ a r f k. search (rules, of_calls))) in
    fun_ext (λ from. fun_ext (λ n. passed-same c.args.balises.items c.sort_by_key.new.self.items stable from n))
