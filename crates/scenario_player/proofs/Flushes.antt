-- The flushes among steps.
use Rattle.std.proofs.Common.{◌≡◌, ℕ, ◌+◌, ◌<◌, List, [], ◌∷◌, ◌++◌, length, take, get_or, ◌∙◌, ap, arith}
use Rattle.std.proofs.lemmas.List.{take_more}
use Rattle.events.specs.declared.step.Step.{Step}
use Rattle.events.specs.declared.step.Step.TheVariants.{Accept, Flush}
use Rattle.scenario_player.specs.Calls.{flushes_in}

flushes_push : (steps : List Step) (x : Step) → flushes_in (steps ++ x ∷ []) ≡ flushes_in steps + flushes_in (x ∷ [])
flushes_push [] x = omega arith
flushes_push (Accept input ∷ steps) x = flushes_push steps x
flushes_push (Flush ∷ steps) x = let more = flushes_push steps x in omega (arith, more)

-- one step more
pub flushes_more : (steps : List Step) (k : ℕ) (x d : Step) → k < length steps → get_or steps k d ≡ x → flushes_in (take (k + 1) steps) ≡ flushes_in (take k steps) + flushes_in (x ∷ [])
flushes_more steps k x d below is =
    ap flushes_in (take_more steps k d below ∙ ap (λ (y : Step). take k steps ++ y ∷ []) is) ∙ flushes_push (take k steps) x
