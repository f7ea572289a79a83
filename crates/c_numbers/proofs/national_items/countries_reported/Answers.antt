use Rattle.std.proofs.Common.{ℕ, List, ◌++◌, length, replicate, refl, ◌∙◌, ap, arith}
use Rattle.std.proofs.lemmas.Grind.{common_steps}
use Rattle.std.proofs.lemmas.List.{length-replicate, drop-replicate}
use Rattle.c_numbers.proofs.Places.{one_placed, all_placed}
use Rattle.c_numbers.proofs.national_items.countries_reported.Goals as goal

pub loop-i-preserved : goal.loop-i-preserved
loop-i-preserved c =
    one_placed c.args.countries.now (replicate 32 0) c.loop-i.all _ c.loop-i.i _ 0 (omega arith) (omega (arith, length-replicate {A = ℕ} 32 0)) c.loop-i.invariant
    (grind (arith, common_steps)) refl

pub returns : goal.returns
returns c =
    all_placed c.args.countries.now (replicate 32 0) c.loop-i.all c.loop-i.i (omega arith) c.loop-i.invariant
    ∙ ap (λ (l : List ℕ). c.args.countries.now ++ l) (drop-replicate (length c.args.countries.now) 32 0)
