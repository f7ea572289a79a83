-- One place that fails the test of all places.
use Rattle.std.proofs.Common.{◌≡◌, ℕ, zero, suc, ◌<◌, Bool, false, ◌⊎◌, inl, inr, ap, sym, ◌∙◌, arith}
use Rattle.std.specs.Prelude.{◌&&◌}
use Rattle.std.proofs.Math.Bool.{and-false}
use Rattle.balise_groups.specs.Closing.{all_below}

same_or_less : (k n : ℕ) → k < suc n → (k ≡ n) ⊎ (k < n)
same_or_less k n h = grind arith

pub one_fails : (n : ℕ) (test : ℕ → Bool) (k : ℕ) → k < n → test k ≡ false → all_below n test ≡ false
one_fails zero test k h e = absurd (omega arith)
one_fails (suc n) test k h e =
    elim (same_or_less k n h) [
      | inl same ↦ ap (λ b. all_below n test && b) (sym (ap test same) ∙ e) ∙ and-false (all_below n test)
      | inr less ↦ ap (λ b. b && test n) (one_fails n test k less e)
    ]
