-- Of the causes that are marked, each one is among them exactly where its mark is set.
use Rattle.std.proofs.Common.{◌≡◌, Bool, true, false, ◌||◌, refl, ap, sym, ◌∙◌, List, [], ◌∷◌}
use Rattle.std.specs.Prelude.{◌&&◌, filter}
use Rattle.std.specs.List.{list_any}
use Rattle.std.proofs.Math.Bool.{and-false, or-false}
use Rattle.kernel.specs.declared.causes.BrakeCause.{BrakeCause}
use Rattle.kernel.specs.declared.causes.BrakeCause.TheVariants as cause
use Rattle.kernel.specs.declared.causes.BrakeCauses.{BrakeCauses}
use Rattle.kernel.specs.Brake.{where_so}
use Rattle.kernel.specs.Causes.{all_causes, is_cause, is_among, mark, marked}

and_true : (b : Bool) → (b && true) ≡ b
and_true true = refl
and_true false = refl

one_more : (test : BrakeCause → Bool) (holds : Bool) (why : BrakeCause) (later : List BrakeCause) →
    list_any test (where_so holds why later) ≡ ((test why && holds) || list_any test later)
one_more test true why later = ap (λ (b : Bool). b || list_any test later) (sym (and_true (test why)))
one_more test false why later = ap (λ (b : Bool). b || list_any test later) (sym (and-false (test why)))

-- a test is met by one of those that hold where it is met by one of all that holds
any_picked : (test holds : BrakeCause → Bool) (causes : List BrakeCause) →
    list_any test (filter holds causes) ≡ list_any (λ why. test why && holds why) causes
any_picked test holds [] = refl
any_picked test holds (why ∷ later) =
    one_more test (holds why) why (filter holds later) ∙ ap (λ (b : Bool). (test why && holds why) || b) (any_picked test holds later)

single : (m : BrakeCauses) (why : BrakeCause) → list_any (λ other. is_cause why other && mark m other) all_causes ≡ mark m why
single m cause.NotRevalidated = or-false (mark m cause.NotRevalidated)
single m other = or-false (mark m other)

pub mark_so : (m : BrakeCauses) (why : BrakeCause) → is_among why (marked m) ≡ mark m why
mark_so m why = any_picked (is_cause why) (mark m) all_causes ∙ single m why
