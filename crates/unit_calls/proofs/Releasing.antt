-- A release, by its cause.
use Rattle.std.proofs.Common.{◌≡◌, ◌<◌, ◌≤◌, Bool, true, false, length, Option, Some, None, Result, Ok, Err, refl, sym, subst, arith}
use Rattle.std.specs.Prelude.{nat_lt, IsOk, MatchOption}
use Rattle.std.proofs.lemmas.Bool.{false≢true}
use Rattle.std.proofs.lemmas.Bool.Decides.{nat_tests}
use Rattle.events.specs.Limits.{most_pending}
use Rattle.relayed_unit.specs.Relayed.{release_refusal}
use Rattle.relayed_unit.specs.declared.errors.ReleaseError.{ReleaseError}
use Rattle.unit_calls.specs.Handles.{Handing, HandsNothing, HandsAll, Releases}
use Rattle.unit_calls.specs.Requests.{IfElse}
use Rattle.unit_calls.specs.Statuses.{of_release}
use Rattle.unit_calls.specs.declared.handle.Opened.{Opened}
use Rattle.unit_calls.specs.declared.status.Status.TheVariants as a_status

-- it was done, so it had no cause to be refused
pub no_cause : {T E : Type 0} (o : Option E) (r : Result T E) (x : T) → r ≡ Ok x → MatchOption o (IsOk r) (λ e. r ≡ Err e) → o ≡ None
no_cause None r x is its = refl
no_cause (Some e) r x is its = absurd cc

-- it was refused for its cause
pub its_cause : {T E : Type 0} (o : Option E) (r : Result T E) (e : E) → r ≡ Err e → MatchOption o (IsOk r) (λ e. r ≡ Err e) → o ≡ Some e
its_cause {T} {E} None r e is its = absurd (false≢true (subst (λ (a : Result T E). IsOk a) is its))
its_cause (Some other) r e is its = cc

module _ (before after : Opened) (h : Handing) where
  pub small : length h.places < most_pending → HandsNothing a_status.NoRoom before after h → Releases before after h
  small less its =
      let test : nat_lt (length h.places) most_pending ≡ true = grind (arith, nat_tests) in
      subst (λ (b : Bool). IfElse b (HandsNothing a_status.NoRoom before after h) (MatchOption (release_refusal before.unit) (HandsAll before after h) (λ e. HandsNothing (of_release e) before after h)))
      (sym test) its

  enough : most_pending ≤ length h.places → MatchOption (release_refusal before.unit) (HandsAll before after h) (λ e. HandsNothing (of_release e) before after h) → Releases before after h
  enough most its =
      let test : nat_lt (length h.places) most_pending ≡ false = grind (arith, nat_tests) in
      subst (λ (b : Bool). IfElse b (HandsNothing a_status.NoRoom before after h) (MatchOption (release_refusal before.unit) (HandsAll before after h) (λ e. HandsNothing (of_release e) before after h)))
      (sym test) its

  pub refused : most_pending ≤ length h.places → (e : ReleaseError) → release_refusal before.unit ≡ Some e → HandsNothing (of_release e) before after h → Releases before after h
  refused most e is its = enough most (subst (λ (o : Option ReleaseError). MatchOption o (HandsAll before after h) (λ e. HandsNothing (of_release e) before after h)) (sym is) its)

  pub released : most_pending ≤ length h.places → release_refusal before.unit ≡ None → HandsAll before after h → Releases before after h
  released most is its = enough most (subst (λ (o : Option ReleaseError). MatchOption o (HandsAll before after h) (λ e. HandsNothing (of_release e) before after h)) (sym is) its)
