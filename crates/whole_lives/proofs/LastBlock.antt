-- The newest block of a disk.
use Rattle.std.proofs.Common.{◌≡◌, ℕ, ◌+◌, ◌<◌, Bool, true, false, List, [], ◌∷◌, ◌++◌, length, take, get_or, refl, sym, ◌∙◌, ap, subst, arith, length-append}
use Rattle.std.specs.Prelude.{◌==◌, if◌then◌else◌}
use Rattle.std.proofs.lemmas.Bool.Decides.{nat_tests}
use Rattle.events.specs.declared.input.Event.{Event}
use Rattle.events.specs.declared.step.Step.{Step}
use Rattle.events.specs.declared.step.Step.TheVariants.{Flush}
use Rattle.unit_start.specs.Events.{records_of, IsAhead}
use Rattle.whole_lives.specs.Runs.{accept_one, accepted_by, flush_one, flushed_by, durable_by}
use Rattle.unit_start.specs.UnitState.{LifeState}
use Rattle.unit_start.specs.Written.{HasNewest}
use Rattle.whole_lives.specs.Written.{IsLastWritten, earlier_one, earlier_by}
use Rattle.unit_start.proofs.Lists.{length_records}
use Rattle.whole_lives.proofs.Onward.{one_taken, flushed_push}
use Rattle.onboard.proofs.Pending.{none_pending}

-- ---- one step

module _ (earlier durable accepted : List Event) (life : LifeState) (ahead : IsAhead durable accepted life) where
  longer_by : length accepted ≡ length durable + length life.records
  longer_by = sym (length_records accepted) ∙ ap length ahead.records_are ∙ length-append (records_of durable) life.records ∙ ap (λ (n : ℕ). n + length life.records) (length_records durable)

  -- nothing was pending, and nothing changed
  pub still_last : (sectors : ℕ) (image : ℕ → List ℕ) → length life.records ≡ 0 → IsLastWritten sectors earlier durable image → IsLastWritten sectors (earlier_one earlier durable accepted Flush) accepted image
  still_last sectors image none last =
      let same : durable ≡ accepted = none_pending durable accepted life ahead none in
      let sum : length accepted ≡ length durable + length life.records = longer_by in
      let test : (length accepted == length durable) ≡ true = grind (arith, nat_tests, sum, none) in
      let E : Bool → Type 0 = λ b. IsLastWritten sectors (if b then earlier else durable) accepted image in
      let L : List Event → Type 0 = λ l. IsLastWritten sectors earlier l image in
      subst E (sym test) (subst L same last)

  -- what was pending came into a block
  pub next_last : (sectors : ℕ) (image : ℕ → List ℕ) → 0 < length life.records → HasNewest sectors life.records accepted image → IsLastWritten sectors (earlier_one earlier durable accepted Flush) accepted image
  next_last sectors image some has =
      let sum : length accepted ≡ length durable + length life.records = longer_by in
      let test : (length accepted == length durable) ≡ false = grind (arith, nat_tests, sum, some) in
      let E : Bool → Type 0 = λ b. IsLastWritten sectors (if b then earlier else durable) accepted image in
      let its : E false = (life.records, ahead.records_are, has) in
      subst E (sym test) its

-- ---- a run of steps

earlier_push : (earlier durable accepted : List Event) (steps : List Step) (x : Step)
    → earlier_by earlier durable accepted (steps ++ x ∷ []) ≡ earlier_one (earlier_by earlier durable accepted steps) (flushed_by durable accepted steps) (accepted_by accepted steps) x
earlier_push earlier durable accepted [] x = refl
earlier_push earlier durable accepted (step ∷ steps) x = earlier_push (earlier_one earlier durable accepted step) (flush_one durable accepted step) (accept_one accepted step) steps x

pub last_on : (earlier s : List Event) (steps : List Step) (i : ℕ) (x d : Step) (sectors : ℕ) (image : ℕ → List ℕ) → i < length steps → x ≡ get_or steps i d
    → IsLastWritten sectors (earlier_one (earlier_by earlier s s (take i steps)) (durable_by s (take i steps)) (accepted_by s (take i steps)) x) (flush_one (durable_by s (take i steps)) (accepted_by s (take i steps)) x) image
    → IsLastWritten sectors (earlier_by earlier s s (take (i + 1) steps)) (durable_by s (take (i + 1) steps)) image
last_on earlier s steps i x d sectors image below at last =
    let first = take i steps in
    let L : List Event → List Event → Type 0 = λ a b. IsLastWritten sectors a b image in
    let one : L (earlier_by earlier s s (first ++ x ∷ [])) (flush_one (durable_by s first) (accepted_by s first) x) = subst (λ (a : List Event). L a (flush_one (durable_by s first) (accepted_by s first) x)) (sym (earlier_push earlier s s first x)) last in
    let carried_on : L (earlier_by earlier s s (first ++ x ∷ [])) (durable_by s (first ++ x ∷ [])) = subst (λ (b : List Event). L (earlier_by earlier s s (first ++ x ∷ [])) b) (sym (flushed_push s s first x)) one in
    subst (λ (l : List Step). L (earlier_by earlier s s l) (durable_by s l)) (sym (one_taken steps i x d below at)) carried_on
