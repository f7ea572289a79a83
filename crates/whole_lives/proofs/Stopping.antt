-- Where the steps of a life stop.
use Rattle.std.proofs.Common.{◌≡◌, ◌≢◌, inr, ⊎_elim, ℕ, ℤ, ◌+◌, ◌%◌, ◌^◌, ◌≤◌, ◌<◌, Bool, false, List, [], ◌∷◌, ◌++◌, length, take, drop, get_or, Option, Some, None, Result, Ok, Err, append_assoc, refl, sym, ◌∙◌, ap, subst, arith}
use Rattle.std.specs.Prelude.{if◌then◌else◌, fold, IsTrue, IsOk, IfErr, MatchOption}
use Rattle.std.proofs.lemmas.List.{take_more, take-append-drop, length-take-le}
use Rattle.std.proofs.lemmas.List.Sums.{fold_push}
use Rattle.std.proofs.lemmas.Bool.{cases_lt}
use Rattle.disk.specs.State.{State, Counted}
use Rattle.events.specs.declared.input.Input.{Input}
use Rattle.events.specs.declared.input.Input.TheVariants.{Telegram, Odometer, Clock, Driver}
use Rattle.kernel.specs.StandsFor.{Knowledge}
use Rattle.speed_profile.specs.declared.reported.CategorySpeeds.{CategorySpeeds}
use Rattle.track_store.specs.Segments.{Segmented}
use Rattle.events.specs.declared.step.Step.{Step}
use Rattle.events.specs.declared.step.Step.TheVariants.{Accept, Flush}
use Rattle.onboard.specs.declared.errors.AcceptError.{AcceptError}
use Rattle.onboard.specs.declared.errors.AcceptError.TheVariants.{NoMemory}
use Rattle.onboard.specs.declared.errors.FlushError.{FlushError}
use Rattle.onboard.specs.declared.errors.FlushError.TheVariants.{DeviceFault}
use Rattle.whole_lives.specs.declared.errors.LiveError.{LiveError}
use Rattle.whole_lives.specs.declared.errors.LiveError.TheVariants as a_live
use Rattle.events.specs.declared.input.Event.{Event}
use Rattle.unit_start.specs.declared.errors.OpenError.{OpenError}
use Rattle.unit_start.specs.UnitState.{LifeState}
use Rattle.journal.specs.JournalState.{JournalState}
use Rattle.onboard.specs.Answers.{refusal_of, may_add, HasSpace, SpaceForOthers, flush_refusal, flush_failed}
use Rattle.onboard.specs.declared.released.Released.{Released}
use Rattle.whole_lives.specs.Runs.{NothingReleased}
use Rattle.onboard.specs.Progress.{Progress, progress_of, starting_with, go_on}
use Rattle.whole_lives.specs.Stops.{Stands, AllStand, StopsAt, Stopped, step_of, AreAfter, IsDone}

-- ---- space in memory

pub space_for_others : SpaceForOthers
space_for_others known (Telegram bytes) none = absurd cc
space_for_others known (Odometer reading) none = absurd cc
space_for_others known (Clock moment) none = omega arith
space_for_others known (Driver action) none = omega arith

-- ---- what a call answers, where its refusals come exactly for their causes

-- it answered Ok: there was no cause
pub no_cause : {X E : Type 0} (o : Option E) (r : Result X E) (x : X) (P : E → Type 0) → r ≡ Ok x → MatchOption o (IfErr r P) (λ e. r ≡ Err e) → o ≡ None
no_cause {X} {E} None r x P is exact = refl
no_cause {X} {E} (Some e) r x P is exact = (let R : Result X E → Type 0 = λ y. y ≡ Err e in absurd (let clash = subst R is exact in cc))

-- it answered an error: that of the cause
pub its_cause : {X E T : Type 0} (o : Option E) (r : Result X E) (error : E) (P : E → Type 0) (named : E → T) → r ≡ Err error → MatchOption o (IfErr r P) (λ e. r ≡ Err e)
    → MatchOption o (P error) (λ e. named error ≡ named e)
its_cause {X} {E} {T} None r error P named is exact = (let I : Result X E → Type 0 = λ x. IfErr x P in subst I is exact)
its_cause {X} {E} {T} (Some e) r error P named is exact =
    let R : Result X E → Type 0 = λ x. x ≡ Err e in
    let same : error ≡ e = (let error_there = subst R is exact in cc) in
    ap named same

for_other : {T : Type 0} (o : Option T) (P Q : Type 0) (R : T → Type 0) → (P → Q) → MatchOption o P R → MatchOption o Q R
for_other None P Q R so is = so is
for_other (Some x) P Q R so is = is

-- an input that wanted memory may add to what is stored
wanted : (known : Knowledge (Segmented ℤ) (Segmented CategorySpeeds)) (input : Input) (r : Result (Unit {0}) AcceptError) (error : AcceptError) → r ≡ Err error → (HasSpace known input → IsOk r) → IsTrue (may_add input)
wanted known (Telegram bytes) r error is quiet = refl
wanted known (Odometer reading) r error is quiet = refl
wanted known (Clock moment) r error is quiet = (let R : Result (Unit {0}) AcceptError → Type 0 = λ x. IsOk x in subst R is (quiet (space_for_others known (Clock moment) refl)))
wanted known (Driver action) r error is quiet = (let R : Result (Unit {0}) AcceptError → Type 0 = λ x. IsOk x in subst R is (quiet (space_for_others known (Driver action) refl)))

with_space : (o : Option AcceptError) (P Q : Type 0) (R : AcceptError → Type 0) → (o ≡ None → P) → MatchOption o Q R → MatchOption o (P × Q) R
with_space None P Q R so is = (so refl, is)
with_space (Some e) P Q R so is = is

pub accept_stops : (so : Progress) (known : Knowledge (Segmented ℤ) (Segmented CategorySpeeds)) (k : ℕ) (input : Input) (r : Result (Unit {0}) AcceptError) (error : AcceptError) → r ≡ Err error
    → MatchOption (refusal_of so.failed so.pending so.moment input) (IfErr r (λ e. e ≡ NoMemory)) (λ e. r ≡ Err e)
    → (refusal_of so.failed so.pending so.moment input ≡ None → HasSpace known input → IsOk r) → StopsAt so k (Accept input) (a_live.Accept k error)
accept_stops so known k input r error is exact quiet =
    let o = refusal_of so.failed so.pending so.moment input in
    with_space o (IsTrue (may_add input)) (a_live.Accept k error ≡ a_live.Accept k NoMemory) (λ e. a_live.Accept k error ≡ a_live.Accept k e)
    (λ none. wanted known input r error is (quiet none))
    (for_other o (error ≡ NoMemory) (a_live.Accept k error ≡ a_live.Accept k NoMemory) (λ e. a_live.Accept k error ≡ a_live.Accept k e)
    (ap (λ (e : AcceptError). a_live.Accept k e)) (its_cause o r error (λ e. e ≡ NoMemory) (λ (e : AcceptError). a_live.Accept k e) is exact))

-- a flush with nothing pending met no fault
only_pending : {X D : Type 0} (r : Result X FlushError) (state : D → State) (old new : D) (pending : ℕ) → r ≡ Err DeviceFault
    → Counted (flush_failed r) (state old) (state new) → (pending ≡ 0 → new ≡ old) → 0 < pending
only_pending {X} {D} r state old new pending is counted nothing = ⊎_elim
    (λ (lt : 0 < pending). lt)
    (λ (ge : pending ≤ 0).
    let same = ap (λ (d : D). (state d).faults) (nothing (omega (arith, ge))) in
    let F : Bool → Type 0 = λ b. (state new).faults ≡ (if b then ((state old).faults + 1) % 2 ^ 64 else (state old).faults) in
    let more : (state new).faults ≡ ((state old).faults + 1) % 2 ^ 64 = subst F (ap flush_failed is) counted.faults in
    absurd (omega (arith, same, more)))
    (cases_lt 0 pending)

pub flush_stops : {X D : Type 0} (so : Progress) (k : ℕ) (r : Result X FlushError) (error : FlushError) (state : D → State) (old new : D) → r ≡ Err error
    → MatchOption (flush_refusal so.failed so.pending so.newest) (IfErr r (λ e. e ≡ DeviceFault)) (λ e. r ≡ Err e)
    → Counted (flush_failed r) (state old) (state new) → (so.pending ≡ 0 → new ≡ old) → StopsAt so k Flush (a_live.Flush k error)
flush_stops {X} {D} so k r error state old new is exact counted nothing =
    let o = flush_refusal so.failed so.pending so.newest in
    inr (for_other o (error ≡ DeviceFault) ((0 < so.pending) × (a_live.Flush k error ≡ a_live.Flush k DeviceFault)) (λ e. a_live.Flush k error ≡ a_live.Flush k e)
    (λ same. (only_pending r state old new so.pending (is ∙ ap (λ (e : FlushError). Err e) same) counted nothing, ap (λ (e : FlushError). a_live.Flush k e) same))
    (its_cause o r error (λ e. e ≡ DeviceFault) (λ (e : FlushError). a_live.Flush k e) is exact))

-- ---- a run of steps

stand_push : (so : Progress) (steps : List Step) (x : Step) → AllStand so steps → Stands (fold go_on so steps) x → AllStand so (steps ++ x ∷ [])
stand_push so [] x all last_stands = (last_stands, tt)
stand_push so (step ∷ steps) x all last_stands = (all.0, stand_push (go_on so step) steps x all.1 last_stands)

module _ (from so : Progress) (steps : List Step) (k : ℕ) (below : k < length steps) (x d : Step) (at : x ≡ get_or steps k d) (stood : AllStand from (take k steps)) (so_is : so ≡ fold go_on from (take k steps)) where
  one_taken : take (k + 1) steps ≡ take k steps ++ x ∷ []
  one_taken = take_more steps k d below ∙ ap (λ (y : Step). take k steps ++ y ∷ []) (sym at)

  -- one step more was carried out
  pub stood_on : (new : Progress) → Stands so x → new ≡ go_on so x → AllStand from (take (k + 1) steps) × (new ≡ fold go_on from (take (k + 1) steps))
  stood_on new stands is =
      let A : List Step → Type 0 = λ l. AllStand from l in
      let S : Progress → Type 0 = λ p. Stands p x in (
        subst A (sym one_taken) (stand_push from (take k steps) x stood (subst S so_is stands)),
        is ∙ ap (λ (p : Progress). go_on p x) so_is ∙ sym (fold_push go_on from (take k steps) x) ∙ ap (λ (l : List Step). fold go_on from l) (sym one_taken),
      )

  -- this one wasn't
  pub stopped_here : (e : LiveError) → StopsAt so k x e → Stopped from steps e
  stopped_here e stops =
      let P : Progress → Type 0 = λ p. StopsAt p k x e in
      let K : ℕ → Type 0 = λ n. StopsAt (fold go_on from (take k steps)) n x e in
      record {
        first = take k steps;
        step = x;
        rest = drop (k + 1) steps;
        steps_are = sym (take-append-drop (k + 1) steps) ∙ ap (λ (l : List Step). l ++ drop (k + 1) steps) one_taken ∙ append_assoc (take k steps) (x ∷ []) (drop (k + 1) steps);
        stood = stood;
        cause = subst K (sym (length-take-le k steps (omega (arith, below)))) (subst P so_is stops);
      }

-- ---- what was carried out

pub done_before : (s : List Event) (steps : List Step) (k : ℕ) (e : LiveError) (taken : ℕ) (before after : List Event) (given : List Released) → step_of e ≡ Some k → taken ≡ k → AreAfter s (take k steps) before after given
    → MatchOption (step_of e) (NothingReleased given × ⊥) (λ n. (taken ≡ n) × AreAfter s (take n steps) before after given)
done_before s steps k e taken before after given named all following =
    let M : Option ℕ → Type 0 = λ o. MatchOption o (NothingReleased given × ⊥) (λ n. (taken ≡ n) × AreAfter s (take n steps) before after given) in
    subst M (sym named) (all, following)

opened_by : (o : Option ℕ) (U : Type 0) (P : ℕ → Type 0) (given : List Released) → MatchOption o (NothingReleased given × ⊥) P → MatchOption o (NothingReleased given × U) P
opened_by None U P given is = (is.0, absurd is.1)
opened_by (Some k) U P given is = is

-- what was opened is done, whatever is so of what was not
pub done_opened : {T : Type 0} (s : List Event) (steps : List Step) (U : Type 0) (ended : Result T LiveError) (taken : ℕ) (before after : List Event) (given : List Released)
    → IsDone s steps ⊥ ended taken before after given → IsDone s steps U ended taken before after given
done_opened {T} s steps U (Ok x) taken before after given is = is
done_opened {T} s steps U (Err e) taken before after given is = opened_by (step_of e) U (λ k. (taken ≡ k) × AreAfter s (take k steps) before after given) given is

pub same_done : {T : Type 0} (s : List Event) (steps : List Step) (U : Type 0) (ended : Result T LiveError) (n n' : ℕ) (b b' a a' : List Event) (given given' : List Released) → n' ≡ n → b' ≡ b → a' ≡ a → given' ≡ given
    → IsDone s steps U ended n b a given → IsDone s steps U ended n' b' a' given'
same_done {T} s steps U ended n n' b b' a a' given given' taken before after given_is is =
    let N : ℕ → Type 0 = λ m. IsDone s steps U ended m b a given in
    let B : List Event → Type 0 = λ l. IsDone s steps U ended n' l a given in
    let A : List Event → Type 0 = λ l. IsDone s steps U ended n' b' l given in
    let G : List Released → Type 0 = λ l. IsDone s steps U ended n' b' a' l in
    subst G (sym given_is) (subst A (sym after) (subst B (sym before) (subst N (sym taken) is)))

-- an error that names a step isn't that of an opening
pub not_opening : (r : Result (Unit {0}) LiveError) (e : OpenError) → IfErr r (λ error. step_of error ≢ None) → r ≢ Err (a_live.Open e)
not_opening r e named is = (let R : Result (Unit {0}) LiveError → Type 0 = λ x. IfErr x (λ error. step_of error ≢ None) in subst R is named refl)

-- ---- how far other calls go on

pub begins : (journal : JournalState) (life : LifeState) → life.records ≡ [] → life.moment ≡ 0 → journal.failed ≡ false → progress_of journal life ≡ starting_with journal.newest
begins journal life records moment failed = λ i. record { failed = failed i; pending = length (records i); moment = moment i; newest = journal.newest }
