-- A unit along with its caller's medium, and what calls leave of it.
use Rattle.std.proofs.Common.{◌≡◌, ℕ, ◌≤◌, Bool, true, false, List, ◌∷◌, ◌++◌, length, map, take, drop, Option, Some, None, Result, Ok, Err, refl, sym, ◌∙◌, ap, subst, arith}
use Rattle.std.specs.Prelude.{option_map, nat_lt, if◌then◌else◌, IsOk, MatchOption, ⊤}
use Rattle.std.proofs.lemmas.Bool.Decides.{nat_tests}
use Rattle.std.proofs.lemmas.List.{length-map}
use Rattle.std.proofs.Math.Seq.{take-append_seam}
use Rattle.disk.specs.State.{Platter}
use Rattle.events.specs.Limits.{most_pending}
use Rattle.events.specs.declared.input.Event.TheVariants.{Input as an_input}
use Rattle.events.specs.declared.input.Input.{Input}
use Rattle.request_disk.specs.Requests.{ends_in_sync}
use Rattle.request_disk.specs.Requesting.{Requesting, request_state}
use Rattle.onboard.specs.Answers.{flush_refusal}
use Rattle.unit_start.specs.Events.{IsAhead}
use Rattle.unit_start.specs.Releases.{Release}
use Rattle.unit_start.specs.UnitState.{PartsState}
use Rattle.onboard.specs.declared.errors.AcceptError.{AcceptError}
use Rattle.relayed_unit.specs.Relayed.{Relayed, refused_as, list_of, requests_of, release_refusal, wants_gate, IsLeftBy}
use Rattle.relayed_unit.specs.declared.errors.PrepareError.{PrepareError}
use Rattle.relayed_unit.specs.declared.errors.PrepareError.TheVariants as a_prepare
use Rattle.relayed_unit.specs.declared.errors.ReleaseError.{ReleaseError}
use Rattle.relayed_unit.specs.declared.errors.ReleaseError.TheVariants as a_release
use Rattle.relayed_unit.specs.declared.moored.Moored.{Moored}
use Rattle.unit_calls.specs.Handles.{Accepts, IsPrepared, Says, Fails, Handing, HandsNothing, HandsAll, Releases}
use Rattle.unit_calls.specs.Histories.{AreOnMedium}
use Rattle.unit_calls.specs.Outputs.{description_of, AreHanded}
use Rattle.unit_calls.specs.Requests.{IfElse}
use Rattle.unit_calls.specs.Sectors.{is_sector_of, IsProvided, Provides}
use Rattle.unit_calls.specs.Statuses.{is_done, of_release}
use Rattle.unit_calls.specs.declared.handle.Opened.{Opened}
use Rattle.unit_calls.specs.declared.outputs.EtcsOutput.{EtcsOutput}
use Rattle.unit_calls.specs.declared.status.Status.{Status}
use Rattle.unit_calls.specs.declared.status.Status.TheVariants as a_status
use Rattle.unit_calls.proofs.Floating.{Floats, stays, prepares, releases}
use Rattle.unit_calls.proofs.Providing.{provided_same}

abbrev pub Kept : ℕ → ℕ → Option Opened → List EtcsOutput → Platter → ℕ → Type 0
Kept whole_from sectors None handed medium carried = AreOnMedium whole_from sectors handed medium
Kept whole_from sectors (Some opened) handed medium carried = Floats whole_from sectors handed medium carried opened.unit

-- ---- calls on a unit

pub either_way : (b : Bool) (So Else Then : Type 0) → (So → Then) → (Else → Then) → IfElse b So Else → Then
either_way true So Else Then one other is = one is
either_way false So Else Then one other is = other is

none_owed : {T : Type 0} (x : T) (failed owed : Bool) (rest : Option PrepareError)
    → (let r : Result T PrepareError = Ok x in MatchOption (if failed then Some a_prepare.Failed else if owed then Some a_prepare.RequestsOwed else rest) (IsOk r) (λ e. r ≡ Err e)) → owed ≡ false
none_owed x true owed rest is = absurd cc
none_owed x false true rest is = absurd cc
none_owed x false false rest is = refl

all_done : (failed owed synced : Bool)
    → (if failed then Some a_release.Failed else if owed then Some a_release.RequestsOwed else if synced then None else Some a_release.Failed) ≡ None → owed ≡ false
all_done true owed synced is = absurd cc
all_done false true synced is = absurd cc
all_done false false synced is = refl

not_above : (n m : ℕ) → nat_lt n m ≡ false → m ≤ n
not_above n m is = grind (arith, nat_tests)

-- what a refusal leaves of the unit, and of what its disk holds
same_unit : (e : PrepareError) (before after : Moored) → IsLeftBy e before after → after.unit ≡ before.unit
same_unit a_prepare.Failed before after left = ap (λ (m : Moored). m.unit) left
same_unit a_prepare.RequestsOwed before after left = ap (λ (m : Moored). m.unit) left
same_unit a_prepare.WornOut before after left = ap (λ (m : Moored). m.unit) left
same_unit a_prepare.SectorWanted before after left = left.0

same_disk : (e : PrepareError) (before after : Moored) → IsLeftBy e before after → request_state after.disk ≡ request_state before.disk
same_disk a_prepare.Failed before after left = ap (λ (m : Moored). request_state m.disk) left
same_disk a_prepare.RequestsOwed before after left = ap (λ (m : Moored). request_state m.disk) left
same_disk a_prepare.WornOut before after left = ap (λ (m : Moored). request_state m.disk) left
same_disk a_prepare.SectorWanted before after left = ap (λ (d : Requesting). request_state d) left.1

module _ {whole_from sectors : ℕ} {handed : List EtcsOutput} {medium : Platter} {carried : ℕ} where
  -- the unit is as it was, and its disk holds what it held
  still : (before after : Relayed) → after.moored.unit ≡ before.moored.unit → request_state after.moored.disk ≡ request_state before.moored.disk
      → after.outputs ≡ before.outputs → after.done ≤ carried → Floats whole_from sectors handed medium carried before → Floats whole_from sectors handed medium carried after
  still before after unit disk outputs said floats =
      let Ahead : PartsState → Type 0 = λ u. IsAhead floats.durable floats.accepted u.life in
      stays floats after disk (ap (λ (u : PartsState). u.journal) unit) outputs said floats.accepted (subst Ahead (sym unit) floats.ahead)

  pub takes_on : (input : Input) (before after : Relayed) (reported : Result ⊤ AcceptError) → Accepts input before after reported → Floats whole_from sectors handed medium carried before → Floats whole_from sectors handed medium carried after
  takes_on input before after (Err e) its floats = subst (λ (u : Relayed). Floats whole_from sectors handed medium carried u) (sym its.refused) floats
  takes_on input before after (Ok x) its floats =
      let said = floats.said in
      let done = its.held.1 in
      stays floats after (ap (λ (d : Requesting). request_state d) its.disk.0) its.disk.1 its.held.0 (omega (arith, said, done))
      (an_input input ∷ floats.accepted) (its.accepted floats.durable floats.accepted floats.ahead)

  pub prepares_on : (before after : Relayed) (reported : Result ⊤ PrepareError) → IsPrepared before after reported → Floats whole_from sectors handed medium carried before → Floats whole_from sectors handed medium carried after
  prepares_on before after (Err e) its floats =
      let said = floats.said in
      let done = its.held.1 in
      still before after (same_unit e before.moored after.moored its.undone) (same_disk e before.moored after.moored its.undone) its.held.0 (omega (arith, said, done)) floats
  prepares_on before after (Ok x) its floats =
      let current : Moored = before.moored in
      let owed : nat_lt 0 (length current.disk.requests) ≡ false = none_owed x before.failed (nat_lt 0 (length current.disk.requests))
      (if wants_gate current then Some a_prepare.SectorWanted else option_map refused_as (flush_refusal current.unit.journal.failed (length current.unit.life.records) current.unit.journal.newest)) its.exact in
      let least : length current.disk.requests ≤ 0 = not_above 0 (length current.disk.requests) owed in
      let following = its.flushes.flushed whole_from floats.durable floats.accepted refl floats.opened floats.ahead in
      prepares floats (omega (arith, least)) after its.flushes.counted.sectors (its.flushes.any_moment whole_from floats.durable floats.accepted refl floats.opened floats.ahead)
      following.0 following.1 its.flushes.released its.initial

  pub says_on : (count : ℕ) (before after : Opened) (status : Status) → Says count before after status → (status ≡ a_status.Done → count ≤ carried) → Floats whole_from sectors handed medium carried before.unit → Floats whole_from sectors handed medium carried after.unit
  says_on count before after status (true, iff, answer, is) most floats =
      subst (λ (o : Opened). Floats whole_from sectors handed medium carried o.unit) (sym is) (stays floats (record before.unit { done = count }) refl refl refl (most answer) floats.accepted floats.ahead)
  says_on count before after status (false, iff, answer, is) most floats = subst (λ (o : Opened). Floats whole_from sectors handed medium carried o.unit) (sym is) floats

  pub fails_on : (before after : Opened) (status : Status) → Fails before after status → Floats whole_from sectors handed medium carried before.unit → Floats whole_from sectors handed medium carried after.unit
  fails_on before after status (answer, is) floats =
      subst (λ (o : Opened). Floats whole_from sectors handed medium carried o.unit) (sym is) (stays floats (record before.unit { failed = true }) refl refl refl floats.said floats.accepted floats.ahead)

  pub provides_on : (sector : ℕ) (bytes : List ℕ) (before after : Opened) (status : Status) → Provides sector bytes before after status
      → (status ≡ a_status.Done → bytes ≡ medium.contents sector) → Floats whole_from sectors handed medium carried before.unit → Floats whole_from sectors handed medium carried after.unit
  provides_on sector bytes before after status its read floats = either_way (is_sector_of before sector bytes)
      ((status ≡ a_status.Done) × IsProvided sector bytes before after) ((status ≡ a_status.OutOfRange) × (after ≡ before)) (Floats whole_from sectors handed medium carried after.unit)
      (λ so.
      let put = so.1 in
      let said = floats.said in
      let done = put.held.1 in
      let same : request_state after.unit.moored.disk ≡ request_state before.unit.moored.disk =
      provided_same before.unit.moored.disk sector bytes after.unit.moored.disk carried put.exact.1 put.same (read so.0 ∙ floats.there.contents sector) in
      still before.unit after.unit put.exact.0 same put.held.0 (omega (arith, said, done)) floats)
      (λ nothing. subst (λ (o : Opened). Floats whole_from sectors handed medium carried o.unit) (sym nothing.1) floats)
      its

-- ---- a release

refused_not_done : (e : ReleaseError) → is_done (of_release e) ≡ false
refused_not_done a_release.Failed = refl
refused_not_done a_release.RequestsOwed = refl

pub where_false : (b : Bool) (So Else : Type 0) → b ≡ false → IfElse b So Else → Else
where_false b So Else not_so is = subst (λ (t : Bool). IfElse t So Else) not_so is

where_true : (b : Bool) (So Else : Type 0) → b ≡ true → IfElse b So Else → So
where_true b So Else so is = subst (λ (t : Bool). IfElse t So Else) so is

by_cause : {E : Type 0} (o : Option E) (P Then : Type 0) (Q : E → Type 0) → (o ≡ None → P → Then) → ((e : E) → Q e → Then) → MatchOption o P Q → Then
by_cause None P Then Q one other is = one refl is
by_cause (Some e) P Then Q one other is = other e is

handed_out : (outputs : List Release) (places handed : List EtcsOutput) (count : ℕ) → AreHanded outputs places handed → count ≡ length outputs → take count handed ≡ map description_of outputs
handed_out outputs places handed count is counted =
    let rest : List EtcsOutput = drop (length outputs) places in
    ap (λ (n : ℕ). take n handed) (counted ∙ sym (length-map outputs description_of))
    ∙ ap (λ (l : List EtcsOutput). take (length (map description_of outputs)) l) is
    ∙ take-append_seam (map description_of outputs) rest

module _ {whole_from sectors : ℕ} {handed : List EtcsOutput} (handed' : List EtcsOutput) {medium : Platter} {carried : ℕ} (carried' : ℕ) (was is : Opened) (h : Handing)
    (out : IfElse (is_done h.status) ((handed' ≡ handed ++ take h.count h.handed) × (carried' ≡ 0)) ((handed' ≡ handed) × (carried' ≡ carried)))
    (under : Floats whole_from sectors handed medium carried was.unit) where
  abbrev HandedOut : Type 0
  HandedOut = (handed' ≡ handed ++ take h.count h.handed) × (carried' ≡ 0)

  abbrev HandedNothing : Type 0
  HandedNothing = (handed' ≡ handed) × (carried' ≡ carried)

  -- what was handed out, and how much was carried out
  abbrev Now : List EtcsOutput → ℕ → Opened → Type 0
  Now outputs n opened = Floats whole_from sectors outputs medium n opened.unit

  handed_nothing : (status : Status) → is_done status ≡ false → HandsNothing status was is h → Now handed' carried' is
  handed_nothing status not_done its =
      let so = where_false (is_done h.status) HandedOut HandedNothing (ap is_done its.0 ∙ not_done) out in
      subst (λ (n : ℕ). Now handed' n is) (sym so.1) (subst (λ (l : List EtcsOutput). Now l carried is) (sym so.0) (subst (Now handed carried) (sym its.3) under))

  handed_all : release_refusal was.unit ≡ None → HandsAll was is h → Now handed' carried' is
  handed_all none its =
      let released = its.released in
      let so = where_true (is_done h.status) HandedOut HandedNothing (ap is_done its.done) out in
      let owed = all_done was.unit.failed (nat_lt was.unit.done (requests_of was.unit.moored)) (ends_in_sync (list_of was.unit.moored)) none in
      let more : handed' ≡ handed ++ map description_of was.unit.outputs =
      so.0 ∙ ap (λ (l : List EtcsOutput). handed ++ l) (handed_out was.unit.outputs h.places h.handed h.count its.outputs its.counted) in
      let floats = releases under (not_above was.unit.done (requests_of was.unit.moored) owed) is.unit released.emptied.2 released.sectors released.stands
      (ap (λ (u : PartsState). u.life) released.unit) released.emptied.0 released.emptied.1 in
      subst (λ (n : ℕ). Now handed' n is) (sym so.1) (subst (λ (l : List EtcsOutput). Now l 0 is) (sym more) floats)

  pub releases_on : Releases was is h → Now handed' carried' is
  releases_on its = either_way (nat_lt (length h.places) most_pending) (HandsNothing a_status.NoRoom was is h)
      (MatchOption (release_refusal was.unit) (HandsAll was is h) (λ e. HandsNothing (of_release e) was is h)) (Now handed' carried' is)
      (λ nothing. handed_nothing a_status.NoRoom refl nothing)
      (λ other. by_cause (release_refusal was.unit) (HandsAll was is h) (Now handed' carried' is) (λ e. HandsNothing (of_release e) was is h)
      handed_all (λ e nothing. handed_nothing (of_release e) (refused_not_done e) nothing) other)
      its
