-- What stays so, whatever happens.
use Rattle.std.proofs.Common.{◌≡◌, ◌⊎◌, inl, inr, ℕ, ◌+◌, false, List, [], ◌∷◌, ◌++◌, map, take, Option, Some, None, refl, sym, ◌∙◌, ap, subst, arith}
use Rattle.std.proofs.lemmas.List.{append-nil}
use Rattle.disk.specs.State.{State, Platter, contents_of, IsImage}
use Rattle.events.specs.declared.input.Event.{Event}
use Rattle.events.specs.declared.input.Event.TheVariants.{PowerUp}
use Rattle.events.specs.declared.input.Input.{Input}
use Rattle.request_disk.specs.Requesting.{Requesting}
use Rattle.mode_table.specs.declared.statuses.Cold.{Cold}
use Rattle.unit_start.specs.Lives.{Describes, DescribesEither, IsReady, IsOfOpening}
use Rattle.unit_start.specs.Releases.{Release, nothing_released}
use Rattle.unit_start.proofs.Opening.{ready_after}
use Rattle.relayed_unit.specs.Relayed.{Relayed, Continued}
use Rattle.unit_calls.specs.Handles.{OnHandle, OnHandleInto, Takes, Prepares, Says, Fails, Handing, Releases}
use Rattle.unit_calls.specs.Histories.{Scene, Happening, Finishing, Taking, Preparing, Providing, Carrying, Saying, Failing, Releasing, Asking, Closing, Cutting, IsQuiet, Happens, AllHappen, IsPartOf, outputs_of, HasAll, AreOnMedium, HandedOutIsOnMedium}
use Rattle.unit_calls.specs.Mediums.{at_rest, carried_out}
use Rattle.unit_calls.specs.Outputs.{description_of}
use Rattle.unit_calls.specs.PowerUps.{before_any, IsUp}
use Rattle.unit_calls.specs.Requests.{IfElse, Description, DescribesRequest}
use Rattle.unit_calls.specs.Sectors.{Provides}
use Rattle.unit_calls.specs.Statuses.{is_done}
use Rattle.unit_calls.specs.declared.handle.Opened.{Opened}
use Rattle.unit_calls.specs.declared.outputs.EtcsOutput.{EtcsOutput}
use Rattle.unit_calls.specs.declared.status.Status.{Status}
use Rattle.unit_calls.specs.declared.status.Status.TheVariants as a_status
use Rattle.unit_calls.proofs.Carrying.{IsThere, carried_there}
use Rattle.unit_calls.proofs.Floating.{moment_of, Floats, on_medium, carries}
use Rattle.unit_calls.proofs.Parts.{part_longer}
use Rattle.unit_calls.proofs.Alongside.{Kept, takes_on, prepares_on, provides_on, says_on, fails_on, where_false, releases_on}

-- ---- a power-up

module _ (whole_from sectors : ℕ) (handed : List EtcsOutput) (medium : Platter) (bytes : List ℕ) (n : ℕ) (cold : Cold) (size : n ≡ sectors)
    (contents : (s : ℕ) → medium.contents s ≡ contents_of (before_any bytes n) s) (synced : (s : ℕ) → medium.is_open s ≡ false)
    (on : AreOnMedium whole_from sectors handed medium) where
  -- the disk that it was opened over
  abbrev begin : State
  begin = before_any bytes n

  -- what the medium holds is one list
  held_list : HasAll whole_from sectors on.durable medium.contents
  held_list = on.each medium.contents (record { shut = λ s shut. refl; whole = λ s. refl })

  ready : IsReady whole_from held_list.0 held_list.0 begin
  ready =
      let same : medium.contents ≡ contents_of begin = λ i. λ s. contents s i in
      let C : (ℕ → List ℕ) → Type 0 = λ c. Describes whole_from sectors held_list.0 c in
      ready_after whole_from sectors held_list.0 begin size (λ s. refl) (subst C same held_list.3)

  found_all : (found : List Event) → (found ≡ held_list.0) ⊎ (found ≡ held_list.0) → found ≡ held_list.0
  found_all found (inl is) = is
  found_all found (inr is) = is

  of_opening : (found : List Event) (recorded_cold : Cold) (c : ℕ → List ℕ) → found ≡ held_list.0 → IsOfOpening whole_from sectors held_list.0 held_list.0 found recorded_cold c
      → DescribesEither whole_from sectors found (PowerUp recorded_cold ∷ found) c
  of_opening found recorded_cold c is (inl (inl describes)) = let T : List Event → Type 0 = λ l. Describes whole_from sectors l c in inl (subst T (sym is) describes)
  of_opening found recorded_cold c is (inl (inr describes)) = let T : List Event → Type 0 = λ l. Describes whole_from sectors l c in inl (subst T (sym is) describes)
  of_opening found recorded_cold c is (inr describes) = inr describes

  floats_up : (u : Relayed) (carried : ℕ) → carried ≡ 0 → IsUp begin cold u → Floats whole_from sectors handed medium carried u
  floats_up u carried begins its =
      let up : Continued whole_from held_list.0 held_list.0 cold begin u.moored = its.up whole_from held_list.0 held_list.0 ready in
      let disk : Requesting = u.moored.disk in
      let found : List Event = up.found in
      let recorded_cold : Cold = up.power_up_cold in
      let is : found ≡ held_list.0 = found_all found up.opens.found_is in
      let each = up.opens.at_each_moment in
      let undone = its.fresh.1 in
      let P : ℕ → (ℕ → List ℕ) → Type 0 = λ n c. IsOfOpening whole_from n held_list.0 held_list.0 found recorded_cold c in
      let G : List Event → Type 0 = λ l. IsPartOf handed (outputs_of l) in
      let given : IsPartOf handed (outputs_of found) = subst G (sym is) (part_longer handed on.durable held_list.0 held_list.1 held_list.2 on.outputs) in
      let H : List Release → Type 0 = λ o. IsPartOf (handed ++ map description_of o) (outputs_of (PowerUp recorded_cold ∷ found)) in
      let N : List EtcsOutput → Type 0 = λ l. IsPartOf l (outputs_of (PowerUp recorded_cold ∷ found)) in
      let T : Platter → Type 0 = λ p. IsThere medium p in
      let C : ℕ → Type 0 = λ k. IsThere medium (moment_of disk k) in
      let first : IsThere medium (begin.at 0) = record { contents = contents; closed = λ s shut. synced s } in record {
        size = its.sectors ∙ size;
        settled = found;
        durable = PowerUp recorded_cold ∷ found;
        accepted = PowerUp recorded_cold ∷ found;
        more = PowerUp recorded_cold ∷ [];
        begins = refl;
        opened = up.opened;
        ahead = up.ahead;
        given = given;
        held = subst H (sym its.fresh.0) (subst N (sym (append-nil handed)) (part_longer handed found (PowerUp recorded_cold ∷ found) (PowerUp recorded_cold ∷ []) refl given));
        moments = λ k most c image_is. of_opening found recorded_cold c is (subst (λ (m : ℕ). P m c) size (each.each k (omega arith) most c image_is));
        there = subst C (sym begins) (subst T (sym (each.kept 0 (omega arith))) first);
        within = omega (arith, begins);
        said = omega (arith, undone);
      }

  stands_on : (u : Relayed) (after : Option Opened) (carried : ℕ) → carried ≡ 0 → IsUp begin cold u → after ≡ Some (record { unit = u; last = nothing_released })
      → Kept whole_from sectors after handed medium carried
  stands_on u after carried begins its left =
      let K : Option Opened → Type 0 = λ o. Kept whole_from sectors o handed medium carried in
      subst K (sym left) (floats_up u carried begins its)

-- what is left where power is lost
left_over : (whole_from sectors : ℕ) (handed : List EtcsOutput) (medium : Platter) (image : ℕ → List ℕ) → IsImage medium image → AreOnMedium whole_from sectors handed medium → AreOnMedium whole_from sectors handed (at_rest image)
left_over whole_from sectors handed medium image is on = record {
  durable = on.durable;
  outputs = on.outputs;
  each = λ c image_is.
      let same : image ≡ c = λ i. λ s. sym (image_is.shut s refl) i in
      let H : (ℕ → List ℕ) → Type 0 = λ e. HasAll whole_from sectors on.durable e in
      subst H same (on.each image is);
}

-- ---- whatever happens

module _ (whole_from sectors : ℕ) where
  abbrev KeptIn : Scene → Type 0
  KeptIn scene = Kept whole_from sectors scene.handle scene.handed scene.medium scene.carried

  -- the rest of the scene as it was
  as_it_was : (handle : Option Opened) {handed handed' : List EtcsOutput} {medium medium' : Platter} {carried carried' : ℕ} → medium' ≡ medium → carried' ≡ carried → handed' ≡ handed
      → Kept whole_from sectors handle handed medium carried → Kept whole_from sectors handle handed' medium' carried'
  as_it_was handle {handed} {handed'} {medium} {medium'} {carried} {carried'} same_medium same_carried same_handed kept =
      let M : Platter → Type 0 = λ m. Kept whole_from sectors handle handed' m carried' in
      let C : ℕ → Type 0 = λ n. Kept whole_from sectors handle handed' medium n in
      let H : List EtcsOutput → Type 0 = λ l. Kept whole_from sectors handle l medium carried in
      subst M (sym same_medium) (subst C (sym same_carried) (subst H (sym same_handed) kept))

  module _ (handed : List EtcsOutput) (medium : Platter) (carried : ℕ) where
    abbrev KeptBy : Option Opened → Type 0
    KeptBy handle = Kept whole_from sectors handle handed medium carried

    on_handle : (So : Opened → Opened → Status → Type 0) (status : Status)
        → ((was is : Opened) → So was is status → Floats whole_from sectors handed medium carried was.unit → Floats whole_from sectors handed medium carried is.unit)
        → (old new : Option Opened) → OnHandle old new status So → KeptBy old → KeptBy new
    on_handle So status on None None its kept = kept
    on_handle So status on None (Some after) its kept = absurd its
    on_handle So status on (Some before) None its kept = absurd its
    on_handle So status on (Some before) (Some after) its kept = on before after its kept

    input_on : (input : Option Input) (was is : Opened) (status : Status) → Takes input was is status → Floats whole_from sectors handed medium carried was.unit
        → Floats whole_from sectors handed medium carried is.unit
    input_on None was is status its floats = let U : Opened → Type 0 = λ o. Floats whole_from sectors handed medium carried o.unit in subst U (sym its.1) floats
    input_on (Some input) was is status (reported, answer, accepts, last) floats = takes_on input was.unit is.unit reported accepts floats

    medium_of : (handle : Option Opened) → KeptBy handle → AreOnMedium whole_from sectors handed medium
    medium_of None kept = kept
    medium_of (Some opened) floats = on_medium floats

    released_in : (handed' : List EtcsOutput) (carried' : ℕ) (h : Handing) (old new : Option Opened)
        → OnHandleInto (Unit {0}) old new h.status (λ was is reported. Releases was is h)
        → IfElse (is_done h.status) ((handed' ≡ handed ++ take h.count h.handed) × (carried' ≡ 0)) ((handed' ≡ handed) × (carried' ≡ carried))
        → KeptBy old → Kept whole_from sectors new handed' medium carried'
    released_in handed' carried' h None None its out kept =
        let so = where_false (is_done h.status) ((handed' ≡ handed ++ take h.count h.handed) × (carried' ≡ 0)) ((handed' ≡ handed) × (carried' ≡ carried)) (ap is_done its.0) out in
        let H : List EtcsOutput → Type 0 = λ l. AreOnMedium whole_from sectors l medium in
        subst H (sym so.0) kept
    released_in handed' carried' h None (Some after) its out kept = absurd its
    released_in handed' carried' h (Some before) None its out kept = absurd its
    released_in handed' carried' h (Some before) (Some after) its out kept = releases_on handed' carried' before after h out kept its

    carried_in : (opened : Opened) (t : Description) → DescribesRequest carried opened t → t.status ≡ a_status.Done → Floats whole_from sectors handed medium carried opened.unit
        → Floats whole_from sectors handed (carried_out t.reported t.bytes medium) (carried + 1) opened.unit
    carried_in opened t (found, at, whole, reported) done floats =
        let disk : Requesting = opened.unit.moored.disk in
        let so = carried_there disk.sectors disk.medium disk.written disk.requests carried t done medium floats.there found at whole reported in
        carries floats (carried_out t.reported t.bytes medium) so.0 so.1

  -- a call that leaves the medium alone, and hands out nothing
  quiet_on : (before after : Scene) → IsQuiet before after → Kept whole_from sectors after.handle before.handed before.medium before.carried → KeptIn after
  quiet_on before after quiet kept = as_it_was after.handle quiet.0 quiet.1 quiet.2 kept

  on_quiet : (before after : Scene) (So : Opened → Opened → Status → Type 0) (status : Status) → OnHandle before.handle after.handle status So → IsQuiet before after
      → ((was is : Opened) → So was is status → Floats whole_from sectors before.handed before.medium before.carried was.unit → Floats whole_from sectors before.handed before.medium before.carried is.unit)
      → KeptIn before → KeptIn after
  on_quiet before after So status its quiet on kept = quiet_on before after quiet (on_handle before.handed before.medium before.carried So status on before.handle after.handle its kept)

  step : (one : Happening) (before after : Scene) → KeptIn before → Happens sectors one before after → KeptIn after
  step (Finishing bytes cold) before after kept (unit, its, left, none, rest, medium, handed, begins) =
      let B : Option Opened → Type 0 = λ o. Kept whole_from sectors o before.handed before.medium before.carried in
      as_it_was after.handle medium refl handed
      (stands_on whole_from sectors before.handed before.medium bytes sectors cold refl rest.contents rest.synced (subst B none kept) unit after.handle after.carried begins its left)
  step (Taking input) before after kept (status, its, quiet) =
      on_quiet before after (Takes input) status its quiet (λ was is takes floats. input_on before.handed before.medium before.carried input was is status takes floats) kept
  step Preparing before after kept (status, its, quiet) =
      on_quiet before after Prepares status its quiet (λ was is prepared floats. prepares_on was.unit is.unit prepared.0 prepared.2 floats) kept
  step (Providing sector bytes) before after kept (status, its, read, quiet) =
      on_quiet before after (Provides sector bytes) status its quiet (λ was is provided floats. provides_on sector bytes was is status provided read floats) kept
  step (Carrying t) before after kept (opened, was_open, reported, done, handle, medium, carried, handed) =
      let B : Option Opened → Type 0 = λ o. Kept whole_from sectors o before.handed before.medium before.carried in
      let K : Option Opened → Type 0 = λ o. Kept whole_from sectors o after.handed after.medium after.carried in
      subst K (sym (handle ∙ was_open)) (as_it_was (Some opened) medium carried handed (carried_in before.handed before.medium before.carried opened t reported done (subst B was_open kept)))
  step (Saying count) before after kept (status, its, most, quiet) =
      on_quiet before after (Says count) status its quiet (λ was is says floats. says_on count was is status says most floats) kept
  step Failing before after kept (status, its, quiet) =
      on_quiet before after Fails status its quiet (λ was is fails floats. fails_on was is status fails floats) kept
  step (Releasing h) before after kept (its, medium, out) =
      as_it_was after.handle medium refl refl (released_in before.handed before.medium before.carried after.handed after.carried h before.handle after.handle its out kept)
  step Asking before after kept (same, quiet) =
      let K : Option Opened → Type 0 = λ o. Kept whole_from sectors o before.handed before.medium before.carried in
      quiet_on before after quiet (subst K (sym same) kept)
  step Closing before after kept (none, quiet) =
      let K : Option Opened → Type 0 = λ o. Kept whole_from sectors o before.handed before.medium before.carried in
      quiet_on before after quiet (subst K (sym none) (medium_of before.handed before.medium before.carried before.handle kept))
  step (Cutting image) before after kept (is, none, medium, handed) =
      let K : Option Opened → Type 0 = λ o. Kept whole_from sectors o after.handed after.medium after.carried in
      subst K (sym none) (as_it_was None {carried = after.carried} medium refl handed (left_over whole_from sectors before.handed before.medium image is (medium_of before.handed before.medium before.carried before.handle kept)))

  all_steps : (history : List Happening) (first last : Scene) → KeptIn first → AllHappen sectors history first last → KeptIn last
  all_steps [] first last kept same = subst KeptIn (sym same) kept
  all_steps (one ∷ more) first last kept (next, happens, rest) = all_steps more next last (step one first next kept happens) rest

pub handed_out_is_on_medium : HandedOutIsOnMedium
handed_out_is_on_medium whole_from sectors history first last none on all =
    let K : Option Opened → Type 0 = λ o. Kept whole_from sectors o first.handed first.medium first.carried in
    medium_of whole_from sectors last.handed last.medium last.carried last.handle (all_steps whole_from sectors history first last (subst K (sym none) on) all)
