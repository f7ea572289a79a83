-- What it says that an acknowledgement is owed.
use Rattle.std.proofs.Common.{◌≡◌, ◌≢◌, ℕ, List, [], ◌∷◌, ◌++◌, false, refl, ap}
use Rattle.std.specs.List.{list_any}
use Rattle.areas.specs.declared.acknowledgement.Acknowledgement.{Acknowledgement}
use Rattle.areas.specs.declared.acknowledgement.Acknowledgement.TheVariants as state
use Rattle.areas.specs.Acknowledging.{Happening, after, after_all}
use Rattle.areas.specs.AcknowledgingLaws.{IsOwed, OwedSo, OwedStays, ends_owed}

-- ---- one happening

by_turn : (before : Acknowledgement) (moment since : ℕ) → after (Happening.Entered moment) before ≡ state.Owed since → (before ≢ state.Done) × (moment ≡ since)
by_turn state.Nothing moment since h = (λ e. (cc), cc)
by_turn state.Requested moment since h = (λ e. (cc), cc)
by_turn state.Done moment since h = absurd (cc)
by_turn (state.Owed earlier) moment since h = (λ e. (cc), cc)

by_asking : (before : Acknowledgement) (since : ℕ) → after Happening.Requested before ≡ state.Owed since → before ≡ state.Owed since
by_asking state.Nothing since h = absurd (cc)
by_asking state.Requested since h = h
by_asking state.Done since h = h
by_asking (state.Owed earlier) since h = h

by_settling : (before : Acknowledgement) (since : ℕ) → after Happening.Settled before ≡ state.Owed since → before ≡ state.Owed since
by_settling state.Nothing since h = h
by_settling state.Requested since h = absurd (cc)
by_settling state.Done since h = absurd (cc)
by_settling (state.Owed earlier) since h = h

never_by_driver : (before : Acknowledgement) (since : ℕ) → after Happening.Acknowledged before ≡ state.Owed since → ⊥
never_by_driver state.Nothing since h = cc
never_by_driver state.Requested since h = cc
never_by_driver state.Done since h = cc
never_by_driver (state.Owed earlier) since h = cc

never_by_deleting : (before : Acknowledgement) (since : ℕ) → after Happening.Deleted before ≡ state.Owed since → ⊥
never_by_deleting state.Nothing since h = cc
never_by_deleting state.Requested since h = cc
never_by_deleting state.Done since h = cc
never_by_deleting (state.Owed earlier) since h = cc

turned : (before : Acknowledgement) (since : ℕ) → before ≢ state.Done → after (Happening.Entered since) before ≡ state.Owed since
turned state.Nothing since h = refl
turned state.Requested since h = refl
turned state.Done since h = absurd (h refl)
turned (state.Owed earlier) since h = refl

-- ---- all happenings

after_happening : (since : ℕ) (happening : Happening) (happenings : List Happening) → ends_owed happening ≡ false → IsOwed since happenings → IsOwed since (happening ∷ happenings)
after_happening since happening happenings h o = record {
  later = happening ∷ o.later;
  earlier = o.earlier;
  in_turn = ap (λ (es : List Happening). happening ∷ es) o.in_turn;
  was_not_done = o.was_not_done;
  still = rw h o.still;
}

owed : (since : ℕ) (happenings : List Happening) → after_all happenings ≡ state.Owed since → IsOwed since happenings
owed since [] h = absurd (cc)
owed since (Happening.Acknowledged ∷ happenings) h = absurd (never_by_driver (after_all happenings) since h)
owed since (Happening.Entered moment ∷ happenings) h =
    let parts = by_turn (after_all happenings) moment since h in
    record { later = []; earlier = happenings; in_turn = ap (λ (m : ℕ). Happening.Entered m ∷ happenings) parts.1; was_not_done = parts.0; still = refl }
owed since (Happening.Requested ∷ happenings) h = after_happening since Happening.Requested happenings refl (owed since happenings (by_asking (after_all happenings) since h))
owed since (Happening.Settled ∷ happenings) h = after_happening since Happening.Settled happenings refl (owed since happenings (by_settling (after_all happenings) since h))
owed since (Happening.Deleted ∷ happenings) h = absurd (never_by_deleting (after_all happenings) since h)

still_owed : (since : ℕ) (later earlier : List Happening) → after_all earlier ≢ state.Done → list_any ends_owed later ≡ false →
    after_all (later ++ Happening.Entered since ∷ earlier) ≡ state.Owed since
still_owed since [] earlier n h = turned (after_all earlier) since n
still_owed since (Happening.Acknowledged ∷ later) earlier n h = absurd (cc)
still_owed since (Happening.Entered moment ∷ later) earlier n h = absurd (cc)
still_owed since (Happening.Requested ∷ later) earlier n h = ap (after Happening.Requested) (still_owed since later earlier n h)
still_owed since (Happening.Settled ∷ later) earlier n h = ap (after Happening.Settled) (still_owed since later earlier n h)
still_owed since (Happening.Deleted ∷ later) earlier n h = absurd (cc)

pub owed_so : OwedSo
owed_so since happenings = (owed since happenings, λ o. rw o.in_turn (still_owed since o.later o.earlier o.was_not_done o.still))

-- ---- what is owed stays so

turned_again : (before : Acknowledgement) (since moment : ℕ) → before ≡ state.Owed since → after (Happening.Entered moment) before ≡ state.Owed moment
turned_again before since moment h = rw h refl

pub owed_stays : OwedStays
owed_stays since [] earlier o n = (since, o)
owed_stays since (Happening.Acknowledged ∷ later) earlier o n = absurd (cc)
owed_stays since (Happening.Entered moment ∷ later) earlier o n =
    let before = owed_stays since later earlier o n in
    (moment, turned_again (after_all (later ++ earlier)) before.0 moment before.1)
owed_stays since (Happening.Requested ∷ later) earlier o n =
    let before = owed_stays since later earlier o n in
    (before.0, ap (after Happening.Requested) before.1)
owed_stays since (Happening.Settled ∷ later) earlier o n =
    let before = owed_stays since later earlier o n in
    (before.0, ap (after Happening.Settled) before.1)
owed_stays since (Happening.Deleted ∷ later) earlier o n = absurd (cc)
