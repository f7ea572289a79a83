-- The place of the train, read off the happenings, is that which is read off the entries.
use Rattle.std.proofs.Common.{◌≡◌, ℤ, List, [], ◌∷◌, refl, ap}
use Rattle.std.specs.Prelude.{ℕ, Option, Some, None}
use Rattle.units.specs.Stretches.{Span}
use Rattle.vars.specs.declared.group.GroupIdentity.{GroupIdentity}
use Rattle.events.specs.declared.input.Reading.{Reading}
use Rattle.linking.specs.declared.announcement.Announcement.{Announcement}
use Rattle.linking.specs.Linking as linking
use Rattle.linking.specs.Linking.{LinkEntry}
use Rattle.linking.specs.Judging.{meant}
use Rattle.mode_table.specs.declared.mode.Mode.{Mode}
use Rattle.odometry.specs.Place as odometry
use Rattle.odometry.specs.Place.{PlaceEntry}
use Rattle.std.specs.Option.{option_map_or}
use Rattle.track_picture.specs.Entry.{TrackEntry, Outcome, facts_in}
use Rattle.track_picture.specs.History.{fix_in, with_fix, with_fixes, latest_fixed, with_movement, places, group_of_fix}
use Rattle.track_picture.specs.Live.{Happening}
use Rattle.track_picture.specs.Parts.{places_in, group_in, links_in}
use Rattle.track_picture.specs.Happenings.{and_ticked, and_moved, and_missed, and_judged, and_used, and_closed, and_seen, and_entered, and_marked, happenings}
use Rattle.track_picture.specs.Ending.{PlaceIsRead}
use Rattle.track_picture.proofs.Growing.{past_missed, past_used}

record IsPlaced (hs : List Happening) (es : List PlaceEntry) (group : Option GroupIdentity) : Type 0 where
  places_are : places_in hs ≡ es
  group_is : group_in hs ≡ group

-- with the group that is known along with
module _ (group : Option GroupIdentity) where
  abbrev same : List Happening → List PlaceEntry → Type 0
  same hs es = IsPlaced hs es group

  linked : (entry : LinkEntry) (hs : List Happening) (es : List PlaceEntry) → same hs es → same (Happening.Linked entry ∷ hs) es
  linked entry hs es k = record { places_are = k.places_are; group_is = k.group_is }

  taken : (as_entry : ℕ → LinkEntry) (a : Option Announcement) (hs : List Happening) (es : List PlaceEntry) → same hs es →
      same (option_map_or (λ b. Happening.Linked (as_entry b.number) ∷ hs) a hs) es
  taken as_entry None hs es k = k
  taken as_entry (Some a) hs es k = linked (as_entry a.number) hs es k

  used : (outcome : Outcome) (hs : List Happening) (es : List PlaceEntry) → same hs es → same (and_used (facts_in outcome) hs) es
  used outcome hs es k =
      past_used (λ gs. same gs es) (λ fact hs k. record { places_are = k.places_are; group_is = k.group_is }) (facts_in outcome) hs k

  passed : (announcements : List Announcement) (hs : List Happening) (es : List PlaceEntry) → same hs es → same (and_missed announcements hs) es
  passed announcements hs es k = past_missed (λ gs. same gs es) (λ entry hs k. linked entry hs es k) announcements hs k

  ticked : (clock : Option ℕ) (hs : List Happening) (es : List PlaceEntry) → same hs es → same (and_ticked clock hs) es
  ticked None hs es k = k
  ticked (Some moment) hs es k = record { places_are = k.places_are; group_is = k.group_is }

  moved : (reading : Option Reading) (hs : List Happening) (es : List PlaceEntry) → same hs es → same (and_moved reading hs) (with_movement reading es)
  moved None hs es k = k
  moved (Some reading) hs es k =
      record { places_are = ap (λ xs. odometry.after_movement xs reading.movement) k.places_are; group_is = k.group_is }

  seen : (train : Option Span) (hs : List Happening) (es : List PlaceEntry) → same hs es → same (and_seen train hs) es
  seen None hs es k = k
  seen (Some train) hs es k = record { places_are = k.places_are; group_is = k.group_is }

  entered : (mode : Option Mode) (hs : List Happening) (es : List PlaceEntry) → same hs es → same (and_entered mode hs) es
  entered None hs es k = k
  entered (Some mode) hs es k = record { places_are = k.places_are; group_is = k.group_is }

  marked : (mark : Option ℤ) (hs : List Happening) (es : List PlaceEntry) → same hs es → same (and_marked mark hs) es
  marked None hs es k = k
  marked (Some mark) hs es k = record { places_are = k.places_are; group_is = k.group_is }

judged : (outcome : Outcome) (group : Option GroupIdentity) (hs : List Happening) (es : List PlaceEntry) → IsPlaced hs es group →
    IsPlaced (and_judged outcome hs) (with_fix (fix_in outcome) es) (latest_fixed (outcome ∷ []) group)
judged (Outcome.Broken b) group hs es k = taken group linking.LinkEntry.Reacted (meant (links_in hs) b.group b.linked) hs es k
judged (Outcome.Ignored message) group hs es k = k
judged (Outcome.Rejected message a) group hs es k = linked group (linking.LinkEntry.Reacted a.number) hs es k
judged (Outcome.Accepted message announced None facts) group hs es k =
    let k' = taken group linking.LinkEntry.Accepted announced hs es k in
    record { places_are = k'.places_are; group_is = k'.group_is }
judged (Outcome.Accepted message announced (Some fix) facts) group hs es k =
    let k' = taken group linking.LinkEntry.Accepted announced hs es k in
    record { places_are = ap (λ xs. odometry.PlaceEntry.Fixed fix ∷ xs) k'.places_are; group_is = refl }

closed : (outcomes : List Outcome) (group : Option GroupIdentity) (hs : List Happening) (es : List PlaceEntry) → IsPlaced hs es group →
    IsPlaced (and_closed outcomes hs) (with_fixes outcomes es) (latest_fixed outcomes group)
closed [] group hs es k = k
closed (o ∷ os) group hs es k =
    used (latest_fixed (o ∷ os) group) o (and_judged o (and_closed os hs)) (with_fixes (o ∷ os) es)
    (judged o (latest_fixed os group) (and_closed os hs) (with_fixes os es) (closed os group hs es k))

placed : (events : List TrackEntry) → IsPlaced (happenings events) (places events) (group_of_fix events)
placed [] = record { places_are = refl; group_is = refl }
placed (e ∷ es) =
    let before = group_of_fix es in
    let ticked_now = and_ticked e.initial.clock (happenings es) in
    let moved_now = and_moved e.initial.reading ticked_now in
    let initial = and_missed e.initial.missed moved_now in
    let closed_now = and_closed e.used.groups initial in
    let went = with_movement e.initial.reading (places es) in
    let now = latest_fixed e.used.groups before in
    let there = with_fixes e.used.groups went in
    marked now e.mark (and_entered e.entered (and_seen e.train closed_now)) there
    (entered now e.entered (and_seen e.train closed_now) there
    (seen now e.train closed_now there
    (closed e.used.groups before initial went
    (passed before e.initial.missed moved_now went
    (moved before e.initial.reading ticked_now (places es)
    (ticked before e.initial.clock (happenings es) (places es) (placed es)))))))

pub place_is_read : PlaceIsRead
place_is_read events = (ap odometry.known (placed events).places_are, (placed events).group_is)
