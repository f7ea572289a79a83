-- What an event adds to the entries of the authority: the clock; then the authorities (packet 12); then where the train
-- is; then what the mode deletes that is entered.
use Rattle.std.proofs.Common.{◌≡◌, ℕ, List, [], ◌∷◌, refl, ap, ◌∙◌}
use Rattle.std.specs.Prelude.{Option, Some, None}
use Rattle.authority.specs.Entries.{AuthorityEntry}
use Rattle.authority.specs.Entries.AuthorityEntry.{Ticked, Passed}
use Rattle.events.specs.declared.input.Reading.{Reading}
use Rattle.mode_table.specs.declared.mode.Mode.{Mode}
use Rattle.mode_table.specs.declared.statuses.Item.TheVariants as item
use Rattle.units.specs.Stretches.{Span}
use Rattle.track_picture.specs.Columns.{TrackReports, after_authority, after_facts, after_mode, authority_deleted, earlier_reported, later_reported, reported_in, description_of}
use Rattle.track_picture.specs.Entry.{TrackEntry, Fact, Outcome, facts_in}
use Rattle.track_picture.specs.Happenings.{and_ticked, and_moved, and_missed, and_judged, and_closed, and_seen, and_entered, happenings}
use Rattle.track_picture.specs.Live.{Happening}
use Rattle.track_picture.proofs.Description.{judged_reported, reported_missed, reported_judged, reported_used, reported_marked, up_to_groups, up_to_look}

abbrev pub authorities : List TrackEntry → List AuthorityEntry
authorities entries = (description_of entries).grants

abbrev pub after_clock : Option ℕ → List AuthorityEntry → List AuthorityEntry
after_clock None entries = entries
after_clock (Some moment) entries = Ticked moment ∷ entries

abbrev pub after_reported : List Outcome → List AuthorityEntry → List AuthorityEntry
after_reported [] entries = entries
after_reported (outcome ∷ outcomes) entries = after_facts after_authority (facts_in outcome) (after_reported outcomes entries)

abbrev pub after_train : Option Span → List AuthorityEntry → List AuthorityEntry
after_train None entries = entries
after_train (Some train) entries = Passed train ∷ entries

abbrev pub after_entered : Option Mode → List AuthorityEntry → List AuthorityEntry
after_entered None entries = entries
after_entered (Some mode) entries = after_mode item.Authority authority_deleted mode entries

-- ---- so it is

initial : (clock : Option ℕ) (reading : Option Reading) (hs : List Happening) →
    (reported_in (and_moved reading (and_ticked clock hs))).grants ≡ after_clock clock (reported_in hs).grants
initial None None hs = refl
initial None (Some reading) hs = refl
initial (Some moment) None hs = refl
initial (Some moment) (Some reading) hs = refl

judged : (outcome : Outcome) (hs : List Happening) → (judged_reported outcome hs).grants ≡ (reported_in hs).grants
judged (Outcome.Broken b) hs = refl
judged (Outcome.Ignored message) hs = refl
judged (Outcome.Rejected message a) hs = refl
judged (Outcome.Accepted message announced fix facts) hs = refl

by_earlier : (facts : List Fact) (reported : TrackReports) → (after_facts earlier_reported facts reported).grants ≡ after_facts after_authority facts reported.grants
by_earlier [] reported = refl
by_earlier (fact ∷ facts) reported = by_earlier facts (earlier_reported fact reported)

by_later : (facts : List Fact) (reported : TrackReports) → (after_facts later_reported facts reported).grants ≡ reported.grants
by_later [] reported = refl
by_later (fact ∷ facts) reported = by_later facts (later_reported fact reported)

closed : (outcomes : List Outcome) (hs : List Happening) → (reported_in (and_closed outcomes hs)).grants ≡ after_reported outcomes (reported_in hs).grants
closed [] hs = refl
closed (outcome ∷ outcomes) hs =
    let before = and_closed outcomes hs in
    let facts = facts_in outcome in
    ap (λ (t : TrackReports). t.grants) (reported_used facts (and_judged outcome before))
    ∙ (by_later facts (after_facts earlier_reported facts (reported_in (and_judged outcome before)))
    ∙ (by_earlier facts (reported_in (and_judged outcome before))
    ∙ ap (after_facts after_authority facts)
    (ap (λ (t : TrackReports). t.grants) (reported_judged outcome before) ∙ (judged outcome before ∙ closed outcomes hs))))

seen : (train : Option Span) (hs : List Happening) → (reported_in (and_seen train hs)).grants ≡ after_train train (reported_in hs).grants
seen None hs = refl
seen (Some train) hs = refl

entered : (mode : Option Mode) (hs : List Happening) → (reported_in (and_entered mode hs)).grants ≡ after_entered mode (reported_in hs).grants
entered None hs = refl
entered (Some mode) hs = refl

pub by_event : (event : TrackEntry) (earlier : List TrackEntry) →
    authorities (event ∷ earlier)
    ≡ after_entered event.entered (after_train event.train (after_reported event.used.groups (after_clock event.initial.clock (authorities earlier))))
by_event event earlier =
    let moved = and_moved event.initial.reading (and_ticked event.initial.clock (happenings earlier)) in
    ap (λ (t : TrackReports). t.grants) (reported_marked event.mark (and_entered event.entered (up_to_look event earlier)))
    ∙ (entered event.entered (up_to_look event earlier)
    ∙ ap (after_entered event.entered) (seen event.train (up_to_groups event earlier)
    ∙ ap (after_train event.train) (closed event.used.groups (and_missed event.initial.missed moved)
    ∙ ap (after_reported event.used.groups)
    (ap (λ (t : TrackReports). t.grants) (reported_missed event.initial.missed moved) ∙ initial event.initial.clock event.initial.reading (happenings earlier)))))
