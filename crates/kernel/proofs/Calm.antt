-- A calm event closes no group and enters no mode: from its forgetting mark on it leaves all as it is that limits a train.
use Rattle.std.proofs.Common.{◌≡◌, ℕ, ℤ, ◌≤ℤ◌, List, [], ◌∷◌, Bool, true, false, cond, refl, ap, sym, ◌∙◌, arith}
use Rattle.std.specs.Prelude.{Option, Some, None, not, ◌&&◌, int_lt, filter, filter_map, reverse}
use Rattle.std.specs.Int.{int_max}
use Rattle.std.proofs.lemmas.Bool.{and_left}
use Rattle.std.proofs.lemmas.Int.{ints}
use Rattle.units.specs.Stretches.{Span}
use Rattle.areas.specs.declared.area.Area.{Area}
use Rattle.authority.specs.Entries.{Sight}
use Rattle.events.specs.declared.input.Reading.{Reading}
use Rattle.linking.specs.declared.announcement.Announcement.{Announcement}
use Rattle.linking.specs.Linking.{LinkEntry}
use Rattle.track_store.specs.declared.restriction.Restriction.{Restriction}
use Rattle.track_store.specs.Covering.{end_of, reaches_past, covers}
use Rattle.track_store.specs.Facts.{latest}
use Rattle.track_store.specs.Restrictions.{InForce}
use Rattle.track_picture.specs.Entry.{TrackEntry}
use Rattle.track_picture.specs.Happenings.{and_ticked, and_moved, and_missed, and_closed, and_seen, and_entered, and_marked, happenings}
use Rattle.track_picture.specs.History.{areas_of, gradients_of, restrictions_of, speeds_of}
use Rattle.track_picture.specs.Live.{Happening, brought}
use Rattle.track_picture.specs.Parts.{newest, areas_or_none, mark_in, moment_in}
use Rattle.track_picture.proofs.OneKind.{Kind, value, ended, unmoved}
use Rattle.track_picture.proofs.EachKind.{gradients, speeds, restricted, zones}

-- ---- the happenings of a calm event but for its mark, and what none of them changes

abbrev calmly : TrackEntry → List Happening → List Happening
calmly event hs =
    and_seen event.train (and_missed event.initial.missed (and_moved event.initial.reading (and_ticked event.initial.clock hs)))

record Settled {A : Type 0} (of : List Happening → A) : Type 0 where
  ticked : (moment : ℕ) (hs : List Happening) → of (Happening.Ticked moment ∷ hs) ≡ of hs
  moved : (by : ℤ) (hs : List Happening) → of (Happening.Moved by ∷ hs) ≡ of hs
  missed : (number : ℕ) (hs : List Happening) → of (Happening.Linked (LinkEntry.Missed number) ∷ hs) ≡ of hs
  seen : (sight : Sight) (hs : List Happening) → of (Happening.Seen sight ∷ hs) ≡ of hs

module _ {A : Type 0} (of : List Happening → A) (settled : Settled of) where
  after_ticked : (clock : Option ℕ) (hs : List Happening) → of (and_ticked clock hs) ≡ of hs
  after_ticked None hs = refl
  after_ticked (Some moment) hs = settled.ticked moment hs

  after_moved : (reading : Option Reading) (hs : List Happening) → of (and_moved reading hs) ≡ of hs
  after_moved None hs = refl
  after_moved (Some reading) hs = settled.moved reading.movement hs

  after_missed : (announcements : List Announcement) (hs : List Happening) → of (and_missed announcements hs) ≡ of hs
  after_missed [] hs = refl
  after_missed (a ∷ announcements) hs =
      after_missed announcements (Happening.Linked (LinkEntry.Missed a.number) ∷ hs) ∙ settled.missed a.number hs

  after_seen : (train : Option Span) (hs : List Happening) → of (and_seen train hs) ≡ of hs
  after_seen None hs = refl
  after_seen (Some train) hs = settled.seen (record { moment = moment_in hs; train = train }) hs

  stays : (event : TrackEntry) (hs : List Happening) → of (calmly event hs) ≡ of hs
  stays event hs =
      let ticked = and_ticked event.initial.clock hs in
      let moved = and_moved event.initial.reading ticked in
      after_seen event.train (and_missed event.initial.missed moved)
      ∙ after_missed event.initial.missed moved ∙ after_moved event.initial.reading ticked ∙ after_ticked event.initial.clock hs

-- ---- the facts of a kind that no missed group and no look at the train brings or ends

abbrev Leaves : {X : Type 0} → Kind X → Happening → Type 0
Leaves {X} kind h = (filter_map kind.read (brought h) ≡ []) × ((x : X) → ended kind h x ≡ false)

abbrev IsLeft : {X : Type 0} → Kind X → Type 0
IsLeft kind = ((number : ℕ) → Leaves kind (Happening.Linked (LinkEntry.Missed number))) × ((sight : Sight) → Leaves kind (Happening.Seen sight))

settled_by : {X : Type 0} (kind : Kind X) → IsLeft kind → Settled (value kind)
settled_by kind left = record {
  ticked = λ moment hs. unmoved kind (Happening.Ticked moment) hs refl (λ x. refl);
  moved = λ by hs. unmoved kind (Happening.Moved by) hs refl (λ x. refl);
  missed = λ number hs. unmoved kind (Happening.Linked (LinkEntry.Missed number)) hs (left.0 number).0 (left.0 number).1;
  seen = λ sight hs. unmoved kind (Happening.Seen sight) hs (left.1 sight).0 (left.1 sight).1;
}

-- ---- a place from the new mark on is forgotten where it was before

forgotten : (place mark before : ℤ) → mark ≤ℤ place → int_lt place (int_max mark before) ≡ int_lt place before
forgotten place mark before above = grind (arith, ints)

uncovered : (mark place : ℤ) (r : Restriction) → reaches_past mark r ≡ false → covers mark place r ≡ false
uncovered mark place r past = grind (arith, ints)

one_kept : (test : Bool) (p : Restriction → Bool) (r : Restriction) (rs : List Restriction) → (test ≡ false → p r ≡ false) →
    filter p (cond test (r ∷ rs) rs) ≡ cond (p r) (r ∷ filter p rs) (filter p rs)
one_kept true p r rs none = refl
one_kept false p r rs none = rw (none refl) refl

kept : (p q : Restriction → Bool) → ((r : Restriction) → q r ≡ false → p r ≡ false) → (rs : List Restriction) → filter p (filter q rs) ≡ filter p rs
kept p q none [] = refl
kept p q none (r ∷ rs) =
    one_kept (q r) p r (filter q rs) (none r) ∙ ap (λ xs. cond (p r) (r ∷ xs) xs) (kept p q none rs)

-- the restrictions in force that cover a place and pass a test
abbrev pub covering : InForce → ℤ → (Restriction → Bool) → List Restriction
covering track place test = filter (λ r. covers track.mark place r && test r) track.restrictions

all_covering : (mark place : ℤ) (test : Restriction → Bool) (rs : List Restriction) →
    filter (λ r. covers mark place r && test r) (filter (reaches_past mark) rs) ≡ filter (λ r. covers mark place r && test r) rs
all_covering mark place test =
    kept (λ r. covers mark place r && test r) (reaches_past mark) (λ r past. and_left (covers mark place r) (test r) (uncovered mark place r past))

-- ---- from a place on, the same limits a train in both

pub record Alike (from : ℤ) (now before : List TrackEntry) : Type 0 where
  pub areas : areas_of now ≡ areas_of before
  pub speeds : (place : ℤ) → from ≤ℤ place → (speeds_of now).value place ≡ (speeds_of before).value place
  pub gradients : (place : ℤ) → from ≤ℤ place → (gradients_of now).value place ≡ (gradients_of before).value place
  pub restrictions : (place : ℤ) → from ≤ℤ place → (test : Restriction → Bool) → covering (restrictions_of now) place test ≡ covering (restrictions_of before) place test

module _ (event : TrackEntry) (earlier : List TrackEntry) (mark : ℤ) (closed : event.used.groups ≡ []) (entered : event.entered ≡ None)
    (marked : event.mark ≡ Some mark) where
  happened : happenings (event ∷ earlier) ≡ Happening.Marked mark ∷ calmly event (happenings earlier)
  happened = λ i.
      and_marked (marked i)
      (and_entered (entered i)
      (and_seen event.train
      (and_closed (closed i)
      (and_missed event.initial.missed (and_moved event.initial.reading (and_ticked event.initial.clock (happenings earlier)))))))

  same : {X : Type 0} (kind : Kind X) → IsLeft kind → value kind (happenings (event ∷ earlier)) ≡ value kind (happenings earlier)
  same kind left =
      ap (value kind) happened
      ∙ unmoved kind (Happening.Marked mark) (calmly event (happenings earlier)) refl (λ x. refl)
      ∙ stays (value kind) (settled_by kind left) event (happenings earlier)

  raised : mark_in (happenings (event ∷ earlier)) ≡ int_max mark (mark_in (happenings earlier))
  raised =
      let settled : Settled mark_in = record { ticked = λ m hs. refl; moved = λ b hs. refl; missed = λ n hs. refl; seen = λ s hs. refl } in
      ap mark_in happened ∙ ap (int_max mark) (stays mark_in settled event (happenings earlier))

  pub alike : (from : ℤ) → mark ≤ℤ from → Alike from (event ∷ earlier) earlier
  alike from ordered =
      let was = mark_in (happenings earlier) in
      let hidden = λ (place : ℤ) (above : from ≤ℤ place).
      ap (int_lt place) raised ∙ forgotten place mark was (omega (arith, ints)) in
      record {
        areas = ap (λ (xs : List (List Area)). areas_or_none (newest xs)) (same zones ((λ n. (refl, λ x. refl)), (λ s. (refl, λ x. refl))));
        speeds = λ place above i. cond (hidden place above i) None (latest (same speeds ((λ n. (refl, λ x. refl)), (λ s. (refl, λ x. refl))) i) place);
        gradients = λ place above i. cond (hidden place above i) None (latest (same gradients ((λ n. (refl, λ x. refl)), (λ s. (refl, λ x. refl))) i) place);
        restrictions = λ place above test.
            all_covering (mark_in (happenings (event ∷ earlier))) place test (reverse (value restricted (happenings (event ∷ earlier))))
            ∙ (λ i. filter (λ r. (not (hidden place above i) && not (int_lt place r.start) && int_lt place (end_of r)) && test r)
            (reverse (same restricted ((λ n. (refl, λ x. refl)), (λ s. (refl, λ x. refl))) i)))
            ∙ sym (all_covering was place test (reverse (value restricted (happenings earlier))));
      }
