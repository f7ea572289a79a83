-- What follows from the definitions, in words of places and moments (SUBSET-026, 3.8, and this project's profile).
-- Places are centimetres, moments milliseconds, the times of timers seconds.
use Rattle.std.specs.Prelude.{◌≡◌, ◌≢◌, ◌⊎◌, ◌↔◌, ℕ, ◌+◌, ◌*◌, ◌<◌, ◌≤◌, ℤ, ◌<ℤ◌, ◌≤ℤ◌, List, [], ◌∷◌, ◌++◌, Some, IsTrue}
use Rattle.authority.specs.declared.answers.End.{End}
use Rattle.authority.specs.declared.timers.TimedSection.{TimedSection}
use Rattle.authority.specs.Entries.{AuthorityEntry, Fact, Sight, now_of, accepted, sights, IsInOrder}
use Rattle.authority.specs.Entries.AuthorityEntry.{Ticked, Accepted, Passed, Cleared}
use Rattle.authority.specs.Timers.{never}
use Rattle.authority.specs.Track.{timed_sections, end_entry, reported_end}
use Rattle.authority.specs.Authority.{section_has_run_out, first_reached, end_timer_has_run_out, end_of, main_speed_of}

abbrev pub IsAmong : {A : Type 0} → A → List A → Type 0
IsAmong x [] = ⊥
IsAmong x (y ∷ ys) = (x ≡ y) ⊎ IsAmong x ys

-- ---- timers

-- a section has run out: its time is over, and whenever the minimum safe front was seen before that, it was short of
-- the stop place
pub record HasRunOut (start now : ℕ) (seen : List Sight) (section : TimedSection) : Type 0 where
  pub has_expiry : section.time ≢ never
  pub is_over : start + 1000 * section.time ≤ now
  pub was_short : (sight : Sight) → IsAmong sight seen → sight.moment < start + 1000 * section.time → sight.train.min_front <ℤ section.stop_at

abbrev pub SectionsRunOut : Type 0
SectionsRunOut =
    (start now : ℕ) (seen : List Sight) (section : TimedSection) →
    IsTrue (section_has_run_out start now seen section) ↔ HasRunOut start now seen section

-- a timer that starts at a place did so at a moment: then the maximum safe front was seen at or above the place, and
-- each time before that it was short of it
pub record StartedAt (place : ℤ) (seen : List Sight) (moment : ℕ) : Type 0 where
  pub later : List Sight
  pub sight : Sight
  pub earlier : List Sight
  pub in_turn : seen ≡ later ++ sight ∷ earlier
  pub at_moment : sight.moment ≡ moment
  pub reached : place ≤ℤ sight.train.max_front
  pub was_short : (before : Sight) → IsAmong before earlier → before.train.max_front <ℤ place

abbrev pub TimersStart : Type 0
TimersStart = (place : ℤ) (seen : List Sight) (moment : ℕ) → (first_reached place seen ≡ Some moment) ↔ StartedAt place seen moment

-- ---- the end

-- where the end may be: at that of the last section; at the entry of the end section, where the end timer has run out;
-- at the entry of a section that has run out
abbrev pub MayBeEnd : Fact → ℕ → List Sight → ℤ → Type 0
MayBeEnd fact now seen place =
    (place ≡ reported_end fact)
    ⊎ (IsTrue (end_timer_has_run_out (reported_end fact) fact.packet.scale now seen fact.packet.end_timer) × (place ≡ end_entry fact))
    ⊎ ((section : TimedSection) × IsAmong section (timed_sections fact) × HasRunOut fact.moment now seen section × (place ≡ section.entry))

-- it is at the nearest of these places, whatever the order in which the times were over
abbrev pub EndIsTheNearest : Type 0
EndIsTheNearest =
    (entries : List AuthorityEntry) (fact : Fact) (end : End) → accepted entries ≡ Some fact → end_of entries ≡ Some end →
    MayBeEnd fact (now_of entries) (sights entries) end.place
    × ((place : ℤ) → MayBeEnd fact (now_of entries) (sights entries) place → end.place ≤ℤ place)

-- among these entries no authority is accepted or deleted
abbrev pub KeepsAuthority : List AuthorityEntry → Type 0
KeepsAuthority [] = Unit {0}
KeepsAuthority (Ticked moment ∷ entries) = KeepsAuthority entries
KeepsAuthority (Accepted fact ∷ entries) = ⊥
KeepsAuthority (Passed train ∷ entries) = KeepsAuthority entries
KeepsAuthority (Cleared ∷ entries) = ⊥

-- while an authority is kept and moments don't fall, its end never moves forward
abbrev pub EndNeverMovesForward : Type 0
EndNeverMovesForward =
    (later entries : List AuthorityEntry) (old new : End) → KeepsAuthority later → IsInOrder (later ++ entries) →
    end_of entries ≡ Some old → end_of (later ++ entries) ≡ Some new → new.place ≤ℤ old.place

-- nothing before an acceptance matters
abbrev pub AcceptanceForgets : Type 0
AcceptanceForgets =
    (later before : List AuthorityEntry) (fact : Fact) →
    (end_of (later ++ Accepted fact ∷ before) ≡ end_of (later ++ Accepted fact ∷ []))
    × (main_speed_of (later ++ Accepted fact ∷ before) ≡ main_speed_of (later ++ Accepted fact ∷ []))
