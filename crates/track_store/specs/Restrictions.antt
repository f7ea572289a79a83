-- Temporary speed restrictions, read off what one life brought (SUBSET-026, 3.11.5; the forgetting mark and what the
-- lengths of trains have to do with it: this project's profile). Lists of entries have the newest first. Places are
-- centimetres, speeds metres per hour.
use Rattle.std.specs.Prelude.{ℕ, ◌+◌, ℤ, pos, neg_ℤ, Bool, false, if◌then◌else◌, List, [], ◌∷◌, ◌++◌, length, filter, map}
use Rattle.std.specs.Int.{int_max}
use Rattle.std.specs.List.{list_any}
use Rattle.units.specs.Limits.{outermost}
use Rattle.units.specs.Stretches.{Span, over, least}
use Rattle.track_store.specs.declared.restriction.Restriction.{Restriction}
use Rattle.track_store.specs.Covering.{is_ended_by, reaches_past, limits_at}

-- what bears on restrictions: a restriction (packet 65), a revocation of those of a number (packet 66), a forgetting
-- mark
pub data RestrictionEntry : Type 0 where
  Restricted : Restriction → RestrictionEntry
  Revoked : ℕ → RestrictionEntry
  Forgotten : ℤ → RestrictionEntry

-- an entry ends the restrictions that came before it under its number; number 255 is never replaced nor revoked
abbrev pub ends : RestrictionEntry → Restriction → Bool
ends (Restricted by) restriction = is_ended_by by.number restriction
ends (Revoked number) restriction = is_ended_by number restriction
ends (Forgotten mark) restriction = false

-- of these entries the restrictions that no later entry ends, the oldest first
abbrev pub standing_but_for : List RestrictionEntry → List RestrictionEntry → List Restriction
standing_but_for later [] = []
standing_but_for later (Restricted restriction ∷ entries) =
    standing_but_for (Restricted restriction ∷ later) entries
    ++ (if list_any (λ entry. ends entry restriction) later then [] else restriction ∷ [])
standing_but_for later (Revoked number ∷ entries) = standing_but_for (Revoked number ∷ later) entries
standing_but_for later (Forgotten mark ∷ entries) = standing_but_for (Forgotten mark ∷ later) entries

abbrev pub standing : List RestrictionEntry → List Restriction
standing entries = standing_but_for [] entries

-- the greatest forgetting mark; without one, the least place that there is
abbrev pub mark_of : List RestrictionEntry → ℤ
mark_of [] = neg_ℤ (pos outermost)
mark_of (Restricted restriction ∷ entries) = mark_of entries
mark_of (Revoked number ∷ entries) = mark_of entries
mark_of (Forgotten mark ∷ entries) = int_max mark (mark_of entries)

-- the forgetting mark, and the restrictions in force that aren't wholly forgotten
pub record InForce : Type 0 where
  pub mark : ℤ
  pub restrictions : List Restriction

-- .. and for how many more restrictions there is space
pub record Held : Type 0 where
  pub track : InForce
  pub space : ℕ

-- how many restrictions it keeps or has space for
abbrev pub size_of : Held → ℕ
size_of held = length held.track.restrictions + held.space

abbrev pub in_force : List RestrictionEntry → InForce
in_force entries = record { mark = mark_of entries; restrictions = filter (reaches_past (mark_of entries)) (standing entries) }

-- the speeds of the restrictions that limit a train at a centimetre
abbrev pub speeds_at : InForce → Span → ℤ → List ℕ
speeds_at track train place = map (λ restriction. restriction.speed) (filter (limits_at track.mark train place) track.restrictions)

-- the least of a speed and of all that limit a train at a centimetre from its minimum safe rear to its maximum safe
-- front
abbrev pub least_speed : InForce → Span → ℕ → ℕ
least_speed track train otherwise = least otherwise (over (speeds_at track train) train.rear train.max_front)
