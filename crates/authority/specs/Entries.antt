-- What bears on the movement authority in one life (SUBSET-026, 3.8; the order of one event: this project's profile).
-- Lists of entries have the newest first. Places are centimetres, moments milliseconds.
use Rattle.std.specs.Prelude.{ℕ, ℤ, ◌≤◌, List, [], ◌∷◌, Option, Some, None}
use Rattle.units.specs.Stretches.{Span}
use Rattle.packets.specs.declared.authority.MovementAuthority.{MovementAuthority}

-- an authority as it was accepted: its packet 12, the place from which its sections count, and the moment
pub record Fact : Type 0 where
  pub packet : MovementAuthority
  pub place : ℤ
  pub moment : ℕ

abbrev pub fact_of : MovementAuthority → ℤ → ℕ → Fact
fact_of packet place moment = record { packet = packet; place = place; moment = moment }

-- what bears on it: the clock, an authority that was accepted, where the train was after a whole event, and that the
-- authority was deleted
pub data AuthorityEntry : Type 0 where
  Ticked : ℕ → AuthorityEntry
  Accepted : Fact → AuthorityEntry
  Passed : Span → AuthorityEntry
  Cleared : AuthorityEntry

-- the moment now
abbrev pub now_of : List AuthorityEntry → ℕ
now_of [] = 0
now_of (Ticked moment ∷ entries) = moment
now_of (Accepted fact ∷ entries) = fact.moment
now_of (Passed train ∷ entries) = now_of entries
now_of (Cleared ∷ entries) = now_of entries

-- moments never fall
abbrev pub IsInOrder : List AuthorityEntry → Type 0
IsInOrder [] = Unit {0}
IsInOrder (entry ∷ entries) = (now_of entries ≤ now_of (entry ∷ entries)) × IsInOrder entries

-- the authority that was accepted last, unless it was deleted
abbrev pub accepted : List AuthorityEntry → Option Fact
accepted [] = None
accepted (Ticked moment ∷ entries) = accepted entries
accepted (Accepted fact ∷ entries) = Some fact
accepted (Passed train ∷ entries) = accepted entries
accepted (Cleared ∷ entries) = None

-- where the train was, and when
pub record Sight : Type 0 where
  pub moment : ℕ
  pub train : Span

-- what was seen from the acceptance on
abbrev pub sights : List AuthorityEntry → List Sight
sights [] = []
sights (Ticked moment ∷ entries) = sights entries
sights (Accepted fact ∷ entries) = []
sights (Passed train ∷ entries) = record { moment = now_of entries; train = train } ∷ sights entries
sights (Cleared ∷ entries) = []
