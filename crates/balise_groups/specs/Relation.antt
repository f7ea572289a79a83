-- What a group closes to, as a relation in facts (SUBSET-026, 3.16.2, with the causes and their order of this project's
-- profile).
use Rattle.std.specs.Prelude.{ℕ, ◌+◌, ◌≤◌, ◌≡◌, List, [], ◌∷◌, ◌⊎◌, Some}
use Rattle.vars.specs.declared.group.Duplicate.TheVariants.{OfNext, OfPrevious}
use Rattle.balise_groups.specs.declared.reading.Reading.{Reading}
use Rattle.balise_groups.specs.declared.message.Cause.{Cause}
use Rattle.balise_groups.specs.declared.message.Cause.TheVariants.{Missing, Counter, Mixed}
use Rattle.balise_groups.specs.declared.message.Closed.{Closed}
use Rattle.balise_groups.specs.declared.message.Closed.TheVariants as closed
use Rattle.balise_groups.specs.Closing.{fits_all, fits_none, message_of, broken_by, close_of}

-- an element of a list
abbrev pub Has : {X : Type 0} → List X → X → Type 0
Has [] x = ⊥
Has (y ∷ ys) x = (x ≡ y) ⊎ Has ys x

-- All have the N_TOTAL and the Q_LINK of the first.
pub record AreOfOneGroup (first : Reading) (readings : List Reading) : Type 0 where
  pub all : (reading : Reading) → Has readings reading →
      (reading.telegram.header.last_position ≡ first.telegram.header.last_position)
      × (reading.telegram.header.linked ≡ first.telegram.header.linked)

-- No counter fits none, and those that don't fit all are equal.
pub record HaveOneCounter (readings : List Reading) : Type 0 where
  pub none_is_refused : (reading : Reading) → Has readings reading → ¬ (reading.telegram.header.counter ≡ fits_none)
  pub equal : (one other : Reading) → Has readings one → Has readings other →
      (one.telegram.header.counter ≡ fits_all) ⊎ (other.telegram.header.counter ≡ fits_all)
      ⊎ (one.telegram.header.counter ≡ other.telegram.header.counter)

-- The place was read, or the balise before it was read with M_DUP 1, or the one after it with M_DUP 2.
abbrev pub Covers : ℕ → Reading → Type 0
Covers place reading =
    (reading.telegram.header.position ≡ place)
    ⊎ ((reading.telegram.header.position + 1 ≡ place) × (reading.telegram.header.duplicate ≡ OfNext))
    ⊎ ((reading.telegram.header.position ≡ place + 1) × (reading.telegram.header.duplicate ≡ OfPrevious))

pub record CoverAll (first : Reading) (readings : List Reading) : Type 0 where
  pub each : (place : ℕ) → place ≤ first.telegram.header.last_position →
      (reading : Reading) × Has readings reading × Covers place reading

-- Mixed comes before Counter, and Counter before Missing.
abbrev pub Breaks : Reading → List Reading → Cause → Type 0
Breaks first readings Mixed = ¬ AreOfOneGroup first readings
Breaks first readings Counter = AreOfOneGroup first readings × (¬ HaveOneCounter readings)
Breaks first readings Missing =
    AreOfOneGroup first readings × HaveOneCounter readings × (¬ CoverAll first readings)

abbrev pub Closes : Reading → List Reading → Closed → Type 0
Closes first readings (closed.Whole message) =
    AreOfOneGroup first readings × HaveOneCounter readings × CoverAll first readings
    × (message ≡ message_of first readings)
Closes first readings (closed.Broken broken) =
    (broken ≡ broken_by first broken.cause) × Breaks first readings broken.cause

abbrev pub ClosesSo : Type 0
ClosesSo = (first : Reading) (readings : List Reading) (end : Closed) →
    close_of (first ∷ readings) ≡ Some end → Closes first (first ∷ readings) end
