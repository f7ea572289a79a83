-- What it says that an acknowledgement is owed, and that it was given before the transition, in words of what happened
-- (this project's profile). Moments are milliseconds. Lists have the newest first.
use Rattle.std.specs.Prelude.{◌≡◌, ◌≢◌, ◌↔◌, ℕ, Bool, true, false, List, ◌∷◌, ◌++◌}
use Rattle.std.specs.List.{list_any}
use Rattle.areas.specs.declared.acknowledgement.Acknowledgement.TheVariants as state
use Rattle.areas.specs.Acknowledging.{Happening, after_all}

-- what ends an acknowledgement that is owed, and one that was given before the transition
abbrev pub ends_owed : Happening → Bool
ends_owed Happening.Acknowledged = true
ends_owed (Happening.Entered moment) = true
ends_owed Happening.Requested = false
ends_owed Happening.Settled = false
ends_owed Happening.Deleted = true

abbrev pub ends_done : Happening → Bool
ends_done Happening.Acknowledged = false
ends_done (Happening.Entered moment) = true
ends_done Happening.Requested = false
ends_done Happening.Settled = true
ends_done Happening.Deleted = true

-- it is owed since a transition before which it wasn't given; nothing since has ended that
pub record IsOwed (since : ℕ) (happenings : List Happening) : Type 0 where
  pub later : List Happening
  pub earlier : List Happening
  pub in_turn : happenings ≡ later ++ Happening.Entered since ∷ earlier
  pub was_not_done : after_all earlier ≢ state.Done
  pub still : list_any ends_owed later ≡ false

-- it was given when it was asked for; nothing since has ended that
pub record IsDone (happenings : List Happening) : Type 0 where
  pub later : List Happening
  pub earlier : List Happening
  pub in_turn : happenings ≡ later ++ Happening.Acknowledged ∷ earlier
  pub was_requested : after_all earlier ≡ state.Requested
  pub still : list_any ends_done later ≡ false

-- what ends that something is owed: an acknowledgement, or a mode that deletes it; a power-up begins with no happening
abbrev pub ends_owing : Happening → Bool
ends_owing Happening.Acknowledged = true
ends_owing (Happening.Entered moment) = false
ends_owing Happening.Requested = false
ends_owing Happening.Settled = false
ends_owing Happening.Deleted = true

-- what is owed stays so, though perhaps since a later transition, until something ends it
abbrev pub OwedStays : Type 0
OwedStays = (since : ℕ) (later earlier : List Happening) → after_all earlier ≡ state.Owed since → list_any ends_owing later ≡ false →
    (moment : ℕ) × (after_all (later ++ earlier) ≡ state.Owed moment)

abbrev pub OwedSo : Type 0
OwedSo = (since : ℕ) (happenings : List Happening) → (after_all happenings ≡ state.Owed since) ↔ IsOwed since happenings

abbrev pub DoneSo : Type 0
DoneSo = (happenings : List Happening) → (after_all happenings ≡ state.Done) ↔ IsDone happenings
