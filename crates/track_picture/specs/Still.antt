-- Nothing that is known may come: no mode area, no announced level, no announced national values, no time of the
-- authority that runs (SUBSET-026, 3.8, 3.12.4, 3.18.2 and 5.10; the rest: this project's profile).
use Rattle.std.specs.Prelude.{◌≡◌, Bool, true, false, is_none, None, []}
use Rattle.authority.specs.Untimed.{IsUntimed}
use Rattle.events.specs.declared.input.Input.{Input}
use Rattle.events.specs.declared.input.Input.TheVariants.{Telegram, Odometer, Clock, Driver}
use Rattle.track_picture.specs.StandsFor.{KnownTrack}

pub record IsStill (known : KnownTrack) : Type 0 where
  pub areas : known.areas ≡ []
  pub level : known.level ≡ None
  pub values : known.national.announced ≡ None
  pub untimed : IsUntimed known.authority.stored

-- what may come is the same: areas, announced level, national values, authority
abbrev pub SameAhead : KnownTrack → KnownTrack → Type 0
SameAhead old new =
    (new.areas ≡ old.areas) × (new.level ≡ old.level) × (new.national ≡ old.national) × (new.authority.stored ≡ old.authority.stored)

-- an input that can close no balise group: a moment, and a reading while no group is being read
abbrev pub closes_none : KnownTrack → Input → Bool
closes_none known (Telegram bytes) = false
closes_none known (Odometer reading) = is_none known.groups.current
closes_none known (Clock moment) = true
closes_none known (Driver action) = false
