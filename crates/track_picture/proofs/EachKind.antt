-- Each kind of fact.
use Rattle.std.proofs.Common.{◌≡◌, ℤ, List, refl, ◌⊎◌, inl, inr}
use Rattle.std.specs.Prelude.{Some, None}
use Rattle.areas.specs.declared.announcement.Announcement.{Announcement as AnnouncedLevel}
use Rattle.areas.specs.declared.area.Area.{Area}
use Rattle.authority.specs.Entries as authority
use Rattle.authority.specs.Entries.{Sight}
use Rattle.linking.specs.declared.announcement.Announcement.{Announcement}
use Rattle.national.specs.InForce as national
use Rattle.track_store.specs.declared.restriction.Restriction.{Restriction}
use Rattle.speed_profile.specs.declared.reported.CategorySpeeds.{CategorySpeeds}
use Rattle.track_store.specs.Facts as profiles
use Rattle.track_picture.specs.Live.{TrackFact}
use Rattle.track_picture.specs.Parts.{as_values, as_link, as_miss, as_authority, as_look, as_gradients, as_speeds, as_level, as_restriction, as_areas}
use Rattle.track_picture.proofs.OneKind.{Kind}

pub values_view : (f : TrackFact) → (as_values f ≡ None) ⊎ ((x : national.Fact) × (as_values f ≡ Some x) × (f ≡ TrackFact.Values x))
values_view (TrackFact.Values x) = inr (x, refl, refl)
values_view other = inl refl

abbrev pub values : Kind (national.Fact)
values = record { wrap = TrackFact.Values; read = as_values; view = values_view }

pub link_view : (f : TrackFact) → (as_link f ≡ None) ⊎ ((x : Announcement) × (as_link f ≡ Some x) × (f ≡ TrackFact.Link x))
link_view (TrackFact.Link x) = inr (x, refl, refl)
link_view other = inl refl

abbrev pub link : Kind (Announcement)
link = record { wrap = TrackFact.Link; read = as_link; view = link_view }

pub grant_view : (f : TrackFact) → (as_authority f ≡ None) ⊎ ((x : authority.Fact) × (as_authority f ≡ Some x) × (f ≡ TrackFact.Authority x))
grant_view (TrackFact.Authority x) = inr (x, refl, refl)
grant_view other = inl refl

abbrev pub grant : Kind (authority.Fact)
grant = record { wrap = TrackFact.Authority; read = as_authority; view = grant_view }

pub look_view : (f : TrackFact) → (as_look f ≡ None) ⊎ ((x : Sight) × (as_look f ≡ Some x) × (f ≡ TrackFact.Look x))
look_view (TrackFact.Look x) = inr (x, refl, refl)
look_view other = inl refl

abbrev pub look : Kind (Sight)
look = record { wrap = TrackFact.Look; read = as_look; view = look_view }

pub gradients_view : (f : TrackFact) → (as_gradients f ≡ None) ⊎ ((x : profiles.Fact ℤ) × (as_gradients f ≡ Some x) × (f ≡ TrackFact.Gradients x))
gradients_view (TrackFact.Gradients x) = inr (x, refl, refl)
gradients_view other = inl refl

abbrev pub gradients : Kind (profiles.Fact ℤ)
gradients = record { wrap = TrackFact.Gradients; read = as_gradients; view = gradients_view }

pub speeds_view : (f : TrackFact) → (as_speeds f ≡ None) ⊎ ((x : profiles.Fact CategorySpeeds) × (as_speeds f ≡ Some x) × (f ≡ TrackFact.Speeds x))
speeds_view (TrackFact.Speeds x) = inr (x, refl, refl)
speeds_view other = inl refl

abbrev pub speeds : Kind (profiles.Fact CategorySpeeds)
speeds = record { wrap = TrackFact.Speeds; read = as_speeds; view = speeds_view }

pub level_view : (f : TrackFact) → (as_level f ≡ None) ⊎ ((x : AnnouncedLevel) × (as_level f ≡ Some x) × (f ≡ TrackFact.Level x))
level_view (TrackFact.Level x) = inr (x, refl, refl)
level_view other = inl refl

abbrev pub level : Kind (AnnouncedLevel)
level = record { wrap = TrackFact.Level; read = as_level; view = level_view }

pub restricted_view : (f : TrackFact) → (as_restriction f ≡ None) ⊎ ((x : Restriction) × (as_restriction f ≡ Some x) × (f ≡ TrackFact.Restricted x))
restricted_view (TrackFact.Restricted x) = inr (x, refl, refl)
restricted_view other = inl refl

abbrev pub restricted : Kind (Restriction)
restricted = record { wrap = TrackFact.Restricted; read = as_restriction; view = restricted_view }

pub zones_view : (f : TrackFact) → (as_areas f ≡ None) ⊎ ((x : List Area) × (as_areas f ≡ Some x) × (f ≡ TrackFact.Areas x))
zones_view (TrackFact.Areas x) = inr (x, refl, refl)
zones_view other = inl refl

abbrev pub zones : Kind (List Area)
zones = record { wrap = TrackFact.Areas; read = as_areas; view = zones_view }

pub miss_view : (f : TrackFact) → (as_miss f ≡ None) ⊎ ((x : Unit {0}) × (as_miss f ≡ Some x) × (f ≡ TrackFact.Miss))
miss_view TrackFact.Miss = inr (tt, refl, refl)
miss_view other = inl refl

abbrev pub miss : Kind (Unit {0})
miss = record { wrap = λ x. TrackFact.Miss; read = as_miss; view = miss_view }
