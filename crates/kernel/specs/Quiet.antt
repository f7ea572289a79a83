-- Which events take no memory, and which states are copied without any (this project's profile).
use Rattle.std.specs.Prelude.{◌≡◌, ⊤}
use Rattle.events.specs.declared.input.Event.{Event}
use Rattle.events.specs.declared.input.Event.TheVariants.{PowerUp, Input}
use Rattle.track_picture.specs.StandsFor.{size_in}
use Rattle.track_picture.specs.Steps as track
use Rattle.track_picture.specs.Stores.{Stores}
use Rattle.kernel.specs.StandsFor.{Knowledge}

-- there is space for all packets that may be used by an event; none are by a power-up
abbrev pub HasSpaceFor : {G S : Type 0} → Stores G S → Knowledge G S → Event → Type 0
HasSpaceFor stores known (PowerUp cold) = ⊤
HasSpaceFor stores known (Input input) = track.HasSpaceFor stores known.supervision.track input

-- no restriction and no profile of the track is kept, nor space for one
abbrev pub HasNoTrack : {G S : Type 0} → Stores G S → Knowledge G S → Type 0
HasNoTrack stores known = size_in stores known.supervision.track ≡ 0
