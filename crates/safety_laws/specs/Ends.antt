-- That the end of the authority stays where it was reported, or comes nearer (SUBSET-026, 3.8; when timers run out: this
-- project's profile). Places are centimetres, moments milliseconds. Lists of events have the newest first; a life begins
-- at each power-up.
--
-- They say nothing of the supervised location or of the release speed, which may change when a timer has run out, and
-- nothing of an event that uses an authority, which may be a longer one.
use Rattle.std.specs.Prelude.{ℕ, ◌≡◌, ◌≤◌, ◌≤ℤ◌, Bool, false, Option, Some, is_some, List, ◌∷◌}
use Rattle.std.specs.List.{list_any}
use Rattle.authority.specs.Authority.{end_of}
use Rattle.authority.specs.declared.answers.End.{End}
use Rattle.events.specs.declared.input.Event.{Event}
use Rattle.events.specs.declared.input.Event.TheVariants as an_event
use Rattle.events.specs.declared.input.Input.{Input}
use Rattle.packets.specs.Packets.{as_movement_authority}
use Rattle.track_picture.specs.Entry.{Fact, Outcome, facts_in}
use Rattle.track_picture.specs.History.{authorities, moment_of}
use Rattle.mode_control.specs.History.{tracks}
use Rattle.mode_control.specs.Sentences.{entry_of}
use Rattle.kernel.specs.Lives.{life_of}

-- the end of the authority after some events, and the moment
abbrev pub end_after : List Event → Option End
end_after events = end_of (authorities (tracks (life_of events).entries))

abbrev pub moment_after : List Event → ℕ
moment_after events = moment_of (tracks (life_of events).entries)

-- one of the packets that the groups of an event reported, and that were used, is an authority (packet 12)
abbrev pub is_authority : Fact → Bool
is_authority fact = is_some (as_movement_authority fact.packet)

abbrev pub describes_authority : Outcome → Bool
describes_authority outcome = list_any is_authority (facts_in outcome)

abbrev pub uses_authority : List Event → Input → Bool
uses_authority events input = list_any describes_authority (entry_of (life_of events) input).track.used.groups

-- where an input uses none and no moment falls, an end that is known was known before, and it isn't farther
abbrev pub EndNeverMovesForward : Type 0
EndNeverMovesForward = (events : List Event) (input : Input) (new : End) →
    uses_authority events input ≡ false → moment_after events ≤ moment_after (an_event.Input input ∷ events) →
    end_after (an_event.Input input ∷ events) ≡ Some new →
    (old : End) × (end_after events ≡ Some old) × (new.place ≤ℤ old.place)
