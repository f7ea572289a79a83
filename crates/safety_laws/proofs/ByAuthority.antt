-- In Full Supervision and On Sight an authority is stored.
use Rattle.std.proofs.Common.{◌≡◌, Bool, true, false, List, [], ◌∷◌, refl, sym, subst, inl, inr, ◌⊎◌, ℕ}
use Rattle.std.specs.Prelude.{Option, Some, None, is_some}
use Rattle.std.specs.Option.{option_map, option_map_or}
use Rattle.authority.specs.Entries as authority
use Rattle.authority.specs.Entries.AuthorityEntry.{Accepted as Granted}
use Rattle.authority.specs.Authority.{end_of, end_now}
use Rattle.authority.specs.declared.answers.End.{End}
use Rattle.events.specs.declared.input.Event.{Event}
use Rattle.events.specs.declared.input.Event.TheVariants as an_event
use Rattle.events.specs.declared.input.Input.{Input}
use Rattle.mode_table.specs.declared.conditions.Conditions.{Conditions}
use Rattle.mode_table.specs.declared.mode.Mode.{Mode}
use Rattle.mode_table.specs.declared.mode.Mode.TheVariants.{FullSupervision, OnSight, StaffResponsible, Shunting, Unfitted, StandBy, Trip, PostTrip, SystemFailure}
use Rattle.mode_table.specs.Modes.{is_mode, is_one_of}
use Rattle.mode_table.specs.Rows.{next_mode}
use Rattle.packets.specs.declared.authority.MovementAuthority.{MovementAuthority}
use Rattle.packets.specs.Packets.{as_movement_authority}
use Rattle.track_picture.specs.Entry.{Outcome, Fact, facts_in}
use Rattle.track_picture.specs.History as picture
use Rattle.track_picture.specs.Columns.{after_authority, after_facts}
use Rattle.track_picture.proofs.SameParts.{same_accepted}
use Rattle.mode_control.specs.Conditions.{is_full_to}
use Rattle.mode_control.specs.History.{tracks, mode_of}
use Rattle.mode_control.specs.Life.{Life, grown}
use Rattle.mode_control.specs.Sentences.{reported, entry_of}
use Rattle.kernel.specs.Lives.{life_of}
use Rattle.safety_laws.specs.Running.{modes_by_authority}
use Rattle.safety_laws.proofs.AuthorityReport.{authorities, after_clock, after_reported, after_train, after_entered, by_event}
use Rattle.safety_laws.proofs.Events.{past_turn, event_seen, train, found}

abbrev runs : Mode → Bool
runs mode = is_one_of modes_by_authority mode

-- an authority is stored
abbrev stored : List authority.AuthorityEntry → Type 0
stored entries = is_some (authority.accepted entries) ≡ true

-- ---- what leaves one stored

past_clock : (clock : Option ℕ) (entries : List authority.AuthorityEntry) → stored entries → stored (after_clock clock entries)
past_clock None entries h = h
past_clock (Some moment) entries h = h

by_packet : (packet : Option MovementAuthority) (fact : Fact) (entries : List authority.AuthorityEntry) → stored entries →
    stored (option_map_or (λ p. Granted (authority.fact_of p fact.place fact.moment) ∷ entries) packet entries)
by_packet None fact entries h = h
by_packet (Some p) fact entries h = refl

past_facts : (facts : List Fact) (entries : List authority.AuthorityEntry) → stored entries → stored (after_facts after_authority facts entries)
past_facts [] entries h = h
past_facts (fact ∷ facts) entries h =
    past_facts facts (after_authority fact entries) (by_packet (as_movement_authority fact.packet) fact entries h)

past_groups : (outcomes : List Outcome) (entries : List authority.AuthorityEntry) → stored entries → stored (after_reported outcomes entries)
past_groups [] entries h = h
past_groups (outcome ∷ outcomes) entries h =
    past_facts (facts_in outcome) (after_reported outcomes entries) (past_groups outcomes entries h)

past_mode : (mode : Mode) (entries : List authority.AuthorityEntry) → runs mode ≡ true → stored entries →
    stored (after_entered (Some mode) entries)
past_mode FullSupervision entries h s = s
past_mode OnSight entries h s = s
past_mode mode entries h s = absurd (let no : false ≡ true = h in cc)

-- ---- who enters such a mode from another one has an authority

from_stand_by : (c : Conditions) (overrun shunting_chosen started level_1 full level_0 : Bool) →
    runs (next_mode StandBy (record c { overrun = overrun; shunting_chosen = shunting_chosen; started = started; level_1 = level_1; full = full; level_0 = level_0 })) ≡ true →
    full ≡ true
from_stand_by c false false true true true level_0 h = refl
from_stand_by c false false true false full true h = absurd (let no : false ≡ true = h in cc)
from_stand_by c overrun shunting_chosen started level_1 full level_0 h = absurd (let no : false ≡ true = h in cc)

from_unfitted : (c : Conditions) (overrun desk_closed level_1 full shunting_chosen : Bool) →
    runs (next_mode Unfitted (record c { overrun = overrun; desk_closed = desk_closed; level_1 = level_1; full = full; shunting_chosen = shunting_chosen })) ≡ true →
    full ≡ true
from_unfitted c false false true true shunting_chosen h = refl
from_unfitted c false false false full true h = absurd (let no : false ≡ true = h in cc)
from_unfitted c overrun desk_closed level_1 full shunting_chosen h = absurd (let no : false ≡ true = h in cc)

from_staff : (c : Conditions) (overrun desk_closed trip beyond_staff_distance shunting_chosen level_0 full : Bool) →
    runs (next_mode StaffResponsible (record c { overrun = overrun; desk_closed = desk_closed; trip = trip; beyond_staff_distance = beyond_staff_distance; shunting_chosen = shunting_chosen; level_0 = level_0; full = full })) ≡ true →
    full ≡ true
from_staff c false false false false false false true h = refl
from_staff c overrun desk_closed trip beyond_staff_distance shunting_chosen level_0 full h = absurd (let no : false ≡ true = h in cc)

from_shunting : (c : Conditions) (overrun desk_closed shunting_left : Bool) →
    runs (next_mode Shunting (record c { overrun = overrun; desk_closed = desk_closed; shunting_left = shunting_left })) ≡ true → ⊥
from_shunting c false false false h = let no : false ≡ true = h in cc
from_shunting c overrun desk_closed shunting_left h = let no : false ≡ true = h in cc

from_trip : (c : Conditions) (overrun trip_acknowledged : Bool) →
    runs (next_mode Trip (record c { overrun = overrun; trip_acknowledged = trip_acknowledged })) ≡ true → ⊥
from_trip c false false h = let no : false ≡ true = h in cc
from_trip c overrun trip_acknowledged h = let no : false ≡ true = h in cc

from_post_trip : (c : Conditions) (overrun desk_closed override_accepted shunting_chosen started level_1 level_0 : Bool) →
    runs (next_mode PostTrip (record c { overrun = overrun; desk_closed = desk_closed; override_accepted = override_accepted; shunting_chosen = shunting_chosen; started = started; level_1 = level_1; level_0 = level_0 })) ≡ true → ⊥
from_post_trip c false false false false true false true h = let no : false ≡ true = h in cc
from_post_trip c overrun desk_closed override_accepted shunting_chosen started level_1 level_0 h = let no : false ≡ true = h in cc

enters : (old : Mode) (c : Conditions) → runs (next_mode old c) ≡ true → (runs old ≡ true) ⊎ (c.full ≡ true)
enters FullSupervision c h = inl refl
enters OnSight c h = inl refl
enters StaffResponsible c h = inr (from_staff c c.overrun c.desk_closed c.trip c.beyond_staff_distance c.shunting_chosen c.level_0 c.full h)
enters Shunting c h = absurd (from_shunting c c.overrun c.desk_closed c.shunting_left h)
enters Unfitted c h = inr (from_unfitted c c.overrun c.desk_closed c.level_1 c.full c.shunting_chosen h)
enters StandBy c h = inr (from_stand_by c c.overrun c.shunting_chosen c.started c.level_1 c.full c.level_0 h)
enters Trip c h = absurd (from_trip c c.overrun c.trip_acknowledged h)
enters PostTrip c h = absurd (from_post_trip c c.overrun c.desk_closed c.override_accepted c.shunting_chosen c.started c.level_1 c.level_0 h)
enters SystemFailure c h = absurd (let no : false ≡ true = h in cc)

-- where all is known up to the end, there is one
full_stored : (fact : Option authority.Fact) (end : authority.Fact → End) (test : End → Bool) →
    option_map_or test (option_map end fact) false ≡ true → is_some fact ≡ true
full_stored None end test h = absurd (let no : false ≡ true = h in cc)
full_stored (Some fact) end test h = refl

-- ---- one event, and all

module _ (life : Life) (input : Input) where
  abbrev seen : List authority.AuthorityEntry
  seen =
      let event = reported life input in
      after_train (Some (train life input)) (after_reported event.used.groups (after_clock event.initial.clock (authorities (tracks life.entries))))

  -- as it is read off the facts that count
  abbrev read : List authority.AuthorityEntry
  read = picture.authorities (tracks (event_seen life input ∷ life.entries))

  one_event : (runs (mode_of life.entries) ≡ true → stored (authorities (tracks life.entries))) →
      runs (mode_of (entry_of life input ∷ life.entries)) ≡ true → stored (authorities (tracks (entry_of life input ∷ life.entries)))
  one_event before now =
      let c : Conditions = found life input in
      let old : Mode = mode_of life.entries in
      let new : Mode = next_mode old c in
      let was : List authority.AuthorityEntry = authorities (tracks life.entries) in
      let event = reported life input in
      let still : stored was → stored seen = λ s. past_groups event.used.groups (after_clock event.initial.clock was) (past_clock event.initial.clock was s) in
      subst stored (sym (by_event (entry_of life input).track (tracks life.entries)))
      (past_turn runs (λ (entered : Option Mode). stored (after_entered entered seen)) (is_mode old new) old new now (λ h. still (before h))
      (λ h. past_mode new seen h (elim (enters old c h) [
        | inl ran ↦ still (before ran)
        | inr full ↦ subst stored (by_event (event_seen life input).track (tracks life.entries))
            (subst (λ (fact : Option authority.Fact). is_some fact ≡ true) (same_accepted (tracks (event_seen life input ∷ life.entries)))
            (full_stored (authority.accepted read) (λ (fact : authority.Fact). end_now fact (authority.now_of read) (authority.sights read))
            (is_full_to (grown life (event_seen life input)) (train life input).max_front) full))
      ])))

runs_stored : (events : List Event) → runs (mode_of (life_of events).entries) ≡ true → stored (authorities (tracks (life_of events).entries))
runs_stored [] h = absurd (let no : false ≡ true = h in cc)
runs_stored (an_event.PowerUp c ∷ events) h = absurd (let no : false ≡ true = h in cc)
runs_stored (an_event.Input input ∷ events) h = one_event (life_of events) input (runs_stored events) h

end_there : (fact : Option authority.Fact) (end : authority.Fact → End) → is_some fact ≡ true → (e : End) × (option_map end fact ≡ Some e)
end_there None end h = absurd (let no : false ≡ true = h in cc)
end_there (Some fact) end h = (end fact, refl)

pub runs_by_end : (events : List Event) → runs (mode_of (life_of events).entries) ≡ true →
    (end : End) × (end_of (picture.authorities (tracks (life_of events).entries)) ≡ Some end)
runs_by_end events h =
    let entries = picture.authorities (tracks (life_of events).entries) in
    end_there (authority.accepted entries) (λ (fact : authority.Fact). end_now fact (authority.now_of entries) (authority.sights entries))
    (subst (λ (fact : Option authority.Fact). is_some fact ≡ true) (sym (same_accepted (tracks (life_of events).entries))) (runs_stored events h))
