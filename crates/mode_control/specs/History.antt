-- What each part sees of the events of a life (this project's profile; acknowledgements: SUBSET-026, 4.10, 5.7, 5.9 and
-- 5.10). Distances are centimetres, moments milliseconds. Lists of events have the newest first; what one event brings
-- stands in its order. A reader may take for granted that the last entry is the power-up, and that the newest may be
-- an event that isn't whole yet: what it hasn't brought so far it doesn't bring.
use Rattle.std.specs.Prelude.{ℕ, Bool, true, false, not, if◌then◌else◌, Option, Some, None, unwrap_or, List, [], ◌∷◌}
use Rattle.std.specs.Option.{option_map}
use Rattle.areas.specs.declared.acknowledgement.Acknowledgement.{Acknowledgement}
use Rattle.areas.specs.declared.acknowledgement.Acknowledgement.TheVariants.{Nothing}
use Rattle.areas.specs.Acknowledging.{Happening, after_event}
use Rattle.driver.specs.declared.action.Action.{Action}
use Rattle.driver.specs.declared.action.Action.TheVariants.{Acknowledge}
use Rattle.driver.specs.declared.action.Acknowledged.{Acknowledged}
use Rattle.driver.specs.declared.action.Acknowledged.TheVariants as given
use Rattle.driver.specs.Entries as driver
use Rattle.mode_table.specs.declared.level.TrainLevel.{TrainLevel}
use Rattle.mode_table.specs.declared.mode.Mode.{Mode}
use Rattle.mode_table.specs.declared.mode.Mode.TheVariants.{StaffResponsible, StandBy}
use Rattle.mode_table.specs.declared.statuses.Item.TheVariants as item
use Rattle.mode_table.specs.Modes.{is_mode}
use Rattle.mode_table.specs.Statuses.{status_on}
use Rattle.track_picture.specs.Entry as track
use Rattle.track_picture.specs.History.{place_of}
use Rattle.track_picture.specs.Live.{is_deleted}
use Rattle.mode_control.specs.declared.deed.Deed.{Deed}
use Rattle.mode_control.specs.declared.calls.Call.{Call}
use Rattle.mode_control.specs.declared.calls.Calls.{Calls}
use Rattle.mode_control.specs.declared.calls.Left.{Left}
use Rattle.mode_control.specs.declared.calls.Kind.{Kind}
use Rattle.mode_control.specs.declared.calls.Kind.TheVariants as kinds
use Rattle.mode_control.specs.Entry.{SupervisionEntry}

-- ---- what the track sent

abbrev pub tracks : List SupervisionEntry → List track.TrackEntry
tracks [] = []
tracks (entry ∷ entries) = entry.track ∷ tracks entries

-- ---- the mode: that of the last event that entered one, Stand By as a life begins

abbrev pub mode_of : List SupervisionEntry → Mode
mode_of [] = StandBy
mode_of (entry ∷ entries) = unwrap_or entry.track.entered (mode_of entries)

-- the path of the life when Staff Responsible was entered last
abbrev pub enters_staff : Option Mode → Bool
enters_staff None = false
enters_staff (Some mode) = is_mode StaffResponsible mode

abbrev pub staff_from : List SupervisionEntry → ℕ
staff_from [] = 0
staff_from (entry ∷ entries) =
    if enters_staff entry.track.entered then (place_of (tracks (entry ∷ entries))).sums.path else staff_from entries

-- ---- the action that was accepted in the last event

abbrev pub action_of : Option Deed → Option Action
action_of deed = option_map (λ d. d.action) deed

abbrev pub done_in : List SupervisionEntry → Option Action
done_in [] = None
done_in (entry ∷ entries) = action_of entry.deed

-- ---- what bears on the driver's data: the accepted actions, the levels that came into force, the modes that were
-- entered

abbrev pub after_deed : Option Deed → List driver.DriverEntry → List driver.DriverEntry
after_deed None entries = entries
after_deed (Some deed) entries = driver.DriverEntry.Did deed.action deed.occasion ∷ entries

abbrev pub after_level : Option TrainLevel → List driver.DriverEntry → List driver.DriverEntry
after_level None entries = entries
after_level (Some level) entries = driver.DriverEntry.LevelEntered level ∷ entries

abbrev pub after_mode : Option Mode → List driver.DriverEntry → List driver.DriverEntry
after_mode None entries = entries
after_mode (Some mode) entries = driver.DriverEntry.ModeEntered mode ∷ entries

abbrev pub deeds : List SupervisionEntry → List driver.DriverEntry
deeds [] = []
deeds (entry ∷ entries) = after_mode entry.track.entered (after_level entry.level (after_deed entry.deed (deeds entries)))

-- ---- the acknowledgement of a kind, by the table of what becomes of it (5.7, 5.9 and 5.10)

abbrev pub is_for : Kind → Acknowledged → Bool
is_for kinds.OnSight given.OnSight = true
is_for kinds.Shunting given.Shunting = true
is_for kinds.Level0 given.Level0 = true
is_for kind other = false

-- the driver acknowledges this kind
abbrev pub acknowledges : Kind → Option Action → Bool
acknowledges kind (Some (Acknowledge other)) = is_for kind other
acknowledges kind action = false

abbrev pub call_for : Kind → Calls → Call
call_for kinds.OnSight calls = calls.on_sight
call_for kinds.Shunting calls = calls.shunting
call_for kinds.Level0 calls = calls.level_0

abbrev pub remains : Kind → Left → Bool
remains kinds.OnSight left = left.on_sight
remains kinds.Shunting left = left.shunting
remains kinds.Level0 left = left.level_0

abbrev pub only : Bool → Happening → Option Happening
only so happening = if so then Some happening else None

abbrev pub entered_at : Option ℕ → Option Happening
entered_at turned = option_map (λ moment. Happening.Entered moment) turned

-- a mode was entered that deletes acknowledgements (4.10)
abbrev pub deletes : Option Mode → Bool
deletes None = false
deletes (Some mode) = is_deleted (status_on item.Acknowledgements mode)

-- what an event brings to a kind, in its order (this project's profile). What is acknowledged in the event of the
-- transition is so before it; what its area or announcement asks for is asked before a mode deletes it
abbrev pub happenings : Kind → SupervisionEntry → List (Option Happening)
happenings kind event =
    only (acknowledges kind (action_of event.deed)) Happening.Acknowledged
    ∷ entered_at (call_for kind event.calls).turned
    ∷ only (call_for kind event.calls).asks Happening.Requested
    ∷ only (deletes event.track.entered) Happening.Deleted
    ∷ only (not (remains kind event.left)) Happening.Settled
    ∷ []

abbrev pub acknowledgement : Kind → List SupervisionEntry → Acknowledgement
acknowledgement kind [] = Nothing
acknowledgement kind (event ∷ earlier) = after_event (happenings kind event) (acknowledgement kind earlier)

abbrev pub on_sight_of : List SupervisionEntry → Acknowledgement
on_sight_of entries = acknowledgement kinds.OnSight entries

abbrev pub shunting_of : List SupervisionEntry → Acknowledgement
shunting_of entries = acknowledgement kinds.Shunting entries

abbrev pub level_0_of : List SupervisionEntry → Acknowledgement
level_0_of entries = acknowledgement kinds.Level0 entries
