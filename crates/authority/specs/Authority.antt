-- The end of authority, read off what one life brought (SUBSET-026, 3.8; when timers run out and which release speed
-- holds: this project's profile). Places are centimetres, moments milliseconds, the times of timers seconds, speeds
-- metres per hour.
use Rattle.std.specs.Prelude.{ℕ, ◌*◌, ◌==◌, ℤ, ◌+ℤ◌, ◌-ℤ◌, Bool, false, ◌&&◌, not, int_lt, if◌then◌else◌, List, [], ◌∷◌, find, Option, Some, None, option_map, unwrap_or}
use Rattle.std.specs.Option.{option_or}
use Rattle.std.specs.List.{list_any}
use Rattle.vars.specs.declared.scale.Scale.{Scale}
use Rattle.vars.specs.declared.special_speed.ReleaseSpeed.{ReleaseSpeed}
use Rattle.vars.specs.declared.special_speed.ReleaseSpeed.TheVariants as reported
use Rattle.packets.specs.declared.authority.EndTimer.{EndTimer}
use Rattle.packets.specs.declared.authority.DangerPoint.{DangerPoint}
use Rattle.packets.specs.declared.authority.Overlap.{Overlap}
use Rattle.authority.specs.declared.answers.End.{End}
use Rattle.authority.specs.declared.answers.Release.{Release}
use Rattle.authority.specs.declared.answers.Release.TheVariants.{Speed, National}
use Rattle.authority.specs.declared.timers.TimedSection.{TimedSection}
use Rattle.authority.specs.declared.stored.Point.{Point}
use Rattle.authority.specs.Entries.{AuthorityEntry, Fact, Sight, now_of, accepted, sights}
use Rattle.authority.specs.Timers.{has_run_out, started_has_run_out}
use Rattle.authority.specs.Track.{in_cm, end_entry, reported_end, timed_sections}

-- ---- sections

-- a front is at or above a place
abbrev pub reaches : ℤ → ℤ → Bool
reaches front place = not (int_lt front place)

-- a section's timer, which started at the acceptance, was stopped: before it ran out the minimum safe front was seen at
-- or above its stop place
abbrev pub was_stopped : ℕ → List Sight → TimedSection → Bool
was_stopped start seen section =
    list_any (λ sight. reaches sight.train.min_front section.stop_at && not (has_run_out section.time start sight.moment)) seen

abbrev pub section_has_run_out : ℕ → ℕ → List Sight → TimedSection → Bool
section_has_run_out start now seen section = has_run_out section.time start now && not (was_stopped start seen section)

-- ---- timers before the end

-- when the maximum safe front was first seen at or above a place
abbrev pub first_reached : ℤ → List Sight → Option ℕ
first_reached place [] = None
first_reached place (sight ∷ earlier) =
    option_or (first_reached place earlier) (if reaches sight.train.max_front place then Some sight.moment else None)

-- when a timer started that starts so far before the end
abbrev pub started_before : ℤ → Scale → ℕ → List Sight → Option ℕ
started_before end scale distance seen = first_reached (end -ℤ in_cm scale distance) seen

abbrev pub end_timer_has_run_out : ℤ → Scale → ℕ → List Sight → Option EndTimer → Bool
end_timer_has_run_out end scale now seen None = false
end_timer_has_run_out end scale now seen (Some timer) =
    started_has_run_out timer.time (started_before end scale timer.start seen) now

-- the overlap's timer
abbrev pub overlap_has_run_out : ℤ → Scale → ℕ → List Sight → Overlap → Bool
overlap_has_run_out end scale now seen overlap =
    started_has_run_out overlap.time (started_before end scale overlap.start seen) now

-- ---- the end

-- where the end is taken back to: the entry of the first section along the track that has run out, the end section
-- being the last; that one has run out with the end timer too
abbrev pub taken_back : Fact → ℕ → List Sight → Option ℤ
taken_back fact now seen =
    option_or (option_map (λ section. section.entry) (find (section_has_run_out fact.moment now seen) (timed_sections fact)))
    (if end_timer_has_run_out (reported_end fact) fact.packet.scale now seen fact.packet.end_timer then Some (end_entry fact) else None)

-- speeds, which are in steps of 5 km/h
abbrev pub speed_of : ℕ → ℕ
speed_of steps = 5_000 * steps

abbrev pub no_release : Release
no_release = Speed 0

-- a release speed that is reckoned on board is 0
abbrev pub release_of : ReleaseSpeed → Release
release_of (reported.Speed steps) = Speed (speed_of steps)
release_of reported.Onboard = no_release
release_of reported.National = National

-- the speed at the end, until its time is over
abbrev pub speed_at_end : Fact → ℕ → ℕ
speed_at_end fact now = if has_run_out fact.packet.end_time fact.moment now then 0 else speed_of fact.packet.end_speed

-- the danger point, and the overlap until its timer has run out
abbrev pub danger_point_of : ℤ → Scale → DangerPoint → Point
danger_point_of end scale point = record { location = end +ℤ in_cm scale point.distance; release = release_of point.release }

abbrev pub overlap_point_of : ℤ → Scale → Overlap → Point
overlap_point_of end scale overlap = record { location = end +ℤ in_cm scale overlap.distance; release = release_of overlap.release }

abbrev pub overlap_in_force : ℤ → Scale → ℕ → List Sight → Option Overlap → Option Point
overlap_in_force end scale now seen None = None
overlap_in_force end scale now seen (Some overlap) =
    if overlap_has_run_out end scale now seen overlap then None else Some (overlap_point_of end scale overlap)

-- the end itself, where nothing after it is supervised
abbrev pub bare_end : ℤ → Point
bare_end end = record { location = end; release = no_release }

-- what is supervised beyond the end: the overlap, else the danger point, else the end
abbrev pub supervised : Fact → ℕ → List Sight → Point
supervised fact now seen =
    unwrap_or (option_or (overlap_in_force (reported_end fact) fact.packet.scale now seen fact.packet.overlap)
    (option_map (danger_point_of (reported_end fact) fact.packet.scale) fact.packet.danger_point))
    (bare_end (reported_end fact))

-- the end of the last section; while a speed is allowed there, there is no release speed
abbrev pub end_with : ℤ → ℕ → Point → End
end_with end speed point =
    record { place = end; speed = speed; location = point.location; release = if speed == 0 then point.release else no_release }

-- the end now: that of the last section, or taken back
abbrev pub end_by : Fact → ℕ → List Sight → Option ℤ → End
end_by fact now seen None = end_with (reported_end fact) (speed_at_end fact now) (supervised fact now seen)
end_by fact now seen (Some place) = end_with place 0 (bare_end place)

abbrev pub end_now : Fact → ℕ → List Sight → End
end_now fact now seen = end_by fact now seen (taken_back fact now seen)

abbrev pub end_of : List AuthorityEntry → Option End
end_of entries = option_map (λ fact. end_now fact (now_of entries) (sights entries)) (accepted entries)

-- the greatest speed of the whole authority
abbrev pub main_speed_of : List AuthorityEntry → Option ℕ
main_speed_of entries = option_map (λ fact. speed_of fact.packet.speed) (accepted entries)
