-- What is kept of the entries: the clock, and the authority with what was seen of its timers (this project's profile).
-- Places are centimetres, moments milliseconds, the times of timers seconds.
use Rattle.std.specs.Prelude.{ℕ, ℤ, ◌-ℤ◌, not, filter, List, Option, option_map}
use Rattle.vars.specs.declared.scale.Scale.{Scale}
use Rattle.packets.specs.declared.authority.EndTimer.{EndTimer}
use Rattle.packets.specs.declared.authority.Overlap.{Overlap}
use Rattle.authority.specs.declared.timers.PlaceTimer.{PlaceTimer}
use Rattle.authority.specs.declared.stored.TimedOverlap.{TimedOverlap}
use Rattle.authority.specs.declared.stored.Stored.{Stored}
use Rattle.authority.specs.Entries.{AuthorityEntry, Fact, Sight, now_of, accepted, sights}
use Rattle.authority.specs.Track.{in_cm, end_entry, reported_end, timed_sections}
use Rattle.authority.specs.Authority.{was_stopped, started_before, speed_of, danger_point_of, overlap_point_of}

-- a timer that starts so far before the end, and when it started
abbrev pub timer_of : ℤ → Scale → ℕ → ℕ → List Sight → PlaceTimer
timer_of end scale distance time seen =
    record { from = end -ℤ in_cm scale distance; time = time; started = started_before end scale distance seen }

abbrev pub end_timer_of : ℤ → Scale → List Sight → EndTimer → PlaceTimer
end_timer_of end scale seen timer = timer_of end scale timer.start timer.time seen

abbrev pub overlap_of : ℤ → Scale → List Sight → Overlap → TimedOverlap
overlap_of end scale seen overlap =
    record { point = overlap_point_of end scale overlap; timer = timer_of end scale overlap.start overlap.time seen }

-- an authority, and what was seen since
abbrev pub stored_of : Fact → List Sight → Stored
stored_of fact seen = record {
  accepted = fact.moment;
  timed = record { items = filter (λ section. not (was_stopped fact.moment seen section)) (timed_sections fact) };
  end_entry = end_entry fact;
  end = reported_end fact;
  main_speed = speed_of fact.packet.speed;
  end_speed = speed_of fact.packet.end_speed;
  end_time = fact.packet.end_time;
  end_timer = option_map (end_timer_of (reported_end fact) fact.packet.scale seen) fact.packet.end_timer;
  danger_point = option_map (danger_point_of (reported_end fact) fact.packet.scale) fact.packet.danger_point;
  overlap = option_map (overlap_of (reported_end fact) fact.packet.scale seen) fact.packet.overlap;
}

-- the moment now, and what is stored of the authority
pub record KnownAuthority : Type 0 where
  pub moment : ℕ
  pub stored : Option Stored

abbrev pub known : List AuthorityEntry → KnownAuthority
known entries =
    record { moment = now_of entries; stored = option_map (λ fact. stored_of fact (sights entries)) (accepted entries) }
