-- What single functions do with what is stored of an authority, and read off it (this project's profile). Places are
-- centimetres, moments milliseconds, the times of timers seconds.
use Rattle.std.specs.Prelude.{ℕ, ℤ, Bool, false, not, ◌&&◌, if◌then◌else◌, filter, find, List, Option, Some, None, option_map, unwrap_or}
use Rattle.std.specs.Option.{option_or}
use Rattle.units.specs.Stretches.{Span}
use Rattle.authority.specs.declared.answers.End.{End}
use Rattle.authority.specs.declared.timers.TimedSection.{TimedSection}
use Rattle.authority.specs.declared.timers.PlaceTimer.{PlaceTimer}
use Rattle.authority.specs.declared.stored.Point.{Point}
use Rattle.authority.specs.declared.stored.TimedOverlap.{TimedOverlap}
use Rattle.authority.specs.declared.stored.Stored.{Stored}
use Rattle.authority.specs.Timers.{has_run_out, started_has_run_out}
use Rattle.authority.specs.Authority.{reaches, bare_end, end_with}

-- ---- one more sight

-- a section's timer stops: it runs, and the minimum safe front is at or above its stop place
abbrev pub stops_at : ℕ → ℕ → ℤ → TimedSection → Bool
stops_at start now min_front section = reaches min_front section.stop_at && not (has_run_out section.time start now)

abbrev pub passed_timer : ℕ → ℤ → PlaceTimer → PlaceTimer
passed_timer now max_front timer =
    record timer { started = option_or timer.started (if reaches max_front timer.from then Some now else None) }

abbrev pub passed_overlap : ℕ → ℤ → TimedOverlap → TimedOverlap
passed_overlap now max_front overlap = record { point = overlap.point; timer = passed_timer now max_front overlap.timer }

abbrev pub passed_stored : ℕ → Span → Stored → Stored
passed_stored now train stored = record stored {
  timed = record { items = filter (λ section. not (stops_at stored.accepted now train.min_front section)) stored.timed.items };
  end_timer = option_map (passed_timer now train.max_front) stored.end_timer;
  overlap = option_map (passed_overlap now train.max_front) stored.overlap;
}

-- ---- what it answers

abbrev pub first_over : ℕ → ℕ → List TimedSection → Option ℤ
first_over start now timed =
    option_map (λ section. section.entry) (find (λ section. has_run_out section.time start now) timed)

abbrev pub is_over_in : ℕ → Option PlaceTimer → Bool
is_over_in now None = false
is_over_in now (Some timer) = started_has_run_out timer.time timer.started now

abbrev pub taken_back_in : ℕ → Stored → Option ℤ
taken_back_in now stored =
    option_or (first_over stored.accepted now stored.timed.items) (if is_over_in now stored.end_timer then Some stored.end_entry else None)

abbrev pub speed_in : ℕ → Stored → ℕ
speed_in now stored = if has_run_out stored.end_time stored.accepted now then 0 else stored.end_speed

abbrev pub overlap_in : ℕ → Option TimedOverlap → Option Point
overlap_in now None = None
overlap_in now (Some overlap) =
    if started_has_run_out overlap.timer.time overlap.timer.started now then None else Some overlap.point

abbrev pub point_in : ℕ → Stored → Point
point_in now stored = unwrap_or (option_or (overlap_in now stored.overlap) stored.danger_point) (bare_end stored.end)

abbrev pub reported_in : ℕ → Stored → End
reported_in now stored = end_with stored.end (speed_in now stored) (point_in now stored)

abbrev pub end_by_stored : ℕ → Stored → Option ℤ → End
end_by_stored now stored None = reported_in now stored
end_by_stored now stored (Some place) = end_with place 0 (bare_end place)

abbrev pub end_in : ℕ → Stored → End
end_in now stored = end_by_stored now stored (taken_back_in now stored)
