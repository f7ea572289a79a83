-- The targets where values begin, which do for those of each centimetre (this project's profile). Places are
-- centimetres, speeds metres per hour.
use Rattle.std.specs.Prelude.{ℕ, ℤ, pos, ◌+ℤ◌, int_lt, not, ◌&&◌, if◌then◌else◌, Option, None, Some, List, []}
use Rattle.std.specs.Int.{int_max}
use Rattle.units.specs.Stretches.{over, count_between}
use Rattle.track_store.specs.declared.restriction.Restriction.{Restriction}
use Rattle.track_store.specs.Covering.{end_of}
use Rattle.areas.specs.declared.area.Area.{Area}
use Rattle.areas.specs.declared.area.NationalSpeeds.{NationalSpeeds}
use Rattle.areas.specs.Areas.{is_before, speed_in}
use Rattle.braking.specs.declared.target.Target.{Target}
use Rattle.speed_profile.specs.Ahead.{greatest_place}

-- what a function gives from a place on, if there is one
abbrev pub rest : (ℤ → List Target) → Option ℤ → List Target
rest f None = []
rest f (Some place) = over f place greatest_place

-- how many centimetres are left from there on
abbrev pub left : Option ℤ → ℕ
left None = 0
left (Some place) = count_between place greatest_place

-- the first centimetre ahead of a front that a restriction may cover
abbrev pub first_covered : ℤ → ℤ → Restriction → ℤ
first_covered front mark restriction = int_max (int_max (front +ℤ pos 1) mark) restriction.start

-- its speed there, where it covers that centimetre
abbrev pub first_target : ℤ → ℤ → Restriction → Option Target
first_target front mark restriction =
    let first = first_covered front mark restriction in
    if int_lt first (end_of restriction) && not (int_lt greatest_place first)
    then Some (record { place = first; speed = restriction.speed })
    else None

-- the first centimetre ahead of a front that a mode area may cover
abbrev pub first_inside : ℤ → Area → ℤ
first_inside front area = int_max (front +ℤ pos 1) area.start

-- its speed there, where it covers that centimetre
abbrev pub first_in_area : ℤ → NationalSpeeds → Area → Option Target
first_in_area front national area =
    let first = first_inside front area in
    if is_before first area.end && not (int_lt greatest_place first)
    then Some (record { place = first; speed = speed_in national area })
    else None
