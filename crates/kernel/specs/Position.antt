-- The position of a life: where the train is, beyond the balise group of the last fix (this project's profile).
-- Distances are centimetres.
use Rattle.std.specs.Prelude.{◌*◌, ℤ, ◌+ℤ◌, ◌-ℤ◌, nat_le, if◌then◌else◌, Option, Some, None}
use Rattle.std.specs.Int.RustNames.{unsigned_abs}
use Rattle.driver.specs.declared.datum.Datum.{Datum}
use Rattle.driver.specs.declared.datum.Datum.TheVariants.{Unknown, Valid, Invalid}
use Rattle.driver.specs.Data.{met_by}
use Rattle.events.specs.Kept.{PositionFrom}
use Rattle.mode_table.specs.declared.statuses.Item.TheVariants as item
use Rattle.mode_table.specs.Statuses.{power_up_status}
use Rattle.odometry.specs.Place.{KnownPlace, estimate}
use Rattle.units.specs.Limits.{farthest}
use Rattle.vars.specs.declared.group.GroupIdentity.{GroupIdentity}
use Rattle.mode_control.specs.History.{tracks}
use Rattle.mode_control.specs.Life.{Life}
use Rattle.track_picture.specs.History.{place_of, group_of_fix}

-- what the power-up left of the position that was kept
abbrev pub position_at_power_up : Life → Datum PositionFrom
position_at_power_up life = met_by (power_up_status item.Position life.cold) life.kept.position

-- without a fix in this life a valid position goes on by the estimate, which counts from the power-up; too far from its
-- group it isn't valid
abbrev pub gone_on : PositionFrom → ℤ → Datum PositionFrom
gone_on position by =
    if nat_le (unsigned_abs (position.distance +ℤ by)) (2 * farthest)
    then Valid (record { group = position.group; distance = position.distance +ℤ by })
    else Invalid position

abbrev pub went_on : Datum PositionFrom → ℤ → Datum PositionFrom
went_on Unknown by = Unknown
went_on (Valid position) by = gone_on position by
went_on (Invalid position) by = Invalid position

-- by a fix: its group, and the estimate less the place of the fix
abbrev pub fixed_at : GroupIdentity → KnownPlace → Datum PositionFrom
fixed_at group place = Valid (record { group = group; distance = estimate place -ℤ place.fix.at })

abbrev pub position_by : Option GroupIdentity → Datum PositionFrom → KnownPlace → Datum PositionFrom
position_by None kept place = went_on kept (estimate place)
position_by (Some group) kept place = fixed_at group place

abbrev pub position_of : Life → Datum PositionFrom
position_of life =
    position_by (group_of_fix (tracks life.entries)) (position_at_power_up life) (place_of (tracks life.entries))
