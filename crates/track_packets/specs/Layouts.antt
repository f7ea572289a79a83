-- The layout of each packet after L_PACKET, by NID_PACKET (SUBSET-026, 7.4.2): the rows of `src/layouts.rt`.
use Rattle.std.specs.Prelude.{ℕ, ◌==◌, List, [], if◌then◌else◌}
use Rattle.track_packets.specs.declared.layouts.TheConstants.{NATIONAL_VALUES, REPOSITIONING, TRACTION_CHANGE, SESSION_MANAGEMENT, OTHER_APPLICATION, NETWORK_REGISTRATION, CONDITIONAL_LEVELS, LISTED_GROUPS, AXLE_LOAD_SPEEDS, AUTHORITY_REQUESTS, POSITION_REPORTS, BIG_METAL_MASSES, TRACK_CONDITIONS, ROUTE_SUITABILITY, ADHESION, PLAIN_TEXT, FIXED_TEXT, GEOGRAPHICAL_POSITIONS, GROUP_AHEAD, CENTRE_TRANSITION, DANGER_FOR_SHUNTING, RADIO_INFILL, LOOP_AHEAD, STAFF_RESPONSIBLE_STOP, REVERSING_AREA, REVERSING_SUPERVISION, RUNNING_NUMBER, DEFAULT_GRADIENT}
use Rattle.track_packets.specs.declared.row.Row.{Row}

-- the rows of a packet; those of 135 and 254 have none
abbrev pub rows_of : ℕ → List Row
rows_of number =
    if number == 3 then NATIONAL_VALUES
    else if number == 16 then REPOSITIONING
    else if number == 39 then TRACTION_CHANGE
    else if number == 42 then SESSION_MANAGEMENT
    else if number == 44 then OTHER_APPLICATION
    else if number == 45 then NETWORK_REGISTRATION
    else if number == 46 then CONDITIONAL_LEVELS
    else if number == 49 then LISTED_GROUPS
    else if number == 51 then AXLE_LOAD_SPEEDS
    else if number == 57 then AUTHORITY_REQUESTS
    else if number == 58 then POSITION_REPORTS
    else if number == 67 then BIG_METAL_MASSES
    else if number == 68 then TRACK_CONDITIONS
    else if number == 70 then ROUTE_SUITABILITY
    else if number == 71 then ADHESION
    else if number == 72 then PLAIN_TEXT
    else if number == 76 then FIXED_TEXT
    else if number == 79 then GEOGRAPHICAL_POSITIONS
    else if number == 90 then GROUP_AHEAD
    else if number == 131 then CENTRE_TRANSITION
    else if number == 132 then DANGER_FOR_SHUNTING
    else if number == 133 then RADIO_INFILL
    else if number == 134 then LOOP_AHEAD
    else if number == 137 then STAFF_RESPONSIBLE_STOP
    else if number == 138 then REVERSING_AREA
    else if number == 139 then REVERSING_SUPERVISION
    else if number == 140 then RUNNING_NUMBER
    else if number == 141 then DEFAULT_GRADIENT
    else if number == 63 then LISTED_GROUPS
    else if number == 136 then GROUP_AHEAD
    else []
