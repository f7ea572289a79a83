-- The values of numbers, and the numbers of values, of the variables that have names for them (SUBSET-026, 7.5.1).
use Rattle.std.specs.Prelude.{ℕ, ◌==◌, Result, Ok, Err, nat_lt, if◌then◌else◌}
use Rattle.vars.specs.declared.variable.NoValue.{NoValue}
use Rattle.vars.specs.declared.variable.NoValue.TheVariants.{Spare, OutOfRange}
use Rattle.vars.specs.declared.group.Duplicate.{Duplicate}
use Rattle.vars.specs.declared.group.Duplicate.TheVariants as duplicates
use Rattle.vars.specs.declared.packet_head.ValidityDirection.{ValidityDirection}
use Rattle.vars.specs.declared.packet_head.ValidityDirection.TheVariants as directions
use Rattle.vars.specs.declared.restriction.TrainLengthDelay.{TrainLengthDelay}
use Rattle.vars.specs.declared.restriction.TrainLengthDelay.TheVariants as delays
use Rattle.vars.specs.declared.scale.Scale.{Scale}
use Rattle.vars.specs.declared.scale.Scale.TheVariants as scales
use Rattle.vars.specs.declared.gradient.GradientDirection.{GradientDirection}
use Rattle.vars.specs.declared.gradient.GradientDirection.TheVariants as gradients
use Rattle.vars.specs.declared.level.AreaMode.{AreaMode}
use Rattle.vars.specs.declared.level.AreaMode.TheVariants as area_modes
use Rattle.vars.specs.declared.level.Level.{Level}
use Rattle.vars.specs.declared.level.Level.TheVariants as levels
use Rattle.vars.specs.declared.linking.LinkOrientation.{LinkOrientation}
use Rattle.vars.specs.declared.linking.LinkOrientation.TheVariants as orientations
use Rattle.vars.specs.declared.linking.LinkReaction.{LinkReaction}
use Rattle.vars.specs.declared.linking.LinkReaction.TheVariants as reactions
use Rattle.vars.specs.declared.special_distance.OpenLength.{OpenLength}
use Rattle.vars.specs.declared.special_distance.OpenLength.TheVariants as lengths
use Rattle.vars.specs.declared.special_distance.StartPlace.{StartPlace}
use Rattle.vars.specs.declared.special_distance.StartPlace.TheVariants as places
use Rattle.vars.specs.declared.special_speed.AreaSpeed.{AreaSpeed}
use Rattle.vars.specs.declared.special_speed.AreaSpeed.TheVariants as area_speeds
use Rattle.vars.specs.declared.special_speed.ReleaseSpeed.{ReleaseSpeed}
use Rattle.vars.specs.declared.special_speed.ReleaseSpeed.TheVariants as release_speeds
use Rattle.vars.specs.declared.special_speed.StaticSpeed.{StaticSpeed}
use Rattle.vars.specs.declared.special_speed.StaticSpeed.TheVariants as static_speeds

-- M_DUP
unfoldable pub duplicate_of : ℕ → Result Duplicate NoValue
duplicate_of v = if v == 0 then Ok duplicates.NoDuplicate else if v == 1 then Ok duplicates.OfNext else if v == 2 then Ok duplicates.OfPrevious else Err Spare

abbrev pub duplicate_number : Duplicate → ℕ
duplicate_number duplicates.NoDuplicate = 0
duplicate_number duplicates.OfNext = 1
duplicate_number duplicates.OfPrevious = 2

-- Q_DIR
unfoldable pub direction_of : ℕ → Result ValidityDirection NoValue
direction_of v = if v == 0 then Ok directions.Reverse else if v == 1 then Ok directions.Nominal else if v == 2 then Ok directions.Both else Err Spare

abbrev pub direction_number : ValidityDirection → ℕ
direction_number directions.Reverse = 0
direction_number directions.Nominal = 1
direction_number directions.Both = 2

-- Q_SCALE
unfoldable pub scale_of : ℕ → Result Scale NoValue
scale_of v = if v == 0 then Ok scales.TenCentimetres else if v == 1 then Ok scales.OneMetre else if v == 2 then Ok scales.TenMetres else Err Spare

abbrev pub scale_number : Scale → ℕ
scale_number scales.TenCentimetres = 0
scale_number scales.OneMetre = 1
scale_number scales.TenMetres = 2

-- Q_FRONT
abbrev pub delay_of : ℕ → Result TrainLengthDelay NoValue
delay_of v = if v == 0 then Ok delays.Applied else Ok delays.NotApplied

abbrev pub delay_number : TrainLengthDelay → ℕ
delay_number delays.Applied = 0
delay_number delays.NotApplied = 1

-- Q_LINKORIENTATION
unfoldable pub orientation_of : ℕ → Result LinkOrientation NoValue
orientation_of v = if v == 0 then Ok orientations.Reverse else Ok orientations.Nominal

abbrev pub orientation_number : LinkOrientation → ℕ
orientation_number orientations.Reverse = 0
orientation_number orientations.Nominal = 1

-- Q_LINKREACTION
unfoldable pub reaction_of : ℕ → Result LinkReaction NoValue
reaction_of v = if v == 0 then Ok reactions.Trip else if v == 1 then Ok reactions.ServiceBrake else if v == 2 then Ok reactions.NoReaction else Err Spare

abbrev pub reaction_number : LinkReaction → ℕ
reaction_number reactions.Trip = 0
reaction_number reactions.ServiceBrake = 1
reaction_number reactions.NoReaction = 2

-- V_RELEASEDP, V_RELEASEOL
unfoldable pub release_of : ℕ → Result ReleaseSpeed NoValue
release_of v = if v == 126 then Ok release_speeds.Onboard else if v == 127 then Ok release_speeds.National else if nat_lt 120 v then Err OutOfRange else Ok (release_speeds.Speed v)

abbrev pub release_number : ReleaseSpeed → ℕ
release_number (release_speeds.Speed v) = v
release_number release_speeds.Onboard = 126
release_number release_speeds.National = 127

-- Q_GDIR
unfoldable pub gradient_direction_of : ℕ → Result GradientDirection NoValue
gradient_direction_of v = if v == 0 then Ok gradients.Downhill else Ok gradients.Uphill

abbrev pub gradient_direction_number : GradientDirection → ℕ
gradient_direction_number gradients.Downhill = 0
gradient_direction_number gradients.Uphill = 1

-- V_STATIC
unfoldable pub static_of : ℕ → Result StaticSpeed NoValue
static_of v = if v == 127 then Ok static_speeds.End else if nat_lt 120 v then Err OutOfRange else Ok (static_speeds.Speed v)

abbrev pub static_number : StaticSpeed → ℕ
static_number (static_speeds.Speed v) = v
static_number static_speeds.End = 127

-- D_VALIDNV, D_LEVELTR
unfoldable pub start_place_of : ℕ → Result StartPlace NoValue
start_place_of v = if v == 32767 then Ok places.Now else Ok (places.At v)

abbrev pub start_place_number : StartPlace → ℕ
start_place_number (places.At v) = v
start_place_number places.Now = 32767

-- M_LEVELTR
unfoldable pub level_of : ℕ → Result Level NoValue
level_of v = if v == 0 then Ok levels.Level0 else if v == 1 then Ok levels.Stm else if v == 2 then Ok levels.Level1 else if v == 3 then Ok levels.Level2 else if v == 4 then Ok levels.Level3 else Err Spare

abbrev pub level_number : Level → ℕ
level_number levels.Level0 = 0
level_number levels.Stm = 1
level_number levels.Level1 = 2
level_number levels.Level2 = 3
level_number levels.Level3 = 4

-- M_MAMODE
unfoldable pub area_mode_of : ℕ → Result AreaMode NoValue
area_mode_of v = if v == 0 then Ok area_modes.OnSight else if v == 1 then Ok area_modes.Shunting else Err Spare

abbrev pub area_mode_number : AreaMode → ℕ
area_mode_number area_modes.OnSight = 0
area_mode_number area_modes.Shunting = 1

-- V_MAMODE
unfoldable pub area_speed_of : ℕ → Result AreaSpeed NoValue
area_speed_of v = if v == 127 then Ok area_speeds.National else if nat_lt 120 v then Err OutOfRange else Ok (area_speeds.Speed v)

abbrev pub area_speed_number : AreaSpeed → ℕ
area_speed_number (area_speeds.Speed v) = v
area_speed_number area_speeds.National = 127

-- L_MAMODE, D_NVSTFF
unfoldable pub open_length_of : ℕ → Result OpenLength NoValue
open_length_of v = if v == 32767 then Ok lengths.NoEnd else Ok (lengths.Length v)

abbrev pub open_length_number : OpenLength → ℕ
open_length_number (lengths.Length v) = v
open_length_number lengths.NoEnd = 32767
