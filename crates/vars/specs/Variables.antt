-- The variables: how many bits each has, and the values of its numbers (SUBSET-026, 7.5.1). Widths are bits.
use Rattle.std.specs.Prelude.{ℕ, ◌==◌, Bool, Ok, Err, nat_lt, if◌then◌else◌}
use Rattle.std.specs.Int.{from_bool}
use Rattle.bits.specs.Layout.{Codes}
use Rattle.vars.specs.Values.{duplicate_of, duplicate_number, direction_of, direction_number, scale_of, scale_number, delay_of, delay_number, orientation_of, orientation_number, reaction_of, reaction_number, release_of, release_number, gradient_direction_of, gradient_direction_number, static_of, static_number, start_place_of, start_place_number, level_of, level_number, area_mode_of, area_mode_number, area_speed_of, area_speed_number, open_length_of, open_length_number}
use Rattle.vars.specs.declared.variable.NoValue.{NoValue}
use Rattle.vars.specs.declared.variable.NoValue.TheVariants.{OutOfRange}
use Rattle.vars.specs.declared.group.Duplicate.{Duplicate}
use Rattle.vars.specs.declared.packet_head.ValidityDirection.{ValidityDirection}
use Rattle.vars.specs.declared.restriction.TrainLengthDelay.{TrainLengthDelay}
use Rattle.vars.specs.declared.scale.Scale.{Scale}
use Rattle.vars.specs.declared.gradient.GradientDirection.{GradientDirection}
use Rattle.vars.specs.declared.level.AreaMode.{AreaMode}
use Rattle.vars.specs.declared.level.Level.{Level}
use Rattle.vars.specs.declared.linking.LinkOrientation.{LinkOrientation}
use Rattle.vars.specs.declared.linking.LinkReaction.{LinkReaction}
use Rattle.vars.specs.declared.special_distance.OpenLength.{OpenLength}
use Rattle.vars.specs.declared.special_distance.StartPlace.{StartPlace}
use Rattle.vars.specs.declared.special_speed.AreaSpeed.{AreaSpeed}
use Rattle.vars.specs.declared.special_speed.ReleaseSpeed.{ReleaseSpeed}
use Rattle.vars.specs.declared.special_speed.StaticSpeed.{StaticSpeed}

-- a variable whose every number is a value
abbrev pub plain : ℕ → Codes NoValue ℕ
plain n = record { width = n; value = λ v. Ok v; number = λ v. v }

-- a variable whose values end at a greatest one
abbrev pub up_to : ℕ → ℕ → Codes NoValue ℕ
up_to n most = record { width = n; value = λ v. if nat_lt most v then Err OutOfRange else Ok v; number = λ v. v }

-- a qualifier of one bit
abbrev pub flag : Codes NoValue Bool
flag = record { width = 1; value = λ v. Ok (v == 1); number = from_bool }

-- ---- the balise group

-- N_PIG, and N_TOTAL, which is the position of the last balise
abbrev pub position_in_group : Codes NoValue ℕ
position_in_group = plain 3

-- M_DUP
abbrev pub m_dup : Codes NoValue Duplicate
m_dup = record { width = 2; value = duplicate_of; number = duplicate_number }

-- M_MCOUNT
abbrev pub m_mcount : Codes NoValue ℕ
m_mcount = plain 8

-- NID_C
abbrev pub nid_c : Codes NoValue ℕ
nid_c = plain 10

-- NID_BG
abbrev pub nid_bg : Codes NoValue ℕ
nid_bg = plain 14

-- ---- the head of a packet

-- NID_PACKET
abbrev pub nid_packet : Codes NoValue ℕ
nid_packet = plain 8

-- Q_DIR
abbrev pub q_dir : Codes NoValue ValidityDirection
q_dir = record { width = 2; value = direction_of; number = direction_number }

-- Q_DIR of a skipped packet, which isn't tested
abbrev pub untested_direction : Codes NoValue ℕ
untested_direction = plain 2

-- L_PACKET
abbrev pub l_packet : Codes NoValue ℕ
l_packet = plain 13

-- Q_SCALE
abbrev pub q_scale : Codes NoValue Scale
q_scale = record { width = 2; value = scale_of; number = scale_number }

-- ---- the fields of packets

-- D_ and L_: distances and lengths in units of the scale
abbrev pub distance : Codes NoValue ℕ
distance = plain 15

-- V_: speeds in steps of 5 km/h
abbrev pub speed : Codes NoValue ℕ
speed = up_to 7 120

-- NID_TSR
abbrev pub nid_tsr : Codes NoValue ℕ
nid_tsr = plain 8

-- Q_FRONT
abbrev pub q_front : Codes NoValue TrainLengthDelay
q_front = record { width = 1; value = delay_of; number = delay_number }

-- N_ITER
abbrev pub n_iter : Codes NoValue ℕ
n_iter = plain 5

-- ---- linking

-- Q_LINKORIENTATION
abbrev pub q_linkorientation : Codes NoValue LinkOrientation
q_linkorientation = record { width = 1; value = orientation_of; number = orientation_number }

-- Q_LINKREACTION
abbrev pub q_linkreaction : Codes NoValue LinkReaction
q_linkreaction = record { width = 2; value = reaction_of; number = reaction_number }

-- Q_LOCACC
abbrev pub q_locacc : Codes NoValue ℕ
q_locacc = plain 6

-- ---- the movement authority

-- T_LOA, T_SECTIONTIMER, T_ENDTIMER, T_OL
abbrev pub timer : Codes NoValue ℕ
timer = plain 10

-- V_RELEASEDP, V_RELEASEOL
abbrev pub v_release : Codes NoValue ReleaseSpeed
v_release = record { width = 7; value = release_of; number = release_number }

-- ---- profiles

-- Q_GDIR
abbrev pub q_gdir : Codes NoValue GradientDirection
q_gdir = record { width = 1; value = gradient_direction_of; number = gradient_direction_number }

-- G_A
abbrev pub g_a : Codes NoValue ℕ
g_a = plain 8

-- V_STATIC
abbrev pub v_static : Codes NoValue StaticSpeed
v_static = record { width = 7; value = static_of; number = static_number }

-- NC_DIFF
abbrev pub nc_diff : Codes NoValue ℕ
nc_diff = plain 4

-- ---- levels and mode areas

-- D_VALIDNV, D_LEVELTR
abbrev pub start_place : Codes NoValue StartPlace
start_place = record { width = 15; value = start_place_of; number = start_place_number }

-- M_LEVELTR
abbrev pub m_leveltr : Codes NoValue Level
m_leveltr = record { width = 3; value = level_of; number = level_number }

-- NID_STM
abbrev pub nid_stm : Codes NoValue ℕ
nid_stm = plain 8

-- M_MAMODE
abbrev pub m_mamode : Codes NoValue AreaMode
m_mamode = record { width = 2; value = area_mode_of; number = area_mode_number }

-- V_MAMODE
abbrev pub v_mamode : Codes NoValue AreaSpeed
v_mamode = record { width = 7; value = area_speed_of; number = area_speed_number }

-- L_MAMODE, D_NVSTFF
abbrev pub open_length : Codes NoValue OpenLength
open_length = record { width = 15; value = open_length_of; number = open_length_number }

-- ---- national values

-- T_NVOVTRP
abbrev pub t_nvovtrp : Codes NoValue ℕ
t_nvovtrp = plain 8
