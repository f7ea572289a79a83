-- Rows of the table, worked by hand (SUBSET-026, 4.6.3 and the sections of `Table.antt`): each equation is a packet, or a
-- refused telegram, in one mode and direction, and what it demands. Those that demand nothing are worked too.
use Rattle.std.specs.Prelude.{◌≡◌, ℕ, ◌+◌, Bool, true, false, List, [], ◌++◌, length, Option, Some, None}
use Rattle.std.specs.Option.{option_map}
use Rattle.bits.specs.Bits.{number_bits}
use Rattle.mode_table.specs.declared.mode.Mode.{Mode}
use Rattle.mode_table.specs.declared.mode.Mode.TheVariants.{FullSupervision as FS, OnSight as OS, StaffResponsible as SR, Shunting as SH, Unfitted as UN, StandBy as SB, Trip as TR, PostTrip as PT, SystemFailure as SF}
use Rattle.telegram.specs.declared.fault.TelegramFault.{TelegramFault}
use Rattle.telegram.specs.declared.fault.TelegramFault.TheVariants as faults
use Rattle.track_packets.specs.Listing.{place_at}
use Rattle.vars.specs.declared.linking.LinkOrientation.{LinkOrientation}
use Rattle.vars.specs.declared.linking.LinkOrientation.TheVariants.{Nominal, Reverse}
use Rattle.track_guard.specs.Demands.{demand_by, demand_in}
use Rattle.track_guard.specs.Findings.{finding_of_fault}
use Rattle.track_guard.specs.declared.demanding.Demand.{Demand}
use Rattle.track_guard.specs.declared.demanding.Source.TheVariants as sources
use Rattle.track_guard.specs.declared.finding.Action.{Action}
use Rattle.track_guard.specs.declared.finding.Action.TheVariants.{Trip, ServiceBrake, NotObeyed, Unreadable}

-- the action of a demand
abbrev pub action : Option Demand → Option Action
action demand = option_map (λ d. d.action) demand

-- the bits of a packet: NID_PACKET, Q_DIR, L_PACKET, and what follows
abbrev pub packet : ℕ → ℕ → List Bool → List Bool
packet number q_dir body = number_bits 8 number ++ number_bits 2 q_dir ++ number_bits 13 (23 + length body) ++ body

-- what it demands in a mode, of a group that is passed in a direction
abbrev pub of_packet : Mode → Option LinkOrientation → List Bool → Option Action
of_packet mode direction bits = action (demand_by (record { mode = mode; direction = direction; overridden = false }) (place_at 0 bits) bits)

-- .. while an override is active
abbrev pub overridden : Mode → List Bool → Option Action
overridden mode bits = action (demand_by (record { mode = mode; direction = Some Nominal; overridden = true }) (place_at 0 bits) bits)

-- what a refused telegram demands, by its fault and its bits
abbrev pub of_refused : Mode → TelegramFault → List Bool → Option Action
of_refused mode fault bits =
    action (demand_in (record { mode = mode; direction = None; overridden = true }) (sources.Refused fault) (finding_of_fault fault bits))

-- Q_UPDOWN 1 and an M_VERSION
abbrev pub version : ℕ → List Bool
version number = number_bits 1 1 ++ number_bits 7 number

-- a header of M_VERSION 16 that ends in a Q_LINK
abbrev pub link : ℕ → List Bool
link q_link = version 16 ++ number_bits 41 0 ++ number_bits 1 q_link

-- packet 12 up to T_LOA: Q_SCALE 1, V_MAIN 120 km/h, V_LOA in steps of 5 km/h, T_LOA in seconds
abbrev pub authority : ℕ → ℕ → List Bool
authority v_loa t_loa = packet 12 1 (number_bits 2 1 ++ number_bits 7 24 ++ number_bits 7 v_loa ++ number_bits 10 t_loa)

-- packet 71 over 100 m from 50 m on
abbrev pub adhesion : ℕ → List Bool
adhesion m_adhesion = packet 71 2 (number_bits 2 1 ++ number_bits 15 50 ++ number_bits 15 100 ++ number_bits 1 m_adhesion)

pub record Worked : Type 0 where
  -- packet 137 with Q_SRSTOP 0 trips in SR alone, and not while an override is active; with Q_SRSTOP 1 nowhere
  pub stop_in_sr : of_packet SR (Some Nominal) (packet 137 1 (number_bits 1 0)) ≡ Some Trip
  pub stop_in_fs : of_packet FS (Some Nominal) (packet 137 1 (number_bits 1 0)) ≡ None
  pub stop_overridden : overridden SR (packet 137 1 (number_bits 1 0)) ≡ None
  pub go_in_sr : of_packet SR (Some Nominal) (packet 137 1 (number_bits 1 1)) ≡ None
  pub cut_in_sr : of_packet SR (Some Nominal) (packet 137 1 []) ≡ Some Trip
  -- Q_DIR 1 is nominal, 0 reverse, 2 both; 3 is spare, and counts as both
  pub stop_for_others : of_packet SR (Some Reverse) (packet 137 1 (number_bits 1 0)) ≡ None
  pub stop_reverse : of_packet SR (Some Reverse) (packet 137 0 (number_bits 1 0)) ≡ Some Trip
  pub stop_unknown : of_packet SR None (packet 137 1 (number_bits 1 0)) ≡ None
  pub stop_both : of_packet SR None (packet 137 2 (number_bits 1 0)) ≡ Some Trip
  pub stop_spare : of_packet SR (Some Reverse) (packet 137 3 (number_bits 1 0)) ≡ Some Trip
  -- packet 132 with Q_ASPECT 0 trips in SH alone
  pub danger_in_sh : of_packet SH (Some Nominal) (packet 132 2 (number_bits 1 0)) ≡ Some Trip
  pub danger_in_sr : of_packet SR (Some Nominal) (packet 132 2 (number_bits 1 0)) ≡ None
  pub danger_overridden : overridden SH (packet 132 2 (number_bits 1 0)) ≡ None
  pub clear_in_sh : of_packet SH (Some Nominal) (packet 132 2 (number_bits 1 1)) ≡ None
  -- what is reported: 49 where the train may move, 135 in SH and SB, 46 as the kernel uses 41, the others as it uses 12
  pub list_in_sh : of_packet SH (Some Nominal) (packet 49 2 (number_bits 5 0)) ≡ Some NotObeyed
  pub list_in_fs : of_packet FS (Some Nominal) (packet 49 2 (number_bits 5 0)) ≡ Some NotObeyed
  pub list_in_sb : of_packet SB (Some Nominal) (packet 49 2 (number_bits 5 0)) ≡ None
  pub desk_in_sh : of_packet SH (Some Nominal) (packet 135 2 []) ≡ Some NotObeyed
  pub desk_in_sb : of_packet SB (Some Nominal) (packet 135 2 []) ≡ Some NotObeyed
  pub desk_in_fs : of_packet FS (Some Nominal) (packet 135 2 []) ≡ None
  pub repositioning_in_fs : of_packet FS (Some Nominal) (packet 16 1 (number_bits 2 1 ++ number_bits 15 50)) ≡ Some NotObeyed
  pub repositioning_in_sh : of_packet SH (Some Nominal) (packet 16 1 (number_bits 2 1 ++ number_bits 15 50)) ≡ None
  pub levels_in_pt : of_packet PT (Some Nominal) (packet 46 1 (number_bits 3 3 ++ number_bits 5 0)) ≡ Some NotObeyed
  pub levels_in_sh : of_packet SH (Some Nominal) (packet 46 1 (number_bits 3 3 ++ number_bits 5 0)) ≡ None
  pub axles_in_os : of_packet OS (Some Nominal) (packet 51 1 (number_bits 3 3)) ≡ Some NotObeyed
  pub axles_in_tr : of_packet TR (Some Nominal) (packet 51 1 (number_bits 3 3)) ≡ None
  pub suitability_in_un : of_packet UN (Some Nominal) (packet 70 1 (number_bits 3 3)) ≡ Some NotObeyed
  pub suitability_in_pt : of_packet PT (Some Nominal) (packet 70 1 (number_bits 3 3)) ≡ None
  pub slippery_in_fs : of_packet FS (Some Nominal) (adhesion 0) ≡ Some NotObeyed
  pub dry_in_fs : of_packet FS (Some Nominal) (adhesion 1) ≡ None
  -- packet 12: V_LOA 100 km/h without end is reported; with an end of 60 s, or V_LOA 0, it isn't
  pub endless_in_fs : of_packet FS (Some Nominal) (authority 20 1023) ≡ Some NotObeyed
  pub ended_in_fs : of_packet FS (Some Nominal) (authority 20 60) ≡ None
  pub no_end_speed_in_fs : of_packet FS (Some Nominal) (authority 0 1023) ≡ None
  -- no other packet: 65, a restriction, is the kernel's; 72 is a text
  pub restriction_in_fs : of_packet FS (Some Nominal) (packet 65 1 (number_bits 48 0)) ≡ None
  pub text_in_fs : of_packet FS (Some Nominal) (packet 72 1 (number_bits 48 0)) ≡ None
  -- M_VERSION 32 is 2.0, 17 is 1.1, 15 is below 1.0
  pub greater_in_fs : of_refused FS faults.WrongVersion (version 32) ≡ Some Trip
  pub greater_in_sb : of_refused SB faults.WrongVersion (version 32) ≡ Some Unreadable
  pub same_in_fs : of_refused FS faults.WrongVersion (version 17) ≡ Some Unreadable
  pub last_of_same : of_refused FS faults.WrongVersion (version 31) ≡ Some Unreadable
  pub lesser_in_fs : of_refused FS faults.WrongVersion (version 15) ≡ Some Unreadable
  -- another fault: the service brake where Q_LINK is 0 and the train may move
  pub unlinked_in_un : of_refused UN faults.OutOfRange (link 0) ≡ Some ServiceBrake
  pub unlinked_in_pt : of_refused PT faults.OutOfRange (link 0) ≡ Some Unreadable
  pub linked_in_un : of_refused UN faults.OutOfRange (link 1) ≡ Some Unreadable
  pub cut_in_un : of_refused UN faults.Truncated (version 16) ≡ Some Unreadable
  pub linked_in_sf : of_refused SF faults.WrongLength (link 1) ≡ Some Unreadable
