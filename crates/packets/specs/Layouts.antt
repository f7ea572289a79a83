-- The layouts of packets (SUBSET-026, 7.4.2; the orders and widths of packets 3, 5, 12, 41 and 80 are this project's
-- profile). A layout follows the number of its packet, and hands the L_PACKET that was read on along with the packet.
-- Widths and L_PACKET are bits.
use Rattle.std.specs.Prelude.{ℕ, ◌+◌, ◌-◌, nat_lt, List, [], ◌∷◌, ◌++◌, length, take, slice_index_or}
use Rattle.bits.specs.Layout.{Layout, done, unless, run, inner, more, ◌>>=◌, folded}
use Rattle.bits.specs.Sums.{total}
use Rattle.bits.specs.declared.name.VariableName.TheVariants as names
use Rattle.vars.specs.Variables.{q_dir, untested_direction, l_packet, distance, speed, nid_tsr, q_front, n_iter, timer, v_static, start_place, open_length, t_nvovtrp}
use Rattle.vars.specs.declared.packet_head.ValidityDirection.{ValidityDirection}
use Rattle.vars.specs.declared.restriction.TrainLengthDelay.TheVariants as delays
use Rattle.vars.specs.declared.scale.Scale.{Scale}
use Rattle.vars.specs.declared.special_speed.StaticSpeed.TheVariants as static_speeds_of
use Rattle.packets.specs.Parts.{variable, qualified, description, head_of, from_first}
use Rattle.packets.specs.declared.fault.PacketFault.{PacketFault}
use Rattle.packets.specs.declared.fault.PacketFault.TheVariants.{Truncated, WrongLength, OutOfRange}
use Rattle.packets.specs.declared.authority.MovementAuthority.{MovementAuthority}
use Rattle.packets.specs.declared.linking.Linking.{Linking}
use Rattle.packets.specs.declared.gradients.Gradients.{Gradients}
use Rattle.packets.specs.declared.static_speeds.StaticSpeeds.{StaticSpeeds}
use Rattle.packets.specs.declared.static_speeds.StaticStep.{StaticStep}
use Rattle.packets.specs.declared.static_speeds.Difference.{Difference}
use Rattle.packets.specs.declared.level_transition.LevelTransition.{LevelTransition}
use Rattle.packets.specs.declared.mode_profile.ModeProfile.{ModeProfile}
use Rattle.packets.specs.declared.national.NationalValues.{NationalValues}
use Rattle.packets.specs.declared.restrictions.SpeedRestriction.{SpeedRestriction}
use Rattle.packets.specs.declared.restrictions.RestrictionRevocation.{RestrictionRevocation}
use Rattle.packets.specs.declared.packet.Other.{Other}
use Rattle.packets.specs.Elements.{country, link, section, end_timer, danger_point, overlap, gradient, difference, level_order, mode_area}
use Rattle.packets.specs.declared.authority.ends.AuthorityEnd.{AuthorityEnd}
use Rattle.packets.specs.declared.national.values.ModeSpeeds.{ModeSpeeds}
use Rattle.packets.specs.declared.national.values.OverrideValues.{OverrideValues}

-- ---- packet 3

-- its speeds by modes
unfoldable pub mode_speeds : Layout PacketFault NationalValues ModeSpeeds
mode_speeds = do
  shunting ← variable names.VNvshunt speed (λ p. p.shunting)
  staff_responsible ← variable names.VNvstff speed (λ p. p.staff_responsible)
  on_sight ← variable names.VNvonsight speed (λ p. p.on_sight)
  unfitted ← variable names.VNvunfit speed (λ p. p.unfitted)
  release ← variable names.VNvrel speed (λ p. p.release)
  done (record { shunting = shunting; staff_responsible = staff_responsible; on_sight = on_sight; unfitted = unfitted; release = release })

-- its values of an override
unfoldable pub override_values : Layout PacketFault NationalValues OverrideValues
override_values = do
  allowed ← variable names.VNvallowovtrp speed (λ p. p.override_allowed)
  v ← variable names.VNvsupovtrp speed (λ p. p.override_speed)
  d ← variable names.DNvovtrp distance (λ p. p.override_distance)
  time ← variable names.TNvovtrp t_nvovtrp (λ p. p.override_time)
  done (record { allowed = allowed; speed = v; distance = d; time = time })

-- Packet 3 (this project's own order).
unfoldable pub national_values_description : (NationalValues → ℕ) → Layout PacketFault NationalValues (ℕ × NationalValues)
national_values_description description_of = do
  head ← head_of (λ p. p.direction) description_of (λ p. p.scale)
  start ← variable names.DValidnv start_place (λ p. p.start)
  count ← variable names.NIter n_iter (λ p. length p.countries.items)
  countries ← more count country [] (λ p. p.countries.items)
  speeds ← mode_speeds
  roll ← variable names.DNvroll distance (λ p. p.roll)
  changed ← override_values
  staff_responsible_distance ← variable names.DNvstff open_length (λ p. p.staff_responsible_distance)
  done (head.1, record { direction = head.0; scale = head.2; start = start; countries = record { items = countries }; shunting = speeds.shunting; staff_responsible = speeds.staff_responsible; on_sight = speeds.on_sight; unfitted = speeds.unfitted; release = speeds.release; roll = roll; override_allowed = changed.allowed; override_speed = changed.speed; override_distance = changed.distance; override_time = changed.time; staff_responsible_distance = staff_responsible_distance })

abbrev pub national_values : Layout PacketFault NationalValues (ℕ × NationalValues)
national_values = description national_values_description

-- ---- packet 5

-- Packet 5.
unfoldable pub linking_description : (Linking → ℕ) → Layout PacketFault Linking (ℕ × Linking)
linking_description description_of = do
  head ← head_of (λ p. p.direction) description_of (λ p. p.scale)
  all ← from_first link (λ p. p.links.items)
  done (head.1, record { direction = head.0; scale = head.2; links = record { items = all } })

abbrev pub linking : Layout PacketFault Linking (ℕ × Linking)
linking = description linking_description

-- ---- packet 12

-- its end section, and what there is at its end
unfoldable pub authority_end : Layout PacketFault MovementAuthority AuthorityEnd
authority_end = do
  end_section ← inner (section names.LEndsection) (λ p. p.end_section)
  the_timer ← qualified names.QEndtimer end_timer (λ p. p.end_timer)
  point ← qualified names.QDangerpoint danger_point (λ p. p.danger_point)
  following ← qualified names.QOverlap overlap (λ p. p.overlap)
  done (record { end_section = end_section; end_timer = the_timer; danger_point = point; overlap = following })

-- Packet 12.
unfoldable pub movement_authority_description : (MovementAuthority → ℕ) → Layout PacketFault MovementAuthority (ℕ × MovementAuthority)
movement_authority_description description_of = do
  head ← head_of (λ p. p.direction) description_of (λ p. p.scale)
  main ← variable names.VMain speed (λ p. p.speed)
  end_speed ← variable names.VLoa speed (λ p. p.end_speed)
  end_time ← variable names.TLoa timer (λ p. p.end_time)
  count ← variable names.NIter n_iter (λ p. length p.sections.items)
  sections ← more count (section names.LSection) [] (λ p. p.sections.items)
  ending ← authority_end
  done (head.1, record { direction = head.0; scale = head.2; speed = main; end_speed = end_speed; end_time = end_time; sections = record { items = sections }; end_section = ending.end_section; end_timer = ending.end_timer; danger_point = ending.danger_point; overlap = ending.overlap })

abbrev pub movement_authority : Layout PacketFault MovementAuthority (ℕ × MovementAuthority)
movement_authority = description movement_authority_description

-- ---- packet 21

-- Packet 21.
unfoldable pub gradients_description : (Gradients → ℕ) → Layout PacketFault Gradients (ℕ × Gradients)
gradients_description description_of = do
  head ← head_of (λ p. p.direction) description_of (λ p. p.scale)
  all ← from_first gradient (λ p. p.gradients.items)
  done (head.1, record { direction = head.0; scale = head.2; gradients = record { items = all } })

abbrev pub gradients : Layout PacketFault Gradients (ℕ × Gradients)
gradients = description gradients_description

-- ---- packet 27

-- what fills unused places of a profile
abbrev pub unused_step : StaticStep
unused_step = record { distance = 0; speed = static_speeds_of.Speed 0; delay = delays.Applied; differences = 0 }

-- a step to read off where there is none
abbrev pub no_step : StaticStep
no_step = record { distance = 0; speed = static_speeds_of.End; delay = delays.Applied; differences = 0 }

-- the i-th step of a profile
abbrev pub step_at : ℕ → StaticSpeeds → StaticStep
step_at i p = slice_index_or p.steps.items i no_step

-- the differences of the steps up to the i-th, itself included
abbrev pub differences_to : ℕ → StaticSpeeds → List Difference
differences_to i p = take (total (λ (s : StaticStep). s.differences) (take (i + 1) p.steps.items)) p.differences.items

-- One step more, with its differences. All differences of a packet are at most 70.
unfoldable pub static_step : StaticSpeeds → Layout PacketFault StaticSpeeds StaticSpeeds
static_step s = do
  d ← variable names.DStatic distance (λ p. (step_at (length s.steps.items) p).distance)
  v ← variable names.VStatic v_static (λ p. (step_at (length s.steps.items) p).speed)
  delay ← variable names.QFront q_front (λ p. (step_at (length s.steps.items) p).delay)
  count ← variable names.NIter n_iter (λ p. (step_at (length s.steps.items) p).differences)
  _ ← unless (nat_lt 70 (length s.differences.items + count)) OutOfRange
  differences ← more count difference s.differences.items (differences_to (length s.steps.items))
  done (record { direction = s.direction; scale = s.scale; steps = record { items = s.steps.items ++ record { distance = d; speed = v; delay = delay; differences = count } ∷ [] }; differences = record { items = differences } })

abbrev pub no_speeds : ValidityDirection → Scale → StaticSpeeds
no_speeds direction scale = record { direction = direction; scale = scale; steps = record { items = [] }; differences = record { items = [] } }

-- Packet 27.
unfoldable pub static_speeds_description : (StaticSpeeds → ℕ) → Layout PacketFault StaticSpeeds (ℕ × StaticSpeeds)
static_speeds_description description_of = do
  head ← head_of (λ p. p.direction) description_of (λ p. p.scale)
  first ← static_step (no_speeds head.0 head.2)
  count ← variable names.NIter n_iter (λ p. length p.steps.items - 1)
  all ← folded static_step count first
  done (head.1, all)

abbrev pub static_speeds : Layout PacketFault StaticSpeeds (ℕ × StaticSpeeds)
static_speeds = description static_speeds_description

-- ---- packet 41

-- Packet 41.
unfoldable pub level_transition_description : (LevelTransition → ℕ) → Layout PacketFault LevelTransition (ℕ × LevelTransition)
level_transition_description description_of = do
  head ← head_of (λ p. p.direction) description_of (λ p. p.scale)
  start ← variable names.DLeveltr start_place (λ p. p.start)
  all ← from_first level_order (λ p. p.orders.items)
  done (head.1, record { direction = head.0; scale = head.2; start = start; orders = record { items = all } })

abbrev pub level_transition : Layout PacketFault LevelTransition (ℕ × LevelTransition)
level_transition = description level_transition_description

-- ---- packets 65 and 66

-- Packet 65.
unfoldable pub speed_restriction_description : (SpeedRestriction → ℕ) → Layout PacketFault SpeedRestriction (ℕ × SpeedRestriction)
speed_restriction_description description_of = do
  head ← head_of (λ p. p.direction) description_of (λ p. p.scale)
  number ← variable names.NidTsr nid_tsr (λ p. p.number)
  start ← variable names.DTsr distance (λ p. p.start)
  length ← variable names.LTsr distance (λ p. p.length)
  delay ← variable names.QFront q_front (λ p. p.delay)
  v ← variable names.VTsr speed (λ p. p.speed)
  done (head.1, record { direction = head.0; scale = head.2; number = number; start = start; length = length; delay = delay; speed = v })

abbrev pub speed_restriction : Layout PacketFault SpeedRestriction (ℕ × SpeedRestriction)
speed_restriction = description speed_restriction_description

-- Packet 66.
unfoldable pub restriction_revocation_description : (RestrictionRevocation → ℕ) → Layout PacketFault RestrictionRevocation (ℕ × RestrictionRevocation)
restriction_revocation_description description_of = do
  direction ← variable names.QDir q_dir (λ p. p.direction)
  reported ← variable names.LPacket l_packet description_of
  number ← variable names.NidTsr nid_tsr (λ p. p.number)
  done (reported, record { direction = direction; number = number })

abbrev pub restriction_revocation : Layout PacketFault RestrictionRevocation (ℕ × RestrictionRevocation)
restriction_revocation = description restriction_revocation_description

-- ---- packet 80

-- Packet 80.
unfoldable pub mode_profile_description : (ModeProfile → ℕ) → Layout PacketFault ModeProfile (ℕ × ModeProfile)
mode_profile_description description_of = do
  head ← head_of (λ p. p.direction) description_of (λ p. p.scale)
  all ← from_first mode_area (λ p. p.areas.items)
  done (head.1, record { direction = head.0; scale = head.2; areas = record { items = all } })

abbrev pub mode_profile : Layout PacketFault ModeProfile (ℕ × ModeProfile)
mode_profile = description mode_profile_description

-- ---- other packets

-- A packet that is skipped by its length, which isn't below that of its head.
unfoldable pub skipped_description : ℕ → (Other → ℕ) → Layout PacketFault Other (ℕ × Other)
skipped_description number description_of = do
  direction ← variable names.QDir untested_direction (λ p. p.direction)
  reported ← variable names.LPacket l_packet description_of
  _ ← unless (nat_lt reported 23) WrongLength
  body ← run (reported - 23) Truncated (λ p. p.body)
  done (reported, record { number = number; direction = direction; body = body })

abbrev pub skipped : ℕ → Layout PacketFault Other (ℕ × Other)
skipped number = description (skipped_description number)
