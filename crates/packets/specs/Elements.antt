-- The layouts of what packets have in lists, or after a qualifier (SUBSET-026, 7.4.2; those of packets 3, 5, 12, 41
-- and 80 are this project's profile). Widths are bits.
use Rattle.std.specs.Prelude.{ℕ, Bool, true, false}
use Rattle.bits.specs.Layout.{Layout, done, part, ◌>>=◌}
use Rattle.bits.specs.declared.name.VariableName.{VariableName}
use Rattle.bits.specs.declared.name.VariableName.TheVariants as names
use Rattle.vars.specs.Variables.{distance, speed, nid_c, nid_bg, q_linkorientation, q_linkreaction, q_locacc, timer, v_release, q_gdir, g_a, nc_diff, m_leveltr, nid_stm, m_mamode, v_mamode, open_length}
use Rattle.vars.specs.declared.level.Level.{Level}
use Rattle.vars.specs.declared.level.Level.TheVariants as levels
use Rattle.packets.specs.Parts.{variable, qualified}
use Rattle.packets.specs.declared.fault.PacketFault.{PacketFault}
use Rattle.packets.specs.declared.authority.Section.{Section}
use Rattle.packets.specs.declared.authority.SectionTimer.{SectionTimer}
use Rattle.packets.specs.declared.authority.EndTimer.{EndTimer}
use Rattle.packets.specs.declared.authority.DangerPoint.{DangerPoint}
use Rattle.packets.specs.declared.authority.Overlap.{Overlap}
use Rattle.packets.specs.declared.linking.Link.{Link}
use Rattle.packets.specs.declared.gradients.Gradient.{Gradient}
use Rattle.packets.specs.declared.static_speeds.Difference.{Difference}
use Rattle.packets.specs.declared.level_transition.LevelOrder.{LevelOrder}
use Rattle.packets.specs.declared.mode_profile.ModeArea.{ModeArea}

-- ---- packet 3

unfoldable pub country : Layout PacketFault ℕ ℕ
country = variable names.NidC nid_c (λ c. c)

-- ---- packet 5

unfoldable pub link : Layout PacketFault Link Link
link = do
  d ← variable names.DLink distance (λ l. l.distance)
  c ← qualified names.QNewcountry country (λ l. l.country)
  group ← variable names.NidBg nid_bg (λ l. l.group)
  orientation ← variable names.QLinkorientation q_linkorientation (λ l. l.orientation)
  reaction ← variable names.QLinkreaction q_linkreaction (λ l. l.reaction)
  accuracy ← variable names.QLocacc q_locacc (λ l. l.accuracy)
  done (record { distance = d; country = c; group = group; orientation = orientation; reaction = reaction; accuracy = accuracy })

-- ---- packet 12

unfoldable pub section_timer : Layout PacketFault SectionTimer SectionTimer
section_timer = do
  time ← variable names.TSectiontimer timer (λ t. t.time)
  stop ← variable names.DSectiontimerstoploc distance (λ t. t.stop)
  done (record { time = time; stop = stop })

-- A section, whose length is L_SECTION or L_ENDSECTION.
unfoldable pub section : VariableName → Layout PacketFault Section Section
section name = do
  length ← variable name distance (λ s. s.length)
  t ← qualified names.QSectiontimer section_timer (λ s. s.timer)
  done (record { length = length; timer = t })

unfoldable pub end_timer : Layout PacketFault EndTimer EndTimer
end_timer = do
  time ← variable names.TEndtimer timer (λ t. t.time)
  start ← variable names.DEndtimerstartloc distance (λ t. t.start)
  done (record { time = time; start = start })

unfoldable pub danger_point : Layout PacketFault DangerPoint DangerPoint
danger_point = do
  d ← variable names.DDp distance (λ p. p.distance)
  release ← variable names.VReleasedp v_release (λ p. p.release)
  done (record { distance = d; release = release })

unfoldable pub overlap : Layout PacketFault Overlap Overlap
overlap = do
  start ← variable names.DStartol distance (λ o. o.start)
  time ← variable names.TOl timer (λ o. o.time)
  d ← variable names.DOl distance (λ o. o.distance)
  release ← variable names.VReleaseol v_release (λ o. o.release)
  done (record { start = start; time = time; distance = d; release = release })

-- ---- packet 21

unfoldable pub gradient : Layout PacketFault Gradient Gradient
gradient = do
  d ← variable names.DGradient distance (λ g. g.distance)
  direction ← variable names.QGdir q_gdir (λ g. g.direction)
  steepness ← variable names.GA g_a (λ g. g.steepness)
  done (record { distance = d; direction = direction; steepness = steepness })

-- ---- packet 27

unfoldable pub difference : Layout PacketFault Difference Difference
difference = do
  category ← variable names.NcDiff nc_diff (λ d. d.category)
  v ← variable names.VDiff speed (λ d. d.speed)
  done (record { category = category; speed = v })

-- ---- packet 41

abbrev pub has_stm : Level → Bool
has_stm levels.Level0 = false
has_stm levels.Stm = true
has_stm levels.Level1 = false
has_stm levels.Level2 = false
has_stm levels.Level3 = false

unfoldable pub stm_identity : Layout PacketFault ℕ ℕ
stm_identity = variable names.NidStm nid_stm (λ s. s)

unfoldable pub level_order : Layout PacketFault LevelOrder LevelOrder
level_order = do
  level ← variable names.MLeveltr m_leveltr (λ o. o.level)
  stm ← part (has_stm level) stm_identity (λ o. o.stm)
  acknowledgement ← variable names.LAckleveltr distance (λ o. o.acknowledgement)
  done (record { level = level; stm = stm; acknowledgement = acknowledgement })

-- ---- packet 80

unfoldable pub mode_area : Layout PacketFault ModeArea ModeArea
mode_area = do
  d ← variable names.DMamode distance (λ a. a.distance)
  mode ← variable names.MMamode m_mamode (λ a. a.mode)
  v ← variable names.VMamode v_mamode (λ a. a.speed)
  length ← variable names.LMamode open_length (λ a. a.length)
  acknowledgement ← variable names.LAckmamode distance (λ a. a.acknowledgement)
  done (record { distance = d; mode = mode; speed = v; length = length; acknowledgement = acknowledgement })
