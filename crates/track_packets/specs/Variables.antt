-- The variables: their names, how many bits each has and in which unit it counts (SUBSET-026, 7.5.1). Those of the
-- kernel's packets have the widths of `vars`.
use Rattle.std.specs.Prelude.{ℕ, List, codes}
use Rattle.bits.specs.Names.{name_text}
use Rattle.bits.specs.declared.name.VariableName.{VariableName}
use Rattle.bits.specs.declared.name.VariableName.TheVariants as names
use Rattle.vars.specs.Variables.{distance, flag, g_a, l_packet, m_dup, m_leveltr, m_mamode, m_mcount, n_iter, nc_diff, nid_bg, nid_c, nid_packet, nid_stm, nid_tsr, open_length, position_in_group, q_dir, q_front, q_gdir, q_linkorientation, q_linkreaction, q_locacc, q_scale, speed, start_place, t_nvovtrp, timer, v_mamode, v_release, v_static}
use Rattle.track_packets.specs.declared.shape.Shape.{Shape}
use Rattle.track_packets.specs.declared.shape.Unit.{Unit}
use Rattle.track_packets.specs.declared.shape.Unit.TheVariants as units
use Rattle.track_packets.specs.declared.variable.Variable.{Variable}
use Rattle.track_packets.specs.declared.variable.Variable.TheVariants as variables

-- ---- the variables of the kernel's packets

abbrev pub shape : ℕ → Unit → Shape
shape width unit = record { width = width; unit = unit }

abbrev pub shared_shape_of : VariableName → Shape
shared_shape_of names.QUpdown = shape flag.width units.Number
shared_shape_of names.MVersion = shape 7 units.Number
shared_shape_of names.QMedia = shape flag.width units.Number
shared_shape_of names.NPig = shape position_in_group.width units.Number
shared_shape_of names.NTotal = shape position_in_group.width units.Number
shared_shape_of names.MDup = shape m_dup.width units.Number
shared_shape_of names.MMcount = shape m_mcount.width units.Number
shared_shape_of names.NidC = shape nid_c.width units.Number
shared_shape_of names.NidBg = shape nid_bg.width units.Number
shared_shape_of names.QLink = shape flag.width units.Number
shared_shape_of names.NidPacket = shape nid_packet.width units.Number
shared_shape_of names.QDir = shape q_dir.width units.Number
shared_shape_of names.LPacket = shape l_packet.width units.Number
shared_shape_of names.QScale = shape q_scale.width units.Number
shared_shape_of names.NIter = shape n_iter.width units.Number
shared_shape_of names.DValidnv = shape start_place.width units.ScaleSteps
shared_shape_of names.VNvshunt = shape speed.width units.SpeedSteps
shared_shape_of names.VNvstff = shape speed.width units.SpeedSteps
shared_shape_of names.VNvonsight = shape speed.width units.SpeedSteps
shared_shape_of names.VNvunfit = shape speed.width units.SpeedSteps
shared_shape_of names.VNvrel = shape speed.width units.SpeedSteps
shared_shape_of names.DNvroll = shape distance.width units.ScaleSteps
shared_shape_of names.VNvallowovtrp = shape speed.width units.SpeedSteps
shared_shape_of names.VNvsupovtrp = shape speed.width units.SpeedSteps
shared_shape_of names.DNvovtrp = shape distance.width units.ScaleSteps
shared_shape_of names.TNvovtrp = shape t_nvovtrp.width units.Seconds
shared_shape_of names.DNvstff = shape open_length.width units.ScaleSteps
shared_shape_of names.DLink = shape distance.width units.ScaleSteps
shared_shape_of names.QNewcountry = shape flag.width units.Number
shared_shape_of names.QLinkorientation = shape q_linkorientation.width units.Number
shared_shape_of names.QLinkreaction = shape q_linkreaction.width units.Number
shared_shape_of names.QLocacc = shape q_locacc.width units.Metres
shared_shape_of names.VMain = shape speed.width units.SpeedSteps
shared_shape_of names.VLoa = shape speed.width units.SpeedSteps
shared_shape_of names.TLoa = shape timer.width units.Seconds
shared_shape_of names.LSection = shape distance.width units.ScaleSteps
shared_shape_of names.QSectiontimer = shape flag.width units.Number
shared_shape_of names.TSectiontimer = shape timer.width units.Seconds
shared_shape_of names.DSectiontimerstoploc = shape distance.width units.ScaleSteps
shared_shape_of names.LEndsection = shape distance.width units.ScaleSteps
shared_shape_of names.QEndtimer = shape flag.width units.Number
shared_shape_of names.TEndtimer = shape timer.width units.Seconds
shared_shape_of names.DEndtimerstartloc = shape distance.width units.ScaleSteps
shared_shape_of names.QDangerpoint = shape flag.width units.Number
shared_shape_of names.DDp = shape distance.width units.ScaleSteps
shared_shape_of names.VReleasedp = shape v_release.width units.SpeedSteps
shared_shape_of names.QOverlap = shape flag.width units.Number
shared_shape_of names.DStartol = shape distance.width units.ScaleSteps
shared_shape_of names.TOl = shape timer.width units.Seconds
shared_shape_of names.DOl = shape distance.width units.ScaleSteps
shared_shape_of names.VReleaseol = shape v_release.width units.SpeedSteps
shared_shape_of names.DGradient = shape distance.width units.ScaleSteps
shared_shape_of names.QGdir = shape q_gdir.width units.Number
shared_shape_of names.GA = shape g_a.width units.PerMille
shared_shape_of names.DStatic = shape distance.width units.ScaleSteps
shared_shape_of names.VStatic = shape v_static.width units.SpeedSteps
shared_shape_of names.QFront = shape q_front.width units.Number
shared_shape_of names.NcDiff = shape nc_diff.width units.Number
shared_shape_of names.VDiff = shape speed.width units.SpeedSteps
shared_shape_of names.DLeveltr = shape start_place.width units.ScaleSteps
shared_shape_of names.MLeveltr = shape m_leveltr.width units.Number
shared_shape_of names.NidStm = shape nid_stm.width units.Number
shared_shape_of names.LAckleveltr = shape distance.width units.ScaleSteps
shared_shape_of names.NidTsr = shape nid_tsr.width units.Number
shared_shape_of names.DTsr = shape distance.width units.ScaleSteps
shared_shape_of names.LTsr = shape distance.width units.ScaleSteps
shared_shape_of names.VTsr = shape speed.width units.SpeedSteps
shared_shape_of names.DMamode = shape distance.width units.ScaleSteps
shared_shape_of names.MMamode = shape m_mamode.width units.Number
shared_shape_of names.VMamode = shape v_mamode.width units.SpeedSteps
shared_shape_of names.LMamode = shape open_length.width units.ScaleSteps
shared_shape_of names.LAckmamode = shape distance.width units.ScaleSteps

-- ---- all variables

pub record VariableRow : Type 0 where
  pub text : List ℕ
  pub shape : Shape

abbrev pub row : List ℕ → ℕ → Unit → VariableRow
row text width unit = record { text = text; shape = shape width unit }

abbrev pub row_of : Variable → VariableRow
row_of (variables.Shared name) = record { text = name_text name; shape = shared_shape_of name }
row_of variables.QNvsrbktrg = row (codes "Q_NVSRBKTRG") 1 units.Number
row_of variables.QNvemrrls = row (codes "Q_NVEMRRLS") 1 units.Number
row_of variables.DNvpotrp = row (codes "D_NVPOTRP") 15 units.ScaleSteps
row_of variables.MNvcontact = row (codes "M_NVCONTACT") 2 units.Number
row_of variables.TNvcontact = row (codes "T_NVCONTACT") 8 units.Seconds
row_of variables.MNvderun = row (codes "M_NVDERUN") 1 units.Number
row_of variables.QNvdriverAdhes = row (codes "Q_NVDRIVER_ADHES") 1 units.Number
row_of variables.DTraction = row (codes "D_TRACTION") 15 units.ScaleSteps
row_of variables.MTraction = row (codes "M_TRACTION") 8 units.Number
row_of variables.QRbc = row (codes "Q_RBC") 1 units.Number
row_of variables.NidRbc = row (codes "NID_RBC") 14 units.Number
row_of variables.NidRadio = row (codes "NID_RADIO") 64 units.Number
row_of variables.QSleepsession = row (codes "Q_SLEEPSESSION") 1 units.Number
row_of variables.NidXuser = row (codes "NID_XUSER") 9 units.Number
row_of variables.NidMn = row (codes "NID_MN") 24 units.Number
row_of variables.QTrackinit = row (codes "Q_TRACKINIT") 1 units.Number
row_of variables.DTrackinit = row (codes "D_TRACKINIT") 15 units.ScaleSteps
row_of variables.DAxleload = row (codes "D_AXLELOAD") 15 units.ScaleSteps
row_of variables.LAxleload = row (codes "L_AXLELOAD") 15 units.ScaleSteps
row_of variables.MAxleload = row (codes "M_AXLELOAD") 7 units.HalfTonnes
row_of variables.VAxleload = row (codes "V_AXLELOAD") 7 units.SpeedSteps
row_of variables.TMar = row (codes "T_MAR") 8 units.Seconds
row_of variables.TTimeoutrqst = row (codes "T_TIMEOUTRQST") 10 units.Seconds
row_of variables.TCycrqst = row (codes "T_CYCRQST") 8 units.Seconds
row_of variables.TCycloc = row (codes "T_CYCLOC") 8 units.Seconds
row_of variables.DCycloc = row (codes "D_CYCLOC") 15 units.ScaleSteps
row_of variables.MLoc = row (codes "M_LOC") 3 units.Number
row_of variables.DLoc = row (codes "D_LOC") 15 units.ScaleSteps
row_of variables.QLgtloc = row (codes "Q_LGTLOC") 1 units.Number
row_of variables.DTrackcond = row (codes "D_TRACKCOND") 15 units.ScaleSteps
row_of variables.LTrackcond = row (codes "L_TRACKCOND") 15 units.ScaleSteps
row_of variables.MTrackcond = row (codes "M_TRACKCOND") 4 units.Number
row_of variables.DSuitability = row (codes "D_SUITABILITY") 15 units.ScaleSteps
row_of variables.QSuitability = row (codes "Q_SUITABILITY") 2 units.Number
row_of variables.MLoadinggauge = row (codes "M_LOADINGGAUGE") 8 units.Number
row_of variables.DAdhesion = row (codes "D_ADHESION") 15 units.ScaleSteps
row_of variables.LAdhesion = row (codes "L_ADHESION") 15 units.ScaleSteps
row_of variables.MAdhesion = row (codes "M_ADHESION") 1 units.Number
row_of variables.QTextclass = row (codes "Q_TEXTCLASS") 2 units.Number
row_of variables.QTextdisplay = row (codes "Q_TEXTDISPLAY") 1 units.Number
row_of variables.DTextdisplay = row (codes "D_TEXTDISPLAY") 15 units.ScaleSteps
row_of variables.MModetextdisplay = row (codes "M_MODETEXTDISPLAY") 4 units.Number
row_of variables.MLeveltextdisplay = row (codes "M_LEVELTEXTDISPLAY") 3 units.Number
row_of variables.LTextdisplay = row (codes "L_TEXTDISPLAY") 15 units.ScaleSteps
row_of variables.TTextdisplay = row (codes "T_TEXTDISPLAY") 10 units.Seconds
row_of variables.QTextconfirm = row (codes "Q_TEXTCONFIRM") 2 units.Number
row_of variables.LText = row (codes "L_TEXT") 8 units.Number
row_of variables.XText = row (codes "X_TEXT") 8 units.Character
row_of variables.QText = row (codes "Q_TEXT") 8 units.Number
row_of variables.DPosoff = row (codes "D_POSOFF") 15 units.ScaleSteps
row_of variables.QMposition = row (codes "Q_MPOSITION") 1 units.Number
row_of variables.MPosition = row (codes "M_POSITION") 20 units.Number
row_of variables.DRbctr = row (codes "D_RBCTR") 15 units.ScaleSteps
row_of variables.QAspect = row (codes "Q_ASPECT") 1 units.Number
row_of variables.QRiu = row (codes "Q_RIU") 1 units.Number
row_of variables.NidRiu = row (codes "NID_RIU") 14 units.Number
row_of variables.DInfill = row (codes "D_INFILL") 15 units.ScaleSteps
row_of variables.NidLoop = row (codes "NID_LOOP") 14 units.Number
row_of variables.DLoop = row (codes "D_LOOP") 15 units.ScaleSteps
row_of variables.LLoop = row (codes "L_LOOP") 15 units.ScaleSteps
row_of variables.QLoopdir = row (codes "Q_LOOPDIR") 1 units.Number
row_of variables.QSscode = row (codes "Q_SSCODE") 4 units.Number
row_of variables.QSrstop = row (codes "Q_SRSTOP") 1 units.Number
row_of variables.DStartreverse = row (codes "D_STARTREVERSE") 15 units.ScaleSteps
row_of variables.LReversearea = row (codes "L_REVERSEAREA") 15 units.ScaleSteps
row_of variables.DReverse = row (codes "D_REVERSE") 15 units.ScaleSteps
row_of variables.VReverse = row (codes "V_REVERSE") 7 units.SpeedSteps
row_of variables.NidOperational = row (codes "NID_OPERATIONAL") 32 units.Number
row_of variables.GTsr = row (codes "G_TSR") 8 units.PerMille

abbrev pub text_of : Variable → List ℕ
text_of v = (row_of v).text

abbrev pub shape_of : Variable → Shape
shape_of v = (row_of v).shape

abbrev pub width_of : Variable → ℕ
width_of v = (shape_of v).width

abbrev pub unit_of : Variable → Unit
unit_of v = (shape_of v).unit
