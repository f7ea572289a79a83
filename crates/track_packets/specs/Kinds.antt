-- What is known of a packet by its number, and the names of packets (SUBSET-026, 7.4.2): the table of `src/kind.rt`.
use Rattle.std.specs.Prelude.{ℕ, ◌==◌, List, [], ◌∷◌, Option, Some, None, codes, if◌then◌else◌}
use Rattle.track_packets.specs.declared.kind.Kind.{Kind}
use Rattle.track_packets.specs.declared.kind.PacketName.{PacketName}
use Rattle.track_packets.specs.declared.kind.PacketName.TheVariants as names
use Rattle.track_packets.specs.declared.kind.TheConstants.{KINDS}

-- the first that has the number
abbrev pub kind_in : ℕ → List Kind → Option Kind
kind_in number [] = None
kind_in number (kind ∷ kinds) = if kind.number == number then Some kind else kind_in number kinds

-- What is known of a packet.
abbrev pub kind_reported : ℕ → Option Kind
kind_reported number = kind_in number KINDS

abbrev pub name_text : PacketName → List ℕ
name_text names.VirtualBaliseCoverMarker = codes "Virtual Balise Cover marker"
name_text names.SystemVersionOrder = codes "System Version order"
name_text names.NationalValues = codes "National Values"
name_text names.Linking = codes "Linking"
name_text names.VirtualBaliseCoverOrder = codes "Virtual Balise Cover order"
name_text names.MovementAuthority = codes "Level 1 Movement Authority"
name_text names.Repositioning = codes "Repositioning Information"
name_text names.GradientProfile = codes "Gradient Profile"
name_text names.StaticSpeedProfile = codes "International Static Speed Profile"
name_text names.TractionChange = codes "Track Condition Change of traction power"
name_text names.LevelTransition = codes "Level Transition Order"
name_text names.SessionManagement = codes "Session Management"
name_text names.OtherApplication = codes "Data used by applications outside the ERTMS/ETCS system"
name_text names.NetworkRegistration = codes "Radio Network registration"
name_text names.ConditionalLevelTransition = codes "Conditional Level Transition Order"
name_text names.ShuntingBalises = codes "List of balises for SH Area"
name_text names.AxleLoadSpeedProfile = codes "Axle load Speed Profile"
name_text names.PermittedBrakingDistance = codes "Permitted Braking Distance Information"
name_text names.AuthorityRequests = codes "Movement Authority Request Parameters"
name_text names.PositionReports = codes "Position Report Parameters"
name_text names.StaffResponsibleBalises = codes "List of Balises in SR Authority"
name_text names.SpeedRestriction = codes "Temporary Speed Restriction"
name_text names.RestrictionRevocation = codes "Temporary Speed Restriction Revocation"
name_text names.BigMetalMasses = codes "Track Condition Big Metal Masses"
name_text names.TrackCondition = codes "Track Condition"
name_text names.RouteSuitability = codes "Route Suitability Data"
name_text names.AdhesionFactor = codes "Adhesion Factor"
name_text names.PlainText = codes "Packet for sending plain text messages"
name_text names.FixedText = codes "Packet for sending fixed text messages"
name_text names.GeographicalPosition = codes "Geographical Position Information"
name_text names.ModeProfile = codes "Mode profile"
name_text names.TrackAheadFree = codes "Track Ahead Free up to level 2/3 transition location"
name_text names.CentreTransition = codes "RBC transition order"
name_text names.DangerForShunting = codes "Danger for Shunting information"
name_text names.RadioInfillArea = codes "Radio infill area information"
name_text names.LoopAhead = codes "EOLM Packet"
name_text names.StopShunting = codes "Stop Shunting on desk opening"
name_text names.InfillLocation = codes "Infill location reference"
name_text names.StopInStaffResponsible = codes "Stop if in Staff Responsible"
name_text names.ReversingArea = codes "Reversing area information"
name_text names.ReversingSupervision = codes "Reversing supervision information"
name_text names.RunningNumber = codes "Train running number from RBC"
name_text names.DefaultGradient = codes "Default Gradient for Temporary Speed Restriction"
name_text names.ConsistencyReaction = codes "Inhibition of balise group message consistency reaction"
name_text names.SupervisionDisplay = codes "LSSMA display toggle order"
name_text names.SupervisionMarker = codes "Generic LS function marker"
name_text names.DefaultInformation = codes "Default balise, loop or RIU information"
name_text names.EndOfInformation = codes "End of Information"
