-- The table: on what a train of issue 2.3.0 acts, and this kernel doesn't (SUBSET-026, issue 2.3.0, from memory; the
-- choice of rows: this project's profile). `Findings.antt` says in which packet, and in which refused telegram, each is
-- found. The modes are those before the event.
--
-- A row has the modes in which that train acts; whether it also does so while an override is active; what is demanded
-- there; what is demanded elsewhere, if anything; the section of the issue (clause 0 is the whole section); and how sure
-- it is that the issue says so: S sure, F fairly sure, B to be looked up.
use Rattle.std.specs.Prelude.{ℕ, Bool, true, false, List, [], ◌∷◌, ◌&&◌, ◌||◌, not, Option, Some, None, if◌then◌else◌}
use Rattle.mode_table.specs.Modes.{is_one_of}
use Rattle.mode_table.specs.declared.mode.Mode.{Mode}
use Rattle.mode_table.specs.declared.mode.Mode.TheVariants.{FullSupervision as FS, OnSight as OS, StaffResponsible as SR, Shunting as SH, Unfitted as UN, StandBy as SB, PostTrip as PT}
use Rattle.track_guard.specs.declared.finding.Action.{Action}
use Rattle.track_guard.specs.declared.finding.Action.TheVariants.{Trip, ServiceBrake, NotObeyed, Unreadable}
use Rattle.track_guard.specs.declared.finding.Finding.{Finding}
use Rattle.track_guard.specs.declared.finding.Finding.TheVariants.{StopInStaffResponsible, DangerForShunting, ShuntingBalises, StopShunting, Repositioning, ConditionalLevel, AxleLoadSpeeds, RouteSuitability, SlipperyRail, EndlessEndSpeed, GreaterVersion, SameVersion, LesserVersion, RefusedUnlinked, Refused}
use Rattle.track_guard.specs.declared.finding.Section.{Section}
use Rattle.track_guard.specs.declared.finding.Sureness.{Sureness}
use Rattle.track_guard.specs.declared.finding.Sureness.TheVariants.{Sure as S, FairlySure as F, ToBeLookedUp as B}

pub record Row : Type 0 where
  pub modes : List Mode
  pub overridden : Bool
  pub action : Action
  pub elsewhere : Option Action
  pub section : Section
  pub sureness : Sureness

-- the modes in which the train may move
abbrev pub moving : List Mode
moving = FS ∷ OS ∷ SR ∷ SH ∷ UN ∷ []

-- .. in which this kernel uses what is announced of the track ahead
abbrev pub track_ahead : List Mode
track_ahead = FS ∷ OS ∷ SR ∷ SB ∷ UN ∷ []

-- .. in which it uses an order of a level
abbrev pub level_order : List Mode
level_order = FS ∷ OS ∷ SR ∷ SB ∷ UN ∷ PT ∷ []

-- whether a row counts while an override is active
abbrev pub always : Bool
always = true

abbrev pub not_overridden : Bool
not_overridden = false

-- what is demanded elsewhere
abbrev pub nothing : Option Action
nothing = None

abbrev pub unreadable : Option Action
unreadable = Some Unreadable

abbrev pub row : List Mode → Bool → Action → Option Action → ℕ → ℕ → ℕ → Sureness → Row
row modes overridden action elsewhere chapter section clause sureness =
    record { modes = modes; overridden = overridden; action = action; elsewhere = elsewhere; section = record { chapter = chapter; section = section; clause = clause }; sureness = sureness }

-- Found in a packet, or in a telegram that is refused: modes, override, demand, elsewhere, section, sureness.
abbrev pub table : Finding → Row
table StopInStaffResponsible = row (SR ∷ []) not_overridden Trip nothing 4 6 3 S
table DangerForShunting = row (SH ∷ []) not_overridden Trip nothing 4 6 3 S
table ShuntingBalises = row moving always NotObeyed nothing 4 6 3 F
table StopShunting = row (SH ∷ SB ∷ []) always NotObeyed nothing 5 6 0 B
table Repositioning = row track_ahead always NotObeyed nothing 3 8 5 F
table ConditionalLevel = row level_order always NotObeyed nothing 5 10 0 F
table AxleLoadSpeeds = row track_ahead always NotObeyed nothing 3 11 4 F
table RouteSuitability = row track_ahead always NotObeyed nothing 3 12 2 F
table SlipperyRail = row track_ahead always NotObeyed nothing 3 18 4 F
table EndlessEndSpeed = row track_ahead always NotObeyed nothing 4 6 3 F
table GreaterVersion = row moving always Trip unreadable 3 17 0 B
table SameVersion = row moving always Unreadable unreadable 3 17 0 F
table LesserVersion = row moving always Unreadable unreadable 3 17 0 B
table RefusedUnlinked = row moving always ServiceBrake unreadable 3 16 2 B
table Refused = row moving always Unreadable unreadable 3 16 2 B

-- What a row demands in a mode, with or without an active override.
abbrev pub action_by : Row → Mode → Bool → Option Action
action_by row mode overridden = if is_one_of row.modes mode && (row.overridden || not overridden) then Some row.action else row.elsewhere
