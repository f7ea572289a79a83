-- What decides a limit, as a kind with its texts, a place, a speed and a number (this project's profile;
-- docs/explain/brakes.md reports each kind at length). Places are centimetres, speeds metres per hour.
use Rattle.std.specs.Prelude.{ℕ, ℤ, Option, Some, None, List, codes}
use Rattle.authority.specs.declared.answers.Release.{Release}
use Rattle.authority.specs.declared.answers.Release.TheVariants as release
use Rattle.speed_supervision.specs.declared.cause.LimitCause.{LimitCause}
use Rattle.speed_supervision.specs.declared.cause.LimitCause.TheVariants as cause
use Rattle.speed_supervision.specs.declared.cause.NationalValue.{NationalValue}
use Rattle.speed_supervision.specs.declared.cause.NationalValue.TheVariants as national
use Rattle.speed_supervision.specs.declared.cause.OverTrain.{OverTrain}
use Rattle.speed_supervision.specs.declared.cause.OverTrain.TheVariants as over
use Rattle.speed_supervision.specs.declared.cause.SpeedCause.{SpeedCause}
use Rattle.speed_supervision.specs.declared.cause.SpeedCause.TheVariants as speed
use Rattle.speed_supervision.specs.declared.cause.TargetAhead.{TargetAhead}
use Rattle.speed_supervision.specs.declared.cause.TargetKind.{TargetKind}
use Rattle.speed_supervision.specs.declared.cause.TargetKind.TheVariants as target
use Rattle.track_store.specs.declared.restriction.Restriction.{Restriction}
use Rattle.reasons.specs.declared.limit_texts.LimitKind.{LimitKind}
use Rattle.reasons.specs.declared.limit_texts.LimitKind.TheVariants as kind
use Rattle.reasons.specs.declared.limit_texts.LimitReport.{LimitReport}

abbrev pub reported_as : LimitKind → ℕ → Option ℤ → Option ℕ → LimitReport
reported_as what speed place number = record { kind = what; speed = speed; place = place; number = number }

abbrev pub plain : LimitKind → ℕ → LimitReport
plain what speed = reported_as what speed None None

abbrev pub placed : LimitKind → ℕ → ℤ → LimitReport
placed what speed place = reported_as what speed (Some place) None

abbrev pub restriction_reported : LimitKind → ℕ → ℤ → Restriction → LimitReport
restriction_reported what speed place restriction = reported_as what speed (Some place) (Some restriction.number)

abbrev pub national_kind : NationalValue → LimitKind
national_kind national.StaffResponsible = kind.StaffResponsible
national_kind national.Override = kind.Override
national_kind national.Shunting = kind.Shunting
national_kind national.Unfitted = kind.Unfitted

-- what lies over the train has the speed of the limit; its place is its first centimetre, of a static speed the first
-- one that the train may cover
abbrev pub over_reported : ℕ → OverTrain → LimitReport
over_reported limit over.Maximum = plain kind.Maximum limit
over_reported limit over.Main = plain kind.Main limit
over_reported limit over.End = plain kind.End limit
over_reported limit (over.StaticSpeed place) = placed kind.StaticSpeed limit place
over_reported limit (over.Restriction speed_restriction) = restriction_reported kind.Restriction limit speed_restriction.start speed_restriction
over_reported limit (over.Area area) = placed kind.Area limit area.start

-- what lies ahead has the speed that it asks for at its place
abbrev pub target_reported : ℤ → ℕ → TargetKind → LimitReport
target_reported place speed target.StaticSpeed = placed kind.StaticSpeedAhead speed place
target_reported place speed target.UnknownSpeed = placed kind.UnknownSpeedAhead speed place
target_reported place speed (target.Restriction speed_restriction) = restriction_reported kind.RestrictionAhead speed place speed_restriction
target_reported place speed (target.Area area) = placed kind.AreaAhead speed place
target_reported place speed target.EndOfAuthority = placed kind.EndOfAuthority speed place
target_reported place speed target.SupervisedLocation = placed kind.SupervisedLocation speed place

abbrev pub ahead_reported : TargetAhead → LimitReport
ahead_reported ahead = target_reported ahead.target.place ahead.target.speed ahead.kind

abbrev pub release_kind : Release → LimitKind
release_kind (release.Speed its) = kind.Release
release_kind release.National = kind.NationalRelease

abbrev pub speed_reported : ℕ → SpeedCause → LimitReport
speed_reported limit (speed.OverTrain over) = over_reported limit over
speed_reported limit (speed.Ahead ahead) = ahead_reported ahead
speed_reported limit (speed.Release release) = plain (release_kind release) limit

abbrev pub limit_reported : ℕ → LimitCause → LimitReport
limit_reported limit cause.NoSpeed = plain kind.NoSpeed limit
limit_reported limit cause.NoTrainData = plain kind.NoTrainData limit
limit_reported limit (cause.National value) = plain (national_kind value) limit
limit_reported limit (cause.Speed decides) = speed_reported limit decides

-- ---- the texts of each kind: its name in JSON, a sentence, and the sections that it is from

abbrev pub limit_name_of : LimitKind → List ℕ
limit_name_of kind.NoSpeed = codes "no_speed"
limit_name_of kind.NoTrainData = codes "no_train_data"
limit_name_of kind.StaffResponsible = codes "national_staff_responsible"
limit_name_of kind.Override = codes "national_override"
limit_name_of kind.Shunting = codes "national_shunting"
limit_name_of kind.Unfitted = codes "national_unfitted"
limit_name_of kind.Maximum = codes "train_maximum"
limit_name_of kind.Main = codes "main_speed"
limit_name_of kind.End = codes "end_speed"
limit_name_of kind.StaticSpeed = codes "static_speed"
limit_name_of kind.Restriction = codes "restriction"
limit_name_of kind.Area = codes "mode_area"
limit_name_of kind.StaticSpeedAhead = codes "static_speed_ahead"
limit_name_of kind.UnknownSpeedAhead = codes "unknown_speed_ahead"
limit_name_of kind.RestrictionAhead = codes "restriction_ahead"
limit_name_of kind.AreaAhead = codes "mode_area_ahead"
limit_name_of kind.EndOfAuthority = codes "end_of_authority"
limit_name_of kind.SupervisedLocation = codes "supervised_location"
limit_name_of kind.Release = codes "release_speed"
limit_name_of kind.NationalRelease = codes "national_release_speed"

abbrev pub limit_sentence_of : LimitKind → List ℕ
limit_sentence_of kind.NoSpeed = codes "no train may run in this mode"
limit_sentence_of kind.NoTrainData = codes "no train data are valid"
limit_sentence_of kind.StaffResponsible = codes "the limit is the national value V_NVSTFF"
limit_sentence_of kind.Override = codes "an override is active, and the limit is the national value V_NVSUPOVTRP"
limit_sentence_of kind.Shunting = codes "the limit is the national value V_NVSHUNT"
limit_sentence_of kind.Unfitted = codes "the limit is the national value V_NVUNFIT"
limit_sentence_of kind.Maximum = codes "the limit is the greatest speed of the train"
limit_sentence_of kind.Main = codes "the limit is V_MAIN of the authority"
limit_sentence_of kind.End = codes "the limit is V_LOA, the end of authority being reached"
limit_sentence_of kind.StaticSpeed = codes "the limit is the static speed over the train"
limit_sentence_of kind.Restriction = codes "the limit is that of a temporary speed restriction over the train"
limit_sentence_of kind.Area = codes "the limit is that of a mode area over the train"
limit_sentence_of kind.StaticSpeedAhead = codes "the limit is that of a static speed ahead"
limit_sentence_of kind.UnknownSpeedAhead = codes "the limit is that of a stop where no static speed is known"
limit_sentence_of kind.RestrictionAhead = codes "the limit is that of a temporary speed restriction ahead"
limit_sentence_of kind.AreaAhead = codes "the limit is that of a mode area ahead"
limit_sentence_of kind.EndOfAuthority = codes "the limit is that of the end of authority"
limit_sentence_of kind.SupervisedLocation = codes "the limit is that of the supervised location"
limit_sentence_of kind.Release = codes "the limit is the release speed of the authority"
limit_sentence_of kind.NationalRelease = codes "the limit is the national release speed V_NVREL"

abbrev pub limit_section_of : LimitKind → List ℕ
limit_section_of kind.NoSpeed = codes "4.4"
limit_section_of kind.NoTrainData = codes "this project's profile"
limit_section_of kind.StaffResponsible = codes "3.11.7, 3.18.2"
limit_section_of kind.Override = codes "3.11.7, 3.18.2"
limit_section_of kind.Shunting = codes "3.11.7, 3.18.2"
limit_section_of kind.Unfitted = codes "3.11.7, 3.18.2"
limit_section_of kind.Maximum = codes "3.11.8"
limit_section_of kind.Main = codes "3.11.6"
limit_section_of kind.End = codes "3.8"
limit_section_of kind.StaticSpeed = codes "3.11.3"
limit_section_of kind.Restriction = codes "3.11.5"
limit_section_of kind.Area = codes "3.12.4"
limit_section_of kind.StaticSpeedAhead = codes "3.11.3, 3.13"
limit_section_of kind.UnknownSpeedAhead = codes "3.11.3, 3.13"
limit_section_of kind.RestrictionAhead = codes "3.11.5, 3.13"
limit_section_of kind.AreaAhead = codes "3.12.4, 3.13"
limit_section_of kind.EndOfAuthority = codes "3.8, 3.13"
limit_section_of kind.SupervisedLocation = codes "3.8, 3.13"
limit_section_of kind.Release = codes "3.8, 3.13"
limit_section_of kind.NationalRelease = codes "3.8, 3.13"
