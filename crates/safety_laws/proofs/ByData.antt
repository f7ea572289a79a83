-- In each mode in which the train runs, its data are valid.
use Rattle.std.proofs.Common.{◌≡◌, Bool, true, false, List, [], ◌∷◌, refl, inl, inr, ◌⊎◌}
use Rattle.std.specs.Prelude.{Option, Some, None}
use Rattle.std.specs.Option.{option_or}
use Rattle.driver.specs.Accepting.{needs, standing_in, leaving_refusal}
use Rattle.driver.specs.declared.action.Action.{Action}
use Rattle.driver.specs.declared.action.Action.TheVariants.{Confirm}
use Rattle.driver.specs.declared.action.Confirmed.TheVariants as confirm
use Rattle.driver.specs.declared.action_refusal.ActionRefusal.TheVariants.{TrainDataNotValid}
use Rattle.driver.specs.declared.datum.Datum.{Datum}
use Rattle.driver.specs.declared.datum.Datum.TheVariants.{Unknown}
use Rattle.driver.specs.declared.occasion.Occasion.{Occasion}
use Rattle.driver.specs.Data.{is_valid}
use Rattle.driver.specs.Entries.{DriverEntry}
use Rattle.driver.specs.Entries.DriverEntry.{Did, ModeEntered}
use Rattle.driver.specs.Limits.{Train}
use Rattle.driver.specs.Description.{ItemReport, after_reported, datum_after, train_data_reported, ends}
use Rattle.driver.specs.Description.ItemReport.{Confirms, Leaves, Nothing}
use Rattle.events.specs.declared.input.Event.{Event}
use Rattle.events.specs.declared.input.Event.TheVariants as an_event
use Rattle.events.specs.declared.input.Input.{Input}
use Rattle.mode_table.specs.declared.conditions.Conditions.{Conditions}
use Rattle.mode_table.specs.declared.level.TrainLevel.{TrainLevel}
use Rattle.mode_table.specs.declared.mode.Mode.{Mode}
use Rattle.mode_table.specs.declared.mode.Mode.TheVariants.{Shunting, StandBy, PostTrip, SystemFailure}
use Rattle.mode_table.specs.declared.statuses.Fate.TheVariants.{Kept as K}
use Rattle.mode_table.specs.Modes.{is_mode, is_one_of}
use Rattle.mode_table.specs.Rows.{next_mode}
use Rattle.mode_control.specs.declared.deed.Deed.{Deed}
use Rattle.mode_control.specs.Conditions.{is_start}
use Rattle.mode_control.specs.History.{action_of, after_deed, after_level, after_mode, deeds, mode_of}
use Rattle.mode_control.specs.Life.{Life, driver_of, left_at_power_up, grown}
use Rattle.mode_control.specs.Sentences.{situation, deed_of, entry_of}
use Rattle.kernel.specs.Lives.{life_of}
use Rattle.safety_laws.specs.Running.{modes_by_data}
use Rattle.safety_laws.proofs.Events.{past_turn, event_seen, found}
use Rattle.safety_laws.proofs.Leaving.{started, neither, holds}

abbrev runs : Mode → Bool
runs mode = is_one_of modes_by_data mode

-- ---- what an entry leaves valid

reported_keeps : (reported : ItemReport Train) (before : Datum Train) → ends reported ≡ false → is_valid before ≡ true → is_valid (after_reported reported before) ≡ true
reported_keeps Confirms Unknown e h = h
reported_keeps (Leaves K) before e h = h
reported_keeps (Leaves fate) before e h = absurd (let no : true ≡ false = e in cc)
reported_keeps Nothing before e h = h
reported_keeps reported before e h = refl

by_action : (action : Action) (occasion : Occasion) → ends (train_data_reported (Did action occasion)) ≡ false
by_action (Confirm confirm.TrainData) occasion = refl
by_action action occasion = refl

by_mode : (mode : Mode) → runs mode ≡ true → ends (train_data_reported (ModeEntered mode)) ≡ false
by_mode Shunting h = absurd (let no : false ≡ true = h in cc)
by_mode StandBy h = absurd (let no : false ≡ true = h in cc)
by_mode mode h = refl

module _ (kept : Datum Train) where
  abbrev is_so : List DriverEntry → Type 0
  is_so entries = is_valid (datum_after train_data_reported kept entries) ≡ true

  past_deed : (deed : Option Deed) (rest : List DriverEntry) → is_so rest → is_so (after_deed deed rest)
  past_deed None rest h = h
  past_deed (Some deed) rest h = reported_keeps (train_data_reported (Did deed.action deed.occasion)) (datum_after train_data_reported kept rest) (by_action deed.action deed.occasion) h

  past_level : (level : Option TrainLevel) (rest : List DriverEntry) → is_so rest → is_so (after_level level rest)
  past_level None rest h = h
  past_level (Some level) rest h = h

  past_mode : (mode : Mode) (rest : List DriverEntry) → runs mode ≡ true → is_so rest → is_so (ModeEntered mode ∷ rest)
  past_mode mode rest runs h = reported_keeps (train_data_reported (ModeEntered mode)) (datum_after train_data_reported kept rest) (by_mode mode runs) h

-- ---- who enters such a mode from another one has started

from_stand_by : (c : Conditions) (overrun shunting_chosen started level_1 full level_0 : Bool) →
    runs (next_mode StandBy (record c { overrun = overrun; shunting_chosen = shunting_chosen; started = started; level_1 = level_1; full = full; level_0 = level_0 })) ≡ true →
    started ≡ true
from_stand_by c false false true level_1 full level_0 h = refl
from_stand_by c overrun shunting_chosen started level_1 full level_0 h = absurd (let no : false ≡ true = h in cc)

from_shunting : (c : Conditions) (overrun desk_closed shunting_left : Bool) →
    runs (next_mode Shunting (record c { overrun = overrun; desk_closed = desk_closed; shunting_left = shunting_left })) ≡ true → c.started ≡ true
from_shunting c false false false h = absurd (let no : false ≡ true = h in cc)
from_shunting c overrun desk_closed shunting_left h = absurd (let no : false ≡ true = h in cc)

enters : (old : Mode) (c : Conditions) → runs (next_mode old c) ≡ true → (runs old ≡ true) ⊎ (c.started ≡ true)
enters StandBy c h = inr (from_stand_by c c.overrun c.shunting_chosen c.started c.level_1 c.full c.level_0 h)
enters Shunting c h = inr (from_shunting c c.overrun c.desk_closed c.shunting_left h)
enters SystemFailure c h = absurd (let no : false ≡ true = h in cc)
enters old c h = inl refl

-- ---- a Start is accepted with valid data alone

started_with : (life : Life) (input : Input) → is_start (action_of (deed_of life input)) ≡ true → is_valid (driver_of life).train_data ≡ true
started_with life input h =
    let leaving = leaving_refusal (driver_of life) in
    let train = needs (is_valid (driver_of life).train_data) TrainDataNotValid in
    let none = neither (standing_in (StandBy ∷ PostTrip ∷ []) (situation life)) (option_or leaving train) (started life input h).is_accepted in
    holds (is_valid (driver_of life).train_data) TrainDataNotValid (neither leaving train none.1).1

-- ---- one event, and all

module _ (life : Life) (input : Input) where
  one_event : (runs (mode_of life.entries) ≡ true → is_valid (driver_of life).train_data ≡ true) →
      runs (mode_of (entry_of life input ∷ life.entries)) ≡ true → is_valid (driver_of (grown life (entry_of life input))).train_data ≡ true
  one_event before now =
      let deed : Option Deed = deed_of life input in
      let level : Option TrainLevel = (event_seen life input).level in
      let c : Conditions = found life input in
      let old : Mode = mode_of life.entries in
      let new : Mode = next_mode old c in
      let kept : Datum Train = (left_at_power_up life).train_data in
      let was : List DriverEntry = deeds life.entries in
      let rest : List DriverEntry = after_level level (after_deed deed was) in
      let still : is_valid (driver_of life).train_data ≡ true → is_so kept rest = λ h. past_level kept level (after_deed deed was) (past_deed kept deed was h) in
      past_turn runs (λ (entered : Option Mode). is_so kept (after_mode entered rest)) (is_mode old new) old new now (λ h. still (before h))
      (λ h. past_mode kept new rest h (elim (enters old c h) [ inl ran ↦ still (before ran) | inr s ↦ still (started_with life input s) ]))

pub runs_by_data : (events : List Event) → runs (mode_of (life_of events).entries) ≡ true → is_valid (driver_of (life_of events)).train_data ≡ true
runs_by_data [] h = absurd (let no : false ≡ true = h in cc)
runs_by_data (an_event.PowerUp c ∷ events) h = absurd (let no : false ≡ true = h in cc)
runs_by_data (an_event.Input input ∷ events) h = one_event (life_of events) input (runs_by_data events) h
