-- How Trip, System Failure and Stand By are left.
use Rattle.std.proofs.Common.{◌≡◌, Bool, true, false, ℤ, List, [], ◌∷◌, cond, refl, ap, sym, ◌∙◌, subst, inl, inr, ◌⊎◌, arith}
use Rattle.std.specs.Prelude.{Option, Some, None, is_none, ◌&&◌, ◌||◌, not, ◌<ℤ◌}
use Rattle.std.specs.Option.{option_map_or, option_or}
use Rattle.authority.specs.Authority.{end_of}
use Rattle.authority.specs.declared.answers.End.{End}
use Rattle.std.proofs.lemmas.Bool.{not-true, both_ways, eqb-true}
use Rattle.std.proofs.lemmas.Bool.Decides.{nat_tests}
use Rattle.balise_groups.specs.declared.message.Closed.{Closed}
use Rattle.balise_groups.specs.declared.message.Closed.TheVariants as closed
use Rattle.driver.specs.Accepting.{accepts, needs, standing_in, stands, leaving_refusal}
use Rattle.driver.specs.declared.action.Action.{Action}
use Rattle.driver.specs.declared.action.Action.TheVariants.{Start, ChooseShunting, Acknowledge, CloseDesk}
use Rattle.driver.specs.declared.action.Acknowledged.TheVariants as kind
use Rattle.driver.specs.declared.action_refusal.ActionRefusal.{ActionRefusal}
use Rattle.driver.specs.declared.action_refusal.ActionRefusal.TheVariants.{OtherMode, NotAtStandstill, TrainDataNotValid, NoTrip}
use Rattle.driver.specs.Data.{is_valid}
use Rattle.events.specs.declared.input.Input.{Input}
use Rattle.events.specs.declared.input.Input.TheVariants.{Odometer, Driver}
use Rattle.mode_table.specs.declared.conditions.Conditions.{Conditions}
use Rattle.mode_table.specs.declared.mode.Mode.{Mode}
use Rattle.mode_table.specs.declared.mode.Mode.TheVariants.{FullSupervision, OnSight, StaffResponsible, Shunting, Unfitted, StandBy, Trip, PostTrip, SystemFailure}
use Rattle.mode_table.specs.Modes.{is_one_of}
use Rattle.odometry.specs.Place.{stays_in_range}
use Rattle.track_picture.specs.Entry.{TrackEntry, InputEffect, Used}
use Rattle.track_picture.specs.History.{place_of, speed_of, groups_of, authorities, happened_of, is_stopped}
use Rattle.track_picture.specs.Sentences.{initial, happened_first, with_closed, closed_by, used_by}
use Rattle.mode_control.specs.declared.deed.Deed.{Deed}
use Rattle.mode_control.specs.Conditions.{is_start, is_shunting_choice, is_trip_acknowledging, is_desk_closing, is_overridden, is_beyond, is_beyond_end}
use Rattle.mode_control.specs.History.{action_of, mode_of, tracks}
use Rattle.mode_control.specs.Life.{Life, driver_of}
use Rattle.mode_control.specs.Sentences.{situation, occasion, deed_of, entry_of, train_in}
use Rattle.mode_control.specs.Tripping.{seen_by}
use Rattle.safety_laws.specs.Intervening.{modes_to_end, seen, HasPassedEnd}
use Rattle.safety_laws.specs.Modes.{IsOverrun, IsDoneAtStandstill, modes_by_start}
use Rattle.safety_laws.proofs.Events.{turned, found}

-- ---- no condition of an action fails

pub neither : (one other : Option ActionRefusal) → is_none (option_or one other) ≡ true → (is_none one ≡ true) × (is_none other ≡ true)
neither None other h = (refl, h)
neither (Some why) other h = absurd (let no : false ≡ true = h in cc)

pub holds : (condition : Bool) (why : ActionRefusal) → is_none (needs condition why) ≡ true → condition ≡ true
holds true why h = refl
holds false why h = absurd (let no : false ≡ true = h in cc)

-- ---- the rows from each of them

from_trip : (c : Conditions) (overrun trip_acknowledged : Bool) →
    (let new = turned Trip (record c { overrun = overrun; trip_acknowledged = trip_acknowledged }) in
    (new ≡ Trip) ⊎ ((new ≡ PostTrip) × (trip_acknowledged ≡ true)) ⊎ ((new ≡ SystemFailure) × (overrun ≡ true)))
from_trip c true trip_acknowledged = inr (inr (refl, refl))
from_trip c false true = inr (inl (refl, refl))
from_trip c false false = inl refl

from_stand_by : (c : Conditions) (overrun shunting_chosen started level_1 full level_0 : Bool) →
    (let new = turned StandBy (record c { overrun = overrun; shunting_chosen = shunting_chosen; started = started; level_1 = level_1; full = full; level_0 = level_0 }) in
    (new ≡ StandBy) ⊎ ((is_one_of modes_by_start new ≡ true) × (started ≡ true)) ⊎ ((new ≡ Shunting) × (shunting_chosen ≡ true))
    ⊎ ((new ≡ SystemFailure) × (overrun ≡ true)))
from_stand_by c true shunting_chosen started level_1 full level_0 = inr (inr (inr (refl, refl)))
from_stand_by c false true started level_1 full level_0 = inr (inr (inl (refl, refl)))
from_stand_by c false false true true true level_0 = inr (inl (refl, refl))
from_stand_by c false false true true false level_0 = inr (inl (refl, refl))
from_stand_by c false false true false full true = inr (inl (refl, refl))
from_stand_by c false false started level_1 full level_0 = inl refl

-- past the end of authority: the rows that come before the trip lead to Stand By and to System Failure
abbrev past_end : Mode → Mode → Conditions → Type 0
past_end old new c = (new ≡ Trip) ⊎ ((new ≡ SystemFailure) × (c.overrun ≡ true)) ⊎ ((new ≡ StandBy) × (c.desk_closed ≡ true))

from_each : (old : Mode) (c : Conditions) (overrun desk_closed : Bool) → is_one_of modes_to_end old ≡ true →
    (let now = record c { overrun = overrun; desk_closed = desk_closed; trip = true } in past_end old (turned old now) now)
from_each FullSupervision c true desk_closed h = inr (inl (refl, refl))
from_each FullSupervision c false true h = inr (inr (refl, refl))
from_each FullSupervision c false false h = inl refl
from_each OnSight c true desk_closed h = inr (inl (refl, refl))
from_each OnSight c false true h = inr (inr (refl, refl))
from_each OnSight c false false h = inl refl
from_each StaffResponsible c true desk_closed h = inr (inl (refl, refl))
from_each StaffResponsible c false true h = inr (inr (refl, refl))
from_each StaffResponsible c false false h = inl refl
from_each old c overrun desk_closed h = absurd (let no : false ≡ true = h in cc)

-- ---- an overrun

module _ (mode : Mode) (entries : List TrackEntry) (initial : InputEffect) where
  same_overrun : (group : Option Closed) (used : Used) →
      (with_closed mode entries initial group used).happened.overrun ≡ used.happened.overrun
  same_overrun None used = refl
  same_overrun (Some (closed.Broken b)) used = refl
  same_overrun (Some (closed.Whole message)) used = refl

overrun_first : (mode : Mode) (entries : List TrackEntry) (input : Input) →
    (used_by mode entries input).happened.overrun ≡ (happened_first entries input).overrun
overrun_first mode entries input =
    let first = initial entries input in
    let closed = closed_by (groups_of entries) first.heard in
    let base : Used = record { groups = []; happened = happened_first entries input } in
    same_overrun mode entries first closed.whole (with_closed mode entries first closed.ended base)
    ∙ same_overrun mode entries first closed.ended base

module _ (life : Life) where
  by_first : (input : Input) → (happened_first (tracks life.entries) input).overrun ≡ true → IsOverrun life input
  by_first (Odometer reading) h = record { reading = reading; is = refl; has_none = not-true (stays_in_range (place_of (tracks life.entries)) reading.movement) h }
  by_first other h = absurd (let no : false ≡ true = h in cc)

  overran : (input : Input) → (found life input).overrun ≡ true → IsOverrun life input
  overran input h = by_first input (sym (overrun_first (mode_of life.entries) (tracks life.entries) input) ∙ h)

  -- ---- an action that was accepted

  abbrev accepted : Action → Bool
  accepted action = accepts (driver_of life) (situation life) action

  done : (action : Action) (modes : List Mode) → accepted action ≡ true → is_none (standing_in modes (situation life)) ≡ true → IsDoneAtStandstill life (Driver action) action
  done action modes is stood =
      let none = neither (needs (is_one_of modes (mode_of life.entries)) OtherMode) (needs (stands (situation life)) NotAtStandstill) stood in
      let still = holds (stands (situation life)) NotAtStandstill none.1 in
      record { is = refl; is_accepted = is; stands = eqb-true (speed_of (tracks life.entries)) 0 still }

  -- what a test finds in an input is an action of the driver that was accepted
  by_deed : (test : Option Action → Bool) (wanted : Action) → test None ≡ false →
      ((action : Action) → accepted action ≡ true → test (Some action) ≡ true → IsDoneAtStandstill life (Driver action) wanted) →
      (input : Input) → test (action_of (deed_of life input)) ≡ true → IsDoneAtStandstill life input wanted
  by_deed test wanted none by (Driver action) h =
      let given : Bool → Option Deed = λ (b : Bool). cond b (Some (record { action = action; occasion = occasion life })) None in
      let cases : (b : Bool) → accepted action ≡ b → test (action_of (given b)) ≡ true → IsDoneAtStandstill life (Driver action) wanted = elim [
        | true ↦ λ is k. by action is k
        | false ↦ λ is k. absurd (both_ways (test None) none k)
      ] in
      cases (accepted action) refl h
  by_deed test wanted none by other h = absurd (both_ways (test None) none h)

  acknowledged_by : (action : Action) → accepted action ≡ true → is_trip_acknowledging (Some action) ≡ true →
      IsDoneAtStandstill life (Driver action) (Acknowledge kind.Trip)
  acknowledged_by (Acknowledge kind.Trip) is h =
      done (Acknowledge kind.Trip) (Trip ∷ StandBy ∷ []) is (neither (standing_in (Trip ∷ StandBy ∷ []) (situation life)) (needs (driver_of life).trip_outstanding NoTrip) is).0
  acknowledged_by action is h = absurd (let no : false ≡ true = h in cc)

  acknowledged : (input : Input) → is_trip_acknowledging (action_of (deed_of life input)) ≡ true → IsDoneAtStandstill life input (Acknowledge kind.Trip)
  acknowledged = by_deed is_trip_acknowledging (Acknowledge kind.Trip) refl acknowledged_by

  started_by : (action : Action) → accepted action ≡ true → is_start (Some action) ≡ true → IsDoneAtStandstill life (Driver action) Start
  started_by Start is h =
      let leaving = option_or (leaving_refusal (driver_of life)) (needs (is_valid (driver_of life).train_data) TrainDataNotValid) in
      done Start (StandBy ∷ PostTrip ∷ []) is (neither (standing_in (StandBy ∷ PostTrip ∷ []) (situation life)) leaving is).0
  started_by action is h = absurd (let no : false ≡ true = h in cc)

  pub started : (input : Input) → is_start (action_of (deed_of life input)) ≡ true → IsDoneAtStandstill life input Start
  started = by_deed is_start Start refl started_by

  abbrev all_but_trip : List Mode
  all_but_trip = StandBy ∷ FullSupervision ∷ OnSight ∷ StaffResponsible ∷ Unfitted ∷ PostTrip ∷ []

  chosen_by : (action : Action) → accepted action ≡ true → is_shunting_choice (Some action) ≡ true → IsDoneAtStandstill life (Driver action) ChooseShunting
  chosen_by ChooseShunting is h =
      done ChooseShunting all_but_trip is (neither (standing_in all_but_trip (situation life)) (leaving_refusal (driver_of life)) is).0
  chosen_by action is h = absurd (let no : false ≡ true = h in cc)

  chosen : (input : Input) → is_shunting_choice (action_of (deed_of life input)) ≡ true → IsDoneAtStandstill life input ChooseShunting
  chosen = by_deed is_shunting_choice ChooseShunting refl chosen_by

  closed_by_driver : (action : Action) → accepted action ≡ true → is_desk_closing (Some action) ≡ true → IsDoneAtStandstill life (Driver action) CloseDesk
  closed_by_driver CloseDesk is h =
      done CloseDesk (FullSupervision ∷ OnSight ∷ StaffResponsible ∷ Shunting ∷ Unfitted ∷ PostTrip ∷ []) is is
  closed_by_driver action is h = absurd (let no : false ≡ true = h in cc)

  desk_closed : (input : Input) → is_desk_closing (action_of (deed_of life input)) ≡ true → IsDoneAtStandstill life input CloseDesk
  desk_closed = by_deed is_desk_closing CloseDesk refl closed_by_driver

  -- ---- one event

  is_tripping : (overridden beyond requested stopped : Bool) → overridden ≡ false → beyond ≡ true → (not overridden && (beyond || requested || stopped)) ≡ true
  is_tripping overridden beyond requested stopped free is = rw (free, is) refl

  is_past : (place : ℤ) (end : Option End) (reported : End) → end ≡ Some reported → reported.speed ≡ 0 → reported.place <ℤ place →
      option_map_or (is_beyond place) end false ≡ true
  is_past place (Some end) reported is no_speed past = grind (arith, nat_tests)
  is_past place None reported is no_speed past = absurd (let no : None ≡ Some reported = is in cc)

  pub trips_past_end : (input : Input) → is_one_of modes_to_end (mode_of life.entries) ≡ true → HasPassedEnd life input →
      is_overridden (seen life input) ≡ false →
      (mode_of (entry_of life input ∷ life.entries) ≡ Trip)
      ⊎ ((mode_of (entry_of life input ∷ life.entries) ≡ SystemFailure) × IsOverrun life input)
      ⊎ ((mode_of (entry_of life input ∷ life.entries) ≡ StandBy) × IsDoneAtStandstill life input CloseDesk)
  trips_past_end input watched passed free =
      let c : Conditions = found life input in
      let now = seen life input in
      let beyond = is_past (train_in now (seen_by life input)).min_front (end_of (authorities (tracks now.entries))) passed.end passed.known passed.no_speed passed.is_past in
      let tripped : c.trip ≡ true =
      is_tripping (is_overridden now) (is_beyond_end now (train_in now (seen_by life input)))
      (happened_of (tracks now.entries)).requested.trip (is_stopped (tracks now.entries)) free beyond in
      let same : record c { trip = true } ≡ c = ap (λ (b : Bool). record c { trip = b }) (sym tripped) in
      let each = subst (λ (other : Conditions). past_end (mode_of life.entries) (turned (mode_of life.entries) other) other) same
      (from_each (mode_of life.entries) c c.overrun c.desk_closed watched) in
      elim each [
        | inl trip ↦ inl trip
        | inr other ↦ elim other [
          | inl w ↦ inr (inl (w.0, overran input w.1))
          | inr w ↦ inr (inr (w.0, desk_closed input w.1))
        ]
      ]

  abbrev after_trip : Input → Mode → Type 0
  after_trip input new =
      (new ≡ Trip) ⊎ ((new ≡ PostTrip) × IsDoneAtStandstill life input (Acknowledge kind.Trip)) ⊎ ((new ≡ SystemFailure) × IsOverrun life input)

  pub leaves_trip : (input : Input) → mode_of life.entries ≡ Trip → after_trip input (mode_of (entry_of life input ∷ life.entries))
  leaves_trip input is =
      let c : Conditions = found life input in
      subst (λ (old : Mode). after_trip input (turned old c)) (sym is)
      (elim (from_trip c c.overrun c.trip_acknowledged) [
        | inl same ↦ inl same
        | inr other ↦ elim other [
          | inl w ↦ inr (inl (w.0, acknowledged input w.1))
          | inr w ↦ inr (inr (w.0, overran input w.1))
        ]
      ])

  pub stays_failed : (input : Input) → mode_of life.entries ≡ SystemFailure → mode_of (entry_of life input ∷ life.entries) ≡ SystemFailure
  stays_failed input is =
      let c : Conditions = found life input in
      subst (λ (old : Mode). turned old c ≡ SystemFailure) (sym is) refl

  abbrev after_stand_by : Input → Mode → Type 0
  after_stand_by input new =
      (new ≡ StandBy) ⊎ ((is_one_of modes_by_start new ≡ true) × IsDoneAtStandstill life input Start)
      ⊎ ((new ≡ Shunting) × IsDoneAtStandstill life input ChooseShunting) ⊎ ((new ≡ SystemFailure) × IsOverrun life input)

  pub leaves_stand_by : (input : Input) → mode_of life.entries ≡ StandBy → after_stand_by input (mode_of (entry_of life input ∷ life.entries))
  leaves_stand_by input is =
      let c : Conditions = found life input in
      subst (λ (old : Mode). after_stand_by input (turned old c)) (sym is)
      (elim (from_stand_by c c.overrun c.shunting_chosen c.started c.level_1 c.full c.level_0) [
        | inl same ↦ inl same
        | inr other ↦ elim other [
          | inl w ↦ inr (inl (w.0, started input w.1))
          | inr last ↦ elim last [
            | inl w ↦ inr (inr (inl (w.0, chosen input w.1)))
            | inr w ↦ inr (inr (inr (w.0, overran input w.1)))
          ]
        ]
      ])
