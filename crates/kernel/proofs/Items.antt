-- What is kept, read off the whole list of events.
use Rattle.std.proofs.Common.{◌≡◌, ◌-◌, ◌^◌, min, Bool, true, false, List, [], ◌∷◌, ◌++◌, length, cond, refl, ap, sym, ◌∙◌, inl, inr, arith}
use Rattle.std.specs.Prelude.{Option, Some, None, ◌↔◌, IsTrue}
use Rattle.std.specs.Option.{option_or}
use Rattle.driver.specs.declared.datum.Datum.{Datum}
use Rattle.driver.specs.declared.datum.Datum.TheVariants.{Unknown, Valid, Invalid}
use Rattle.driver.specs.Data.{value_of, confirmed, met_by}
use Rattle.driver.specs.Entries.{DriverEntry, after_all}
use Rattle.driver.specs.Known.{trip_after}
use Rattle.driver.specs.LastGiven.{HasValue, WasGiven}
use Rattle.driver.specs.Laws.{HasTripped, IsOutstanding}
use Rattle.driver.specs.Description.{ItemReport, after_reported, datum_after, deletes, identity_reported, running_number_reported, train_data_reported, level_reported}
use Rattle.driver.specs.Description.ItemReport.{Gives, Confirms, Leaves, Nothing}
use Rattle.driver.proofs.Giving.{value_so}
use Rattle.driver.proofs.Outstanding.{outstanding_so}
use Rattle.events.specs.declared.input.Event.{Event}
use Rattle.events.specs.declared.input.Event.TheVariants.{PowerUp, Input}
use Rattle.events.specs.Kept.{PositionFrom}
use Rattle.mode_table.specs.declared.level.TrainLevel.{TrainLevel}
use Rattle.mode_table.specs.declared.mode.Mode.{Mode}
use Rattle.mode_table.specs.declared.statuses.Cold.{Cold}
use Rattle.mode_table.specs.declared.statuses.Cold.TheVariants as cold
use Rattle.mode_table.specs.declared.statuses.Fate.{Fate}
use Rattle.mode_table.specs.declared.statuses.Fate.TheVariants.{Kept as K, Invalid as I, Deleted as D}
use Rattle.mode_table.specs.declared.statuses.Item.TheVariants as item
use Rattle.mode_table.specs.Statuses.{power_up_status}
use Rattle.odometry.specs.Place.{KnownPlace as Place}
use Rattle.track_picture.specs.Entry.{Outcome}
use Rattle.track_picture.specs.History.{latest_fixed, fixed_by, group_of_fix, place_of}
use Rattle.vars.specs.declared.group.GroupIdentity.{GroupIdentity}
use Rattle.mode_control.specs.declared.deed.Deed.{Deed}
use Rattle.mode_control.specs.Entry.{SupervisionEntry}
use Rattle.mode_control.specs.History.{deeds, after_deed, after_level, after_mode, tracks}
use Rattle.mode_control.specs.Life.{Life, entered, left_at_power_up}
use Rattle.mode_control.specs.Sentences.{entry_of}
use Rattle.kernel.specs.Laws.{power_ups, all_deeds, last_group, group_in, IsLastGiven}
use Rattle.kernel.specs.Lives.{counts_of, life_of, kept_by}
use Rattle.kernel.specs.Position.{position_by, position_at_power_up, position_of}

-- ---- the counts

pub events_counted : (events : List Event) → (counts_of events).events ≡ min (length events) (2 ^ 64 - 1)
events_counted [] = refl
events_counted (PowerUp c ∷ events) = omega (arith, events_counted events)
events_counted (Input input ∷ events) = omega (arith, events_counted events)

pub lives_counted : (events : List Event) → (counts_of events).lives ≡ min (power_ups events) (2 ^ 32 - 1)
lives_counted [] = refl
lives_counted (PowerUp c ∷ events) = omega (arith, lives_counted events)
lives_counted (Input input ∷ events) = lives_counted events

-- ---- what bears on the driver's data, entry by entry

later_deed : (deed : Option Deed) (rest : List DriverEntry) → after_deed deed rest ≡ after_deed deed [] ++ rest
later_deed None rest = refl
later_deed (Some deed) rest = refl

later_level : (level : Option TrainLevel) (first rest : List DriverEntry) → after_level level (first ++ rest) ≡ after_level level first ++ rest
later_level None first rest = refl
later_level (Some level) first rest = refl

later_mode : (mode : Option Mode) (first rest : List DriverEntry) → after_mode mode (first ++ rest) ≡ after_mode mode first ++ rest
later_mode None first rest = refl
later_mode (Some mode) first rest = refl

pub one_entry : (entry : SupervisionEntry) (entries : List SupervisionEntry) → deeds (entry ∷ entries) ≡ deeds (entry ∷ []) ++ deeds entries
one_entry entry entries =
    let rest = deeds entries in
    ap (λ (es : List DriverEntry). after_mode entry.track.entered (after_level entry.level es)) (later_deed entry.deed rest)
    ∙ ap (after_mode entry.track.entered) (later_level entry.level (after_deed entry.deed []) rest)
    ∙ later_mode entry.track.entered (after_level entry.level (after_deed entry.deed [])) rest

-- ---- the value of a datum

as_invalid : {A : Type 0} (one : Datum A) → value_of (met_by I one) ≡ value_of one
as_invalid Unknown = refl
as_invalid (Valid v) = refl
as_invalid (Invalid v) = refl

by_fate : {A : Type 0} (fate : Fate) (one other : Datum A) → value_of one ≡ value_of other → value_of (met_by fate one) ≡ value_of (met_by fate other)
by_fate K one other same = same
by_fate D one other same = refl
by_fate I one other same = as_invalid one ∙ same ∙ sym (as_invalid other)

as_confirmed : {A : Type 0} (one : Datum A) → value_of (confirmed one) ≡ value_of one
as_confirmed Unknown = refl
as_confirmed (Valid v) = refl
as_confirmed (Invalid v) = refl

by_reported : {A : Type 0} (reported : ItemReport A) (one other : Datum A) → value_of one ≡ value_of other → value_of (after_reported reported one) ≡ value_of (after_reported reported other)
by_reported (Gives v) one other same = refl
by_reported Confirms one other same = as_confirmed one ∙ same ∙ sym (as_confirmed other)
by_reported (Leaves fate) one other same = by_fate fate one other same
by_reported Nothing one other same = same

still_invalid : {A : Type 0} (kept : Option A) → value_of (met_by I (entered kept)) ≡ kept
still_invalid None = refl
still_invalid (Some v) = refl

still_known : {A : Type 0} (c : Cold) (kept : Datum A) → value_of (met_by (power_up_status item.Level c) kept) ≡ value_of kept
still_known cold.NotMoved kept = refl
still_known cold.Unknown kept = as_invalid kept
still_known cold.Moved kept = as_invalid kept

module _ {A : Type 0} (reported : DriverEntry → ItemReport A) where
  pub in_turn : (kept : Datum A) (first rest : List DriverEntry) → datum_after reported kept (first ++ rest) ≡ datum_after reported (datum_after reported kept rest) first
  in_turn kept [] rest = refl
  in_turn kept (e ∷ first) rest = ap (after_reported (reported e)) (in_turn kept first rest)

  by_all : (one other : Datum A) (entries : List DriverEntry) → value_of one ≡ value_of other → value_of (datum_after reported one entries) ≡ value_of (datum_after reported other entries)
  by_all one other [] same = same
  by_all one other (e ∷ entries) same = by_reported (reported e) (datum_after reported one entries) (datum_after reported other entries) (by_all one other entries same)

  -- one input more
  one_more : (kept : Datum A) (entry : SupervisionEntry) (entries : List SupervisionEntry) (all : List DriverEntry) → value_of (datum_after reported kept (deeds entries)) ≡ value_of (datum_after reported Unknown all) →
      value_of (datum_after reported kept (deeds (entry ∷ entries))) ≡ value_of (datum_after reported Unknown (deeds (entry ∷ []) ++ all))
  one_more kept entry entries all same =
      let now = deeds (entry ∷ []) in
      ap (λ (es : List DriverEntry). value_of (datum_after reported kept es)) (one_entry entry entries)
      ∙ ap value_of (in_turn kept now (deeds entries))
      ∙ by_all (datum_after reported kept (deeds entries)) (datum_after reported Unknown all) now same
      ∙ sym (ap value_of (in_turn Unknown now all))

  given_only : (entries : List DriverEntry) (value : A) → HasValue reported Unknown entries value → WasGiven reported entries value
  given_only entries value (inl given) = given
  given_only entries value (inr was) = absurd (let no : None ≡ Some value = was.1 in cc)

  pub last_given : ((entry : DriverEntry) → deletes (reported entry) ≡ false) → (kept : List Event → Option A) →
      ((events : List Event) → kept events ≡ value_of (datum_after reported Unknown (all_deeds events))) → IsLastGiven reported kept
  last_given never kept is events value =
      let all = all_deeds events in
      let so = value_so reported never Unknown all value in (
        λ (h : kept events ≡ Some value). given_only all value (so.0 (sym (is events) ∙ h)),
        λ (h : WasGiven reported all value). is events ∙ so.1 (inl h),
      )

pub identity_is : (events : List Event) → (kept_by events).identity ≡ value_of (datum_after identity_reported Unknown (all_deeds events))
identity_is [] = refl
identity_is (PowerUp c ∷ events) = still_invalid (kept_by events).identity ∙ identity_is events
identity_is (Input input ∷ events) =
    let life = life_of events in one_more identity_reported (left_at_power_up life).identity (entry_of life input) life.entries (all_deeds events) (identity_is events)

pub running_number_is : (events : List Event) → (kept_by events).running_number ≡ value_of (datum_after running_number_reported Unknown (all_deeds events))
running_number_is [] = refl
running_number_is (PowerUp c ∷ events) = still_invalid (kept_by events).running_number ∙ running_number_is events
running_number_is (Input input ∷ events) =
    let life = life_of events in one_more running_number_reported (left_at_power_up life).running_number (entry_of life input) life.entries (all_deeds events) (running_number_is events)

pub train_data_is : (events : List Event) → (kept_by events).train_data ≡ value_of (datum_after train_data_reported Unknown (all_deeds events))
train_data_is [] = refl
train_data_is (PowerUp c ∷ events) = still_invalid (kept_by events).train_data ∙ train_data_is events
train_data_is (Input input ∷ events) =
    let life = life_of events in one_more train_data_reported (left_at_power_up life).train_data (entry_of life input) life.entries (all_deeds events) (train_data_is events)

pub level_is : (events : List Event) → value_of (kept_by events).level ≡ value_of (datum_after level_reported Unknown (all_deeds events))
level_is [] = refl
level_is (PowerUp c ∷ events) = still_known c (kept_by events).level ∙ level_is events
level_is (Input input ∷ events) =
    let life = life_of events in one_more level_reported (left_at_power_up life).level (entry_of life input) life.entries (all_deeds events) (level_is events)

-- ---- an outstanding trip

trips_in_turn : (kept : Bool) (first rest : List DriverEntry) → after_all trip_after kept (first ++ rest) ≡ after_all trip_after (after_all trip_after kept rest) first
trips_in_turn kept [] rest = refl
trips_in_turn kept (e ∷ first) rest = ap (trip_after e) (trips_in_turn kept first rest)

trip_is : (events : List Event) → (kept_by events).trip_outstanding ≡ after_all trip_after false (all_deeds events)
trip_is [] = refl
trip_is (PowerUp c ∷ events) = trip_is events
trip_is (Input input ∷ events) =
    let life = life_of events in
    let entry = entry_of life input in
    let now = deeds (entry ∷ []) in
    ap (after_all trip_after life.kept.trip_outstanding) (one_entry entry life.entries)
    ∙ trips_in_turn life.kept.trip_outstanding now (deeds life.entries)
    ∙ ap (λ (b : Bool). after_all trip_after b now) (trip_is events)
    ∙ sym (trips_in_turn false now (all_deeds events))

tripped_only : (entries : List DriverEntry) → IsOutstanding false entries → HasTripped entries
tripped_only entries (inl tripped) = tripped
tripped_only entries (inr was) = absurd (let no : false ≡ true = was.0 in cc)

pub trip_so : (events : List Event) → IsTrue (kept_by events).trip_outstanding ↔ HasTripped (all_deeds events)
trip_so events =
    let all = all_deeds events in
    let so = outstanding_so false all in (
      λ (h : IsTrue (kept_by events).trip_outstanding). tripped_only all (so.0 (sym (trip_is events) ∙ h)),
      λ (h : HasTripped all). trip_is events ∙ so.1 (inl h),
    )

-- ---- the group of the position

first_of : {A : Type 0} (one two three : Option A) → option_or (option_or one two) three ≡ option_or one (option_or two three)
first_of None two three = refl
first_of (Some v) two three = refl

fixing_after : (outcomes : List Outcome) (group other : Option GroupIdentity) → option_or (latest_fixed outcomes group) other ≡ latest_fixed outcomes (option_or group other)
fixing_after [] group other = refl
fixing_after (outcome ∷ outcomes) group other =
    first_of (fixed_by outcome) (latest_fixed outcomes group) other ∙ ap (option_or (fixed_by outcome)) (fixing_after outcomes group other)

going_on : (near : Bool) (one two : PositionFrom) → one.group ≡ two.group → group_in (cond near (Valid one) (Invalid two)) ≡ Some two.group
going_on true one two same = ap Some same
going_on false one two same = refl

goes_on : (kept : Datum PositionFrom) (place : Place) → group_in (position_by None kept place) ≡ group_in kept
goes_on Unknown place = refl
goes_on (Valid position) place = going_on _ _ position refl
goes_on (Invalid position) place = refl

group_by : (group : Option GroupIdentity) (kept : Datum PositionFrom) (place : Place) → group_in (position_by group kept place) ≡ option_or group (group_in kept)
group_by None kept place = goes_on kept place
group_by (Some group) kept place = refl

still_there : (c : Cold) (kept : Datum PositionFrom) → group_in (met_by (power_up_status item.Position c) kept) ≡ group_in kept
still_there cold.NotMoved kept = refl
still_there cold.Unknown Unknown = refl
still_there cold.Unknown (Valid v) = refl
still_there cold.Unknown (Invalid v) = refl
still_there cold.Moved Unknown = refl
still_there cold.Moved (Valid v) = refl
still_there cold.Moved (Invalid v) = refl

group_of_life : (life : Life) → group_in (position_of life) ≡ option_or (group_of_fix (tracks life.entries)) (group_in (position_at_power_up life))
group_of_life life = group_by (group_of_fix (tracks life.entries)) (position_at_power_up life) (place_of (tracks life.entries))

groups_are : (events : List Event) → (let life = life_of events in option_or (group_of_fix (tracks life.entries)) (group_in (position_at_power_up life)) ≡ last_group events)
groups_are [] = refl
groups_are (PowerUp c ∷ events) = still_there c (kept_by events).position ∙ group_of_life (life_of events) ∙ groups_are events
groups_are (Input input ∷ events) =
    let life = life_of events in
    let outcomes = (entry_of life input).track.used.groups in
    fixing_after outcomes (group_of_fix (tracks life.entries)) (group_in (position_at_power_up life)) ∙ ap (latest_fixed outcomes) (groups_are events)

pub position_so : (events : List Event) → group_in (kept_by events).position ≡ last_group events
position_so events = group_of_life (life_of events) ∙ groups_are events
