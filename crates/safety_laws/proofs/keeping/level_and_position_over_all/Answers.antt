use Rattle.std.proofs.Common.{◌≡◌, List, [], ◌∷◌, refl, ap, ◌∙◌}
use Rattle.driver.specs.declared.datum.Datum.{Datum}
use Rattle.driver.specs.Data.{met_by}
use Rattle.driver.specs.Description.{datum_after, level_reported}
use Rattle.events.specs.declared.input.Event.{Event}
use Rattle.events.specs.declared.input.Event.TheVariants.{PowerUp, Input}
use Rattle.events.specs.Kept.{PositionFrom}
use Rattle.mode_table.specs.declared.level.TrainLevel.{TrainLevel}
use Rattle.mode_table.specs.declared.statuses.Item.TheVariants as item
use Rattle.mode_table.specs.Statuses.{power_up_status}
use Rattle.mode_control.specs.History.{deeds}
use Rattle.mode_control.specs.Life.{left_at_power_up}
use Rattle.mode_control.specs.Sentences.{entry_of}
use Rattle.kernel.specs.Lives.{life_of, kept_by}
use Rattle.kernel.specs.Position.{position_at_power_up}
use Rattle.kernel.proofs.Items.{one_entry, in_turn}
use Rattle.safety_laws.specs.Keeping.{level_over, position_from, position_left}
use Rattle.safety_laws.proofs.keeping.level_and_position_over_all.Goals as goal

-- ---- the level

level_is : (events : List Event) → (kept_by events).level ≡ level_over events
level_is [] = refl
level_is (PowerUp cold ∷ events) = ap (met_by (power_up_status item.Level cold)) (level_is events)
level_is (Input input ∷ events) =
    let life = life_of events in
    let kept : Datum TrainLevel = (left_at_power_up life).level in
    let now = deeds (entry_of life input ∷ []) in
    ap (datum_after level_reported kept) (one_entry (entry_of life input) life.entries)
    ∙ in_turn level_reported kept now (deeds life.entries)
    ∙ ap (λ (before : Datum TrainLevel). datum_after level_reported before now) (level_is events)

-- ---- the position

by_left : (events : List Event) (one other : Datum PositionFrom) → one ≡ other → position_from one events ≡ position_from other events
by_left events one other is = ap (λ (left : Datum PositionFrom). position_from left events) is

left_is : (events : List Event) → position_at_power_up (life_of events) ≡ position_left events
left_is [] = refl
left_is (PowerUp cold ∷ events) =
    ap (met_by (power_up_status item.Position cold)) (by_left events (position_at_power_up (life_of events)) (position_left events) (left_is events))
left_is (Input input ∷ events) = left_is events

pub returns-clause-level : goal.returns-clause-level
returns-clause-level c = level_is

pub returns-clause-position : goal.returns-clause-position
returns-clause-position c events = by_left events (position_at_power_up (life_of events)) (position_left events) (left_is events)
