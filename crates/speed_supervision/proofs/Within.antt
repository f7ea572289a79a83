-- No limit is above the train's maximum.
use Rattle.std.proofs.Common.{◌≡◌, ℕ, ◌≤◌, Bool, true, false, [], ◌∷◌, min, cond, arith, subst, sym}
use Rattle.std.specs.Prelude.{Option, Some, None}
use Rattle.authority.specs.Authority.{end_of}
use Rattle.authority.specs.declared.answers.End.{End}
use Rattle.braking.specs.declared.target.Target.{Target}
use Rattle.braking.proofs.Greatest.{greatest_within}
use Rattle.driver.specs.declared.datum.Datum.{Datum}
use Rattle.driver.specs.declared.datum.Datum.TheVariants.{Valid}
use Rattle.driver.specs.Limits.{Train}
use Rattle.mode_table.specs.declared.mode.Mode.{Mode}
use Rattle.mode_table.specs.declared.mode.Mode.TheVariants.{FullSupervision, OnSight, StaffResponsible, Unfitted}
use Rattle.mode_table.specs.Modes.{is_one_of}
use Rattle.speed_profile.specs.declared.limit.Bounds.{Bounds}
use Rattle.speed_profile.specs.Limit.{limit_on, bound_speed, least_static, speed_at_end}
use Rattle.speed_profile.specs.Track.{TrackSpeeds}
use Rattle.track_store.specs.Profiles.{lesser}
use Rattle.track_store.specs.Restrictions.{least_speed}
use Rattle.track_store.proofs.Jumps.{least_below, lesser_below}
use Rattle.units.specs.Stretches.{Span}
use Rattle.mode_control.specs.Conditions.{is_overridden}
use Rattle.mode_control.specs.History.{tracks}
use Rattle.mode_control.specs.Life.{Life, driver_of}
use Rattle.track_picture.specs.History.{authorities}
use Rattle.mode_control.specs.Sentences.{values_of, span_of}
use Rattle.speed_supervision.specs.Limit.{within_maximum, maximum_in, restricted, while_overridden, bounds_of, along, supervised_limit, permitted_to, released_by, permitted_for, limit_in}

-- what limits the train where it stands is at most its maximum
on_within : (train : Span) (bounds : Bounds) (track : TrackSpeeds) → limit_on train bounds track ≤ bounds.maximum
on_within train bounds track =
    let bound = bound_speed train.max_front bounds in
    let static = least_static track.static bounds.category train bound in
    let restricted = least_speed track.restrictions train static in
    let by_areas : limit_on train bounds track ≤ restricted = least_below restricted _ in
    let by_restrictions : restricted ≤ static = least_below static _ in
    let by_static : static ≤ bound = least_below bound _ in
    let by_end : bound ≤ lesser bounds.maximum bounds.main = lesser_below (lesser bounds.maximum bounds.main) (speed_at_end train.max_front bounds.end) in
    omega (arith, by_areas, by_restrictions, by_static, by_end, lesser_below bounds.maximum bounds.main)

released_within : (permitted : Option Target → ℕ) (most : ℕ) → ((last : Option Target) → permitted last ≤ most) → (end : Option End) (national : ℕ) →
    released_by permitted end national ≤ most
released_within permitted most within None national = within None
released_within permitted most within (Some end) national =
    omega (arith, within (Some (record { place = end.place; speed = end.speed })), within (Some (record { place = end.location; speed = 0 })))

lowered_within : (active : Bool) (speed other : ℕ) → cond active (min speed other) speed ≤ speed
lowered_within true speed other = omega arith
lowered_within false speed other = omega arith

module _ (life : Life) (train : Train) (valid : (driver_of life).train_data ≡ Valid train) where
  ahead_within : (last : Option Target) → permitted_to life train last ≤ train.maximum
  ahead_within last =
      let there : permitted_to life train last ≤ supervised_limit life train = greatest_within _ (supervised_limit life train) in
      let here : supervised_limit life train ≤ train.maximum = on_within (span_of life) (bounds_of life train) (along life) in
      omega (arith, there, here)

  full_within : permitted_for life (driver_of life).train_data ≤ train.maximum
  full_within = subst (λ (d : Datum Train). permitted_for life d ≤ train.maximum) (sym valid)
      (released_within (permitted_to life train) train.maximum ahead_within (end_of (authorities (tracks life.entries))) (values_of life).release)

  own_within : (speed : ℕ) → maximum_in life speed ≤ train.maximum
  own_within speed = subst (λ (d : Datum Train). within_maximum d speed ≤ train.maximum) (sym valid) (omega arith)

  restricted_within : (speed : ℕ) → restricted life speed ≤ speed
  restricted_within speed = least_below speed _

  pub in_mode : (mode : Mode) → is_one_of (FullSupervision ∷ OnSight ∷ StaffResponsible ∷ Unfitted ∷ []) mode ≡ true → limit_in mode life ≤ train.maximum
  in_mode FullSupervision h = full_within
  in_mode OnSight h = full_within
  in_mode StaffResponsible h =
      let own = maximum_in life (values_of life).staff_responsible in
      omega (arith, restricted_within (while_overridden life own), lowered_within (is_overridden life) own (values_of life).override_speed, own_within (values_of life).staff_responsible)
  in_mode Unfitted h = omega (arith, restricted_within (maximum_in life (values_of life).unfitted), own_within (values_of life).unfitted)
  in_mode other h = absurd (let no : false ≡ true = h in cc)
