use Rattle.std.proofs.Common.{◌≡◌, ℕ, ◌≤◌, Bool, true, false, cond, sym, subst, arith}
use Rattle.std.specs.Prelude.{min}
use Rattle.driver.specs.declared.datum.Datum.{Datum}
use Rattle.driver.specs.declared.datum.Datum.TheVariants.{Unknown, Valid, Invalid}
use Rattle.driver.specs.Limits.{Train}
use Rattle.mode_table.specs.declared.mode.Mode.{Mode}
use Rattle.mode_table.specs.declared.mode.Mode.TheVariants.{StaffResponsible, Shunting, Unfitted}
use Rattle.mode_control.specs.Conditions.{is_overridden}
use Rattle.mode_control.specs.History.{mode_of, tracks}
use Rattle.mode_control.specs.Life.{Life, driver_of}
use Rattle.mode_control.specs.Sentences.{values_of, span_of}
use Rattle.speed_supervision.specs.Limit.{limit, limit_in, within_maximum, maximum_in, while_overridden, restricted, responsible_limit, unfitted_limit}
use Rattle.track_picture.specs.History.{restrictions_of}
use Rattle.track_store.specs.Restrictions.{speeds_at}
use Rattle.track_store.proofs.Jumps.{least_below}
use Rattle.units.specs.Stretches.{over}
use Rattle.kernel.specs.Lives.{life_of}
use Rattle.safety_laws.proofs.intervening.national_speeds_are_kept.Goals as goal

at_most : (train : Datum Train) (speed : ℕ) → within_maximum train speed ≤ speed
at_most Unknown speed = omega arith
at_most (Valid train) speed = omega arith
at_most (Invalid train) speed = omega arith

less_of : (overridden : Bool) (other speed : ℕ) → cond overridden (min speed other) speed ≤ speed
less_of true other speed = omega arith
less_of false other speed = omega arith

of_override : (overridden : Bool) (other speed : ℕ) → overridden ≡ true → cond overridden (min speed other) speed ≤ other
of_override true other speed h = omega arith
of_override false other speed h = absurd (let no : false ≡ true = h in cc)

module _ (life : Life) where
  is_restricted : (speed : ℕ) → restricted life speed ≤ speed
  is_restricted speed =
      let train = span_of life in least_below speed (over (speeds_at (restrictions_of (tracks life.entries)) train) train.rear train.max_front)

  by_staff : responsible_limit life ≤ (values_of life).staff_responsible
  by_staff =
      let most = (values_of life).staff_responsible in
      let own = at_most (driver_of life).train_data most in
      let over = less_of (is_overridden life) (values_of life).override_speed (maximum_in life most) in
      let all = is_restricted (while_overridden life (maximum_in life most)) in omega (arith, own, over, all)

  by_override : is_overridden life ≡ true → responsible_limit life ≤ (values_of life).override_speed
  by_override so =
      let most = (values_of life).staff_responsible in
      let over = of_override (is_overridden life) (values_of life).override_speed (maximum_in life most) so in
      let all = is_restricted (while_overridden life (maximum_in life most)) in omega (arith, over, all)

  by_unfitted : unfitted_limit life ≤ (values_of life).unfitted
  by_unfitted =
      let most = (values_of life).unfitted in
      let own = at_most (driver_of life).train_data most in
      let all = is_restricted (maximum_in life most) in omega (arith, own, all)

  in_mode : (mode : Mode) (most : ℕ) → mode_of life.entries ≡ mode → limit_in mode life ≤ most → limit life ≤ most
  in_mode mode most is h = subst (λ (m : Mode). limit_in m life ≤ most) (sym is) h

pub returns : goal.returns
returns c events =
    let life = life_of events in
    record {
      staff_responsible = λ is. in_mode life StaffResponsible (values_of life).staff_responsible is (by_staff life);
      overridden = λ is so. in_mode life StaffResponsible (values_of life).override_speed is (by_override life so);
      unfitted = λ is. in_mode life Unfitted (values_of life).unfitted is (by_unfitted life);
      shunting = λ is. in_mode life Shunting (values_of life).shunting is (omega arith);
    }
