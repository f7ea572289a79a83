use Rattle.std.proofs.Common.{◌≡◌, ℕ, ◌+◌, ◌≤◌, ◌<◌, Bool, true, false, List, cond, refl, ap, sym, ◌∙◌, inl, inr, ◌⊎◌, arith}
use Rattle.std.specs.Prelude.{◌&&◌, ◌||◌, nat_lt}
use Rattle.std.specs.List.{list_any}
use Rattle.std.proofs.lemmas.Bool.{both_ways, cases_lt, false_from_ne_true, leb-false, ltb-false, or_parts, not-false}
use Rattle.std.proofs.lemmas.Bool.Decides.{nat_tests}
use Rattle.areas.specs.Acknowledging.{brakes}
use Rattle.areas.specs.declared.acknowledgement.Acknowledgement.{Acknowledgement}
use Rattle.areas.specs.declared.acknowledgement.Acknowledgement.TheVariants.{Owed}
use Rattle.authority.specs.Laws.{IsAmong}
use Rattle.driver.proofs.Revalidated.{revalidated}
use Rattle.driver.specs.Data.{is_valid}
use Rattle.driver.specs.Revalidating.{revalidation_of, is_whole}
use Rattle.events.specs.declared.output.Brake.{Brake}
use Rattle.events.specs.declared.output.Brake.TheVariants as brake
use Rattle.mode_table.specs.declared.mode.Mode.TheVariants.{StandBy, Trip, PostTrip, SystemFailure}
use Rattle.mode_table.specs.Modes.{is_mode}
use Rattle.track_picture.specs.History.{speed_of, moment_of}
use Rattle.mode_control.specs.declared.calls.Kind.TheVariants as kinds
use Rattle.mode_control.specs.History.{tracks, deeds, on_sight_of, shunting_of, level_0_of}
use Rattle.mode_control.specs.Life.{Life, left_at_power_up}
use Rattle.mode_control.specs.Sentences.{values_of}
use Rattle.speed_supervision.specs.Limit.{limit}
use Rattle.kernel.specs.Brake.{train_stood, was_within_limit, is_above_limit_by, service_brake_requested, rolled_backward, has_started, is_in, is_not_revalidated, owes_trip, has_rolled_too_far, must_stand, owes_too_long}
use Rattle.kernel.specs.Lives.{life_of}
use Rattle.kernel.proofs.Items.{trip_so}
use Rattle.safety_laws.specs.Brakes.{since_standstill, speed_at}
use Rattle.safety_laws.proofs.Commanding.{any_of, starting_now}
use Rattle.safety_laws.proofs.unbraked.no_brake_only_where.Goals as goal

-- ---- no row holds

not_emergency : (holds : Bool) (later : Brake) → cond holds brake.Emergency later ≡ brake.None → (holds ≡ false) × (later ≡ brake.None)
not_emergency true later h = absurd (let no : brake.Emergency ≡ brake.None = h in cc)
not_emergency false later h = (refl, h)

not_service : (holds : Bool) (later : Brake) → cond holds brake.Service later ≡ brake.None → (holds ≡ false) × (later ≡ brake.None)
not_service true later h = absurd (let no : brake.Service ≡ brake.None = h in cc)
not_service false later h = (refl, h)

-- ---- what each row says where it doesn't hold

none_of : {A : Type 0} (test : A → Bool) (xs : List A) → list_any test xs ≡ false → (x : A) → IsAmong x xs → test x ≡ false
none_of test xs none x there = false_from_ne_true (test x) (λ is. both_ways (list_any test xs) none (any_of test xs x there is))

still : (a b : Bool) (speed : ℕ) → ((a || b) && nat_lt 0 speed) ≡ false → (a ≡ true) ⊎ (b ≡ true) → speed ≡ 0
still a b speed none either = grind (arith, nat_tests)

slow_now : (life : Life) → has_started (is_above_limit_by 5_000) was_within_limit life ≡ false → speed_of (tracks life.entries) ≤ limit life + 5_000
slow_now life none =
    elim (cases_lt (limit life + 5_000) (speed_of (tracks life.entries))) [
      | inl fast ↦ absurd (both_ways (has_started (is_above_limit_by 5_000) was_within_limit life) none (starting_now 5_000 was_within_limit life life.entries fast))
      | inr slow ↦ slow
    ]

owed_not_long : (now from : ℕ) (state : Acknowledgement) → brakes now state ≡ false → state ≡ Owed from → now < from + 5_000
owed_not_long now from state h is = leb-false (from + 5_000) now (sym (ap (brakes now) is) ∙ h)

pub returns : goal.returns
returns c events none =
    let life = life_of events in
    let r1 = not_emergency (is_not_revalidated life) _ none in
    let r2 = not_emergency (is_in Trip life) _ r1.1 in
    let r3 = not_emergency (is_in SystemFailure life) _ r2.1 in
    let r4 = not_emergency (owes_trip life) _ r3.1 in
    let r5 = not_emergency (has_started (is_above_limit_by 10_000) train_stood life) _ r4.1 in
    let r6 = not_emergency (has_rolled_too_far life) _ r5.1 in
    let r7 = not_service (has_started service_brake_requested train_stood life) _ r6.1 in
    let r8 = not_service (has_started (is_above_limit_by 5_000) was_within_limit life) _ r7.1 in
    let r9 = not_service (must_stand life) _ r8.1 in
    let r10 = not_service (owes_too_long life) _ r9.1 in
    let now = moment_of (tracks life.entries) in
    let s = or_parts (brakes now (on_sight_of life.entries) || brakes now (shunting_of life.entries)) (brakes now (level_0_of life.entries)) r10.0 in
    let t = or_parts (brakes now (on_sight_of life.entries)) (brakes now (shunting_of life.entries)) s.0 in
    let level_valid = is_valid (left_at_power_up life).level in
    record {
      is_revalidated = (revalidated level_valid (deeds life.entries)).0 (not-false (is_whole (revalidation_of level_valid (deeds life.entries))) r1.0);
      not_in_trip = λ is. both_ways (is_in Trip life) r2.0 (ap (is_mode Trip) is);
      not_in_failure = λ is. both_ways (is_in SystemFailure life) r3.0 (ap (is_mode SystemFailure) is);
      owes_no_trip = λ tripped. both_ways (owes_trip life) r4.0 ((trip_so events).1 tripped);
      is_slow = slow_now life r8.0;
      was_slow = λ snapshot there. ltb-false (limit snapshot.life + 10_000) (speed_at snapshot) (none_of (is_above_limit_by 10_000) (since_standstill life) r5.0 snapshot there);
      stands = λ either. still (is_in StandBy life) (is_in PostTrip life) (speed_of (tracks life.entries)) r9.0
          (elim either [ inl is ↦ inl (ap (is_mode StandBy) is) | inr is ↦ inr (ap (is_mode PostTrip) is) ]);
      rolled_little = ltb-false (values_of life).roll (rolled_backward life) r6.0;
      owes_not_long = elim [
        | kinds.OnSight ↦ λ from is. owed_not_long now from (on_sight_of life.entries) t.0 is
        | kinds.Shunting ↦ λ from is. owed_not_long now from (shunting_of life.entries) t.1 is
        | kinds.Level0 ↦ λ from is. owed_not_long now from (level_0_of life.entries) s.1 is
      ];
      requested_nothing = λ snapshot there. none_of service_brake_requested (since_standstill life) r7.0 snapshot there;
    }
