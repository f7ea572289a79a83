-- The first row that holds commands what the causes of all rows that hold command.
use Rattle.std.proofs.Common.{◌≡◌, Bool, true, false, ◌||◌, cond, refl, ap, sym, List, [], ◌∷◌}
use Rattle.std.specs.Prelude.{◌↔◌, IsTrue}
use Rattle.std.specs.List.{list_any}
use Rattle.kernel.specs.declared.causes.BrakeCause.{BrakeCause}
use Rattle.kernel.specs.declared.causes.BrakeCause.TheVariants as cause
use Rattle.events.specs.declared.output.Brake.{Brake}
use Rattle.events.specs.declared.output.Brake.TheVariants as brake
use Rattle.mode_control.specs.Life.{Life}
use Rattle.mode_table.specs.declared.mode.Mode.TheVariants.{Trip, SystemFailure}
use Rattle.kernel.specs.Brake.{is_not_revalidated, is_in, owes_trip, has_started, is_above_limit_by, train_stood, has_rolled_too_far, service_brake_requested, was_within_limit, must_stand, owes_too_long, where_so, brake_of, causes_of}
use Rattle.kernel.specs.Causes.{command_of, is_emergency, is_service}

-- ---- what is commanded where a cause for the emergency brake is there, or else one for the service brake

abbrev pub for_emergency : List BrakeCause → Bool
for_emergency causes = list_any (λ why. is_emergency (command_of why)) causes

abbrev pub for_service : List BrakeCause → Bool
for_service causes = list_any (λ why. is_service (command_of why)) causes

abbrev commanded : Bool → Bool → Brake
commanded emergency service = cond emergency brake.Emergency (cond service brake.Service brake.None)

abbrev pub by_causes : List BrakeCause → Brake
by_causes causes = commanded (for_emergency causes) (for_service causes)

-- ---- a row more at the top: of the emergency brake, or of the service brake over such rows alone

emergency_row : (holds : Bool) (why : BrakeCause) (causes : List BrakeCause) (later : Brake) → command_of why ≡ brake.Emergency →
    later ≡ by_causes causes → cond holds brake.Emergency later ≡ by_causes (where_so holds why causes)
emergency_row true why causes later is reported =
    sym (λ i. commanded (is_emergency (is i) || for_emergency causes) (is_service (is i) || for_service causes))
emergency_row false why causes later is reported = reported

service_row : (holds : Bool) (why : BrakeCause) (causes : List BrakeCause) (later : Brake) → command_of why ≡ brake.Service →
    (later ≡ by_causes causes) × (for_emergency causes ≡ false) →
    (cond holds brake.Service later ≡ by_causes (where_so holds why causes)) × (for_emergency (where_so holds why causes) ≡ false)
service_row true why causes later is reported = (
  sym (λ i. commanded (is_emergency (is i) || reported.1 i) (is_service (is i) || for_service causes)),
  (λ i. is_emergency (is i) || reported.1 i),
)
service_row false why causes later is reported = reported

pub commands : (life : Life) → brake_of life ≡ by_causes (causes_of life)
commands life =
    let services =
    service_row (has_started service_brake_requested train_stood life) cause.ServiceBrakeRequested _ _ refl
    (service_row (has_started (is_above_limit_by 5_000) was_within_limit life) cause.TooFast _ _ refl
    (service_row (must_stand life) cause.MustStand _ _ refl
    (service_row (owes_too_long life) cause.OwesTooLong [] brake.None refl (refl, refl)))) in
    emergency_row (is_not_revalidated life) cause.NotRevalidated _ _ refl
    (emergency_row (is_in Trip life) cause.InTrip _ _ refl
    (emergency_row (is_in SystemFailure life) cause.InSystemFailure _ _ refl
    (emergency_row (owes_trip life) cause.OwesTrip _ _ refl
    (emergency_row (has_started (is_above_limit_by 10_000) train_stood life) cause.FarTooFast _ _ refl
    (emergency_row (has_rolled_too_far life) cause.RolledTooFar _ _ refl services.0)))))

-- ---- what a commanded brake says of its causes

pub emergency_so : (emergency service : Bool) → (commanded emergency service ≡ brake.Emergency) ↔ IsTrue emergency
emergency_so true service = ((λ h. refl), (λ h. refl))
emergency_so false true = ((λ h. absurd cc), (λ h. absurd cc))
emergency_so false false = ((λ h. absurd cc), (λ h. absurd cc))

pub service_so : (emergency service : Bool) → (commanded emergency service ≡ brake.Service) ↔ (IsTrue service × (IsTrue emergency → ⊥))
service_so true service = ((λ h. absurd cc), (λ h. absurd (h.1 refl)))
service_so false true = ((λ h. (refl, (λ e. cc))), (λ h. refl))
service_so false false = ((λ h. absurd cc), (λ h. let no = h.0 in absurd cc))

none_so : (emergency service : Bool) → commanded emergency service ≡ brake.None → (emergency ≡ false) × (service ≡ false)
none_so true service h = absurd cc
none_so false true h = absurd cc
none_so false false h = (refl, refl)

-- a list without a cause for either is empty
each : (why : BrakeCause) → is_emergency (command_of why) ≡ false → is_service (command_of why) ≡ false → ⊥
each cause.NotRevalidated e s = cc
each other e s = cc

neither : (one other : Bool) → (one || other) ≡ false → one ≡ false
neither true other h = h
neither false other h = refl

empty : (causes : List BrakeCause) → for_emergency causes ≡ false → for_service causes ≡ false → causes ≡ []
empty [] e s = refl
empty (why ∷ later) e s = absurd (each why (neither _ _ e) (neither _ _ s))

pub none_commanded : (causes : List BrakeCause) → (by_causes causes ≡ brake.None) ↔ (causes ≡ [])
none_commanded causes = (
  (λ h. let none_left = none_so (for_emergency causes) (for_service causes) h in empty causes none_left.0 none_left.1),
  (λ h. ap by_causes h),
)
