-- An event has a cause of a trip exactly where it enters Trip.
use Rattle.std.proofs.Common.{◌≡◌, Bool, true, false, not, ◌&&◌, cond, refl, sym, ◌∙◌}
use Rattle.std.specs.Prelude.{is_some, None, Some, unwrap_or}
use Rattle.units.specs.Stretches.{Span}
use Rattle.events.specs.declared.input.Event.TheVariants.{PowerUp, Input}
use Rattle.mode_table.specs.declared.mode.Mode.{Mode}
use Rattle.mode_table.specs.declared.mode.Mode.TheVariants.{FullSupervision, Trip}
use Rattle.mode_table.specs.Modes.{is_mode}
use Rattle.mode_table.specs.Rows.{next_mode}
use Rattle.mode_control.specs.Conditions.{conditions}
use Rattle.mode_control.specs.History.{mode_of}
use Rattle.mode_control.specs.Life.{Life, grown}
use Rattle.mode_control.specs.Sentences.{train_in}
use Rattle.mode_control.specs.Tripping.{row_where, seen_by}
use Rattle.kernel.specs.Lives.{life_of}
use Rattle.kernel.specs.Trips.{TripsHaveCauses}

not_both : (b : Bool) → (b && not b) ≡ false
not_both true = refl
not_both false = refl

module _ (life : Life) (train : Span) where
  abbrev IsReported : Mode → Mode → Bool → Type 0
  IsReported old new same =
      is_some (row_where (cond same None (Some new)) life train) ≡ (is_mode Trip (unwrap_or (cond same None (Some new)) old) && not (is_mode Trip old))

  to_another : (old new : Mode) (same : Bool) → is_some (row_where (Some new) life train) ≡ false → is_mode Trip new ≡ false → IsReported old new same
  to_another old new true unreported other = sym (not_both (is_mode Trip old))
  to_another old new false unreported other = unreported ∙ (λ i. sym other i && not (is_mode Trip old))

  to_trip : (old : Mode) → IsReported old Trip (is_mode old Trip)
  to_trip FullSupervision = refl
  to_trip other = refl

  reported_by : (old new : Mode) → IsReported old new (is_mode old new)
  reported_by old Trip = to_trip old
  reported_by old other = to_another old other (is_mode old other) refl refl

pub trips_reported : TripsHaveCauses
trips_reported (PowerUp cold) events = refl
trips_reported (Input input) events =
    let life = life_of events in
    let now = grown life (seen_by life input) in
    let train = train_in now (seen_by life input) in
    let old = mode_of life.entries in
    reported_by now train old (next_mode old (conditions now train))
