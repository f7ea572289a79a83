-- From a mode from which no row of the mode table leads to Trip, no input enters Trip.
use Rattle.std.proofs.Common.{◌≡◌, Bool, true, false, ◌&&◌, ◌||◌, cond, refl, Some, None, List, [], ◌∷◌}
use Rattle.std.specs.List.{list_any}
use Rattle.events.specs.declared.input.Input.{Input}
use Rattle.mode_table.specs.declared.conditions.Conditions.{Conditions}
use Rattle.mode_table.specs.declared.mode.Mode.{Mode}
use Rattle.mode_table.specs.declared.mode.Mode.TheVariants.{FullSupervision, Trip}
use Rattle.mode_table.specs.Modes.{is_mode, is_one_of}
use Rattle.mode_table.specs.Rows.{Row, rows, led_by}
use Rattle.units.specs.Stretches.{Span}
use Rattle.mode_control.specs.Conditions.{conditions}
use Rattle.mode_control.specs.History.{mode_of}
use Rattle.mode_control.specs.Life.{Life, grown}
use Rattle.mode_control.specs.Sentences.{changed, train_in}
use Rattle.mode_control.specs.Tripping.{leads_to_trip, row_where, seen_by, trip_by}

module _ (life : Life) (train : Span) where
  abbrev IsUnreported : Mode → Mode → Type 0
  IsUnreported old new = row_where (changed old new) life train ≡ None

  unchanged : (mode : Mode) → IsUnreported mode mode
  unchanged FullSupervision = refl
  unchanged other = refl

  to_another : (new : Mode) (same : Bool) → is_mode Trip new ≡ false → row_where (cond same None (Some new)) life train ≡ None
  to_another new true other = refl
  to_another Trip false other = cc
  to_another new false other = refl

  by_row : (old target later : Mode) (starts holds leads rest : Bool) → is_mode Trip target ≡ leads → ((starts && leads) || rest) ≡ false
      → (rest ≡ false → IsUnreported old later) → IsUnreported old (cond (starts && holds) target later)
  by_row old target later true holds true rest is none later_is = cc
  by_row old target later true true false rest is none later_is = to_another target (is_mode old target) is
  by_row old target later true false false rest is none later_is = later_is none
  by_row old target later false holds leads rest is none later_is = later_is none

  unreported_by : (rows : List Row) (old : Mode) (c : Conditions) → list_any (λ row. is_one_of row.sources old && is_mode Trip row.target) rows ≡ false
      → IsUnreported old (led_by rows old c)
  unreported_by [] old c none = unchanged old
  unreported_by (row ∷ rows) old c none =
      by_row old row.target (led_by rows old c) (is_one_of row.sources old) (row.holds c) (is_mode Trip row.target)
      (list_any (λ (r : Row). is_one_of r.sources old && is_mode Trip r.target) rows) refl none (unreported_by rows old c)

pub untripped : (life : Life) (input : Input) → leads_to_trip (mode_of life.entries) ≡ false → trip_by life input ≡ None
untripped life input none =
    let now = grown life (seen_by life input) in
    let train = train_in now (seen_by life input) in
    unreported_by now train rows (mode_of life.entries) (conditions now train) none
