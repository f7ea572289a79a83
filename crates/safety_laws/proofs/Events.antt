-- One event of a life: what its change of mode is read off.
use Rattle.std.proofs.Common.{◌≡◌, ◌∷◌, Bool, true, false, cond, refl}
use Rattle.std.specs.Prelude.{Option, Some, None, unwrap_or}
use Rattle.events.specs.declared.input.Input.{Input}
use Rattle.mode_table.specs.declared.conditions.Conditions.{Conditions}
use Rattle.mode_table.specs.declared.mode.Mode.{Mode}
use Rattle.mode_table.specs.Rows.{next_mode}
use Rattle.units.specs.Stretches.{Span}
use Rattle.mode_control.specs.Conditions.{conditions}
use Rattle.mode_control.specs.Entry.{SupervisionEntry, initial}
use Rattle.mode_control.specs.History.{mode_of}
use Rattle.mode_control.specs.Life.{Life, grown}
use Rattle.mode_control.specs.Sentences.{changed, deed_of, reported, span_of, the_train_is_seen, entry_of}

-- the mode after an event, by the one before it and the conditions
abbrev pub turned : Mode → Conditions → Mode
turned old c = unwrap_or (changed old (next_mode old c)) old

-- what is so in some modes, where it is so both with no mode that is entered and with one
pub past_turn : (runs : Mode → Bool) (P : Option Mode → Type 0) (same : Bool) (old new : Mode) → runs (unwrap_or (cond same None (Some new)) old) ≡ true →
    (runs old ≡ true → P None) → (runs new ≡ true → P (Some new)) → P (cond same None (Some new))
past_turn runs P true old new h before entering = before h
past_turn runs P false old new h before entering = entering h

module _ (life : Life) (input : Input) where
  abbrev pub event_initial : SupervisionEntry
  event_initial = initial (reported life input) (deed_of life input)

  abbrev pub train : Span
  train = span_of (grown life event_initial)

  abbrev pub event_seen : SupervisionEntry
  event_seen = the_train_is_seen (grown life event_initial) event_initial

  abbrev pub found : Conditions
  found = conditions (grown life event_seen) train

  pub mode_is : mode_of (entry_of life input ∷ life.entries) ≡ turned (mode_of life.entries) found
  mode_is = refl
