-- A life that a power-up begins is known by what the power-up leaves of what was kept.
use Rattle.std.proofs.Common.{◌≡◌, refl, ap, sym, ◌∙◌, subst}
use Rattle.driver.specs.declared.datum.Datum.{Datum}
use Rattle.driver.specs.declared.datum.Datum.TheVariants.{Unknown, Valid, Invalid}
use Rattle.events.specs.declared.kept.Kept.{Kept}
use Rattle.events.specs.Kept.{PositionFrom}
use Rattle.mode_table.specs.declared.level.TrainLevel.{TrainLevel}
use Rattle.mode_table.specs.declared.statuses.Cold.{Cold}
use Rattle.mode_table.specs.declared.statuses.Cold.TheVariants as cold
use Rattle.mode_control.specs.History.{tracks}
use Rattle.mode_control.specs.Life.{length_by}
use Rattle.mode_control.specs.Sentences.{initial_life, span_of}
use Rattle.mode_control.specs.StandsFor.{KnownModes, StandsForLife as SupervisionStandsForLife, parts_of as supervision_parts_of}
use Rattle.track_picture.specs.Sentences.{span_with}
use Rattle.track_picture.specs.Stores.{Stores}
use Rattle.kernel.specs.Lives.{left_by}
use Rattle.kernel.specs.Output.{output_of}
use Rattle.kernel.specs.StandsFor.{Knowledge, StandsForLife, parts_of}
use Rattle.kernel.proofs.Still.{still_in}

abbrev with_items : Kept → Datum TrainLevel → Datum PositionFrom → Kept
with_items kept level position = record kept { level = level; position = position }

-- what is known of both lives, and what is answered, is the same
abbrev Same : Cold → Kept → Type 0
Same recorded_cold kept =
    (parts_of (initial_life kept recorded_cold) ≡ parts_of (initial_life (left_by recorded_cold kept) recorded_cold))
    × (supervision_parts_of (initial_life kept recorded_cold) ≡ supervision_parts_of (initial_life (left_by recorded_cold kept) recorded_cold))
    × (output_of (initial_life kept recorded_cold) ≡ output_of (initial_life (left_by recorded_cold kept) recorded_cold))

same_items : (recorded_cold : Cold) (kept : Kept) (level : Datum TrainLevel) (position : Datum PositionFrom) → Same recorded_cold (with_items kept level position)
same_items cold.NotMoved kept level position = (refl, refl, refl)
same_items cold.Unknown kept Unknown Unknown = (refl, refl, refl)
same_items cold.Unknown kept Unknown (Valid p) = (refl, refl, refl)
same_items cold.Unknown kept Unknown (Invalid p) = (refl, refl, refl)
same_items cold.Unknown kept (Valid l) Unknown = (refl, refl, refl)
same_items cold.Unknown kept (Valid l) (Valid p) = (refl, refl, refl)
same_items cold.Unknown kept (Valid l) (Invalid p) = (refl, refl, refl)
same_items cold.Unknown kept (Invalid l) Unknown = (refl, refl, refl)
same_items cold.Unknown kept (Invalid l) (Valid p) = (refl, refl, refl)
same_items cold.Unknown kept (Invalid l) (Invalid p) = (refl, refl, refl)
same_items cold.Moved kept Unknown Unknown = (refl, refl, refl)
same_items cold.Moved kept Unknown (Valid p) = (refl, refl, refl)
same_items cold.Moved kept Unknown (Invalid p) = (refl, refl, refl)
same_items cold.Moved kept (Valid l) Unknown = (refl, refl, refl)
same_items cold.Moved kept (Valid l) (Valid p) = (refl, refl, refl)
same_items cold.Moved kept (Valid l) (Invalid p) = (refl, refl, refl)
same_items cold.Moved kept (Invalid l) Unknown = (refl, refl, refl)
same_items cold.Moved kept (Invalid l) (Valid p) = (refl, refl, refl)
same_items cold.Moved kept (Invalid l) (Invalid p) = (refl, refl, refl)

same : (recorded_cold : Cold) (kept : Kept) → Same recorded_cold kept
same recorded_cold kept = same_items recorded_cold kept kept.level kept.position

-- the train is at the same place in both
places : (recorded_cold : Cold) (kept : Kept) → span_of (initial_life kept recorded_cold) ≡ span_of (initial_life (left_by recorded_cold kept) recorded_cold)
places recorded_cold kept =
    ap (λ (k : KnownModes). span_with (length_by k.driver.train_data) (tracks (initial_life kept recorded_cold).entries)) (same recorded_cold kept).1

module _ {G S : Type 0} {stores : Stores G S} {known : Knowledge G S} where
  to_left : (recorded_cold : Cold) (kept : Kept) → StandsForLife stores known (initial_life kept recorded_cold) →
      StandsForLife stores known (initial_life (left_by recorded_cold kept) recorded_cold)
  to_left recorded_cold kept s =
      let is = same recorded_cold kept in
      let supervision : SupervisionStandsForLife stores known.supervision (initial_life (left_by recorded_cold kept) recorded_cold) =
      record { parts_are = s.supervision_is.parts_are ∙ is.1; track_is = s.supervision_is.track_is } in
      record {
        parts_are = s.parts_are ∙ is.0;
        supervision_is = supervision;
        carried_is = s.carried_is;
        still_is = still_in s.supervision_is supervision (places recorded_cold kept) known.carried.still known.carried.steady s.still_is;
      }

  from_left : (recorded_cold : Cold) (kept : Kept) → StandsForLife stores known (initial_life (left_by recorded_cold kept) recorded_cold) →
      StandsForLife stores known (initial_life kept recorded_cold)
  from_left recorded_cold kept s =
      let is = same recorded_cold kept in
      let supervision : SupervisionStandsForLife stores known.supervision (initial_life kept recorded_cold) =
      record { parts_are = s.supervision_is.parts_are ∙ sym is.1; track_is = s.supervision_is.track_is } in
      record {
        parts_are = s.parts_are ∙ sym is.0;
        supervision_is = supervision;
        carried_is = s.carried_is;
        still_is = still_in s.supervision_is supervision (sym (places recorded_cold kept)) known.carried.still known.carried.steady s.still_is;
      }

  -- where the same is left of both, what stands for the one life stands for the other
  pub left_alike : (recorded_cold : Cold) (one other : Kept) → left_by recorded_cold one ≡ left_by recorded_cold other →
      StandsForLife stores known (initial_life one recorded_cold) → StandsForLife stores known (initial_life other recorded_cold)
  left_alike recorded_cold one other alike s =
      from_left recorded_cold other (subst (λ (k : Kept). StandsForLife stores known (initial_life k recorded_cold)) alike (to_left recorded_cold one s))

pub answered_alike : (recorded_cold : Cold) (one other : Kept) → left_by recorded_cold one ≡ left_by recorded_cold other → output_of (initial_life one recorded_cold) ≡ output_of (initial_life other recorded_cold)
answered_alike recorded_cold one other alike =
    (same recorded_cold one).2 ∙ ap (λ (k : Kept). output_of (initial_life k recorded_cold)) alike ∙ sym (same recorded_cold other).2
