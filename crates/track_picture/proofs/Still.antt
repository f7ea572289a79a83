-- A look at the train where nothing may come leaves what is known as it is.
use Rattle.std.proofs.Common.{◌≡◌, ◌∷◌, None, Some, ap, sym, subst, ◌∙◌}
use Rattle.areas.specs.Levels.{unless_reached}
use Rattle.authority.proofs.Untimed.{passed_by}
use Rattle.national.proofs.Waiting.{reached_by}
use Rattle.units.specs.Stretches.{Span}
use Rattle.track_picture.specs.Columns.{TrackReports, reported_in, known_by, after_look}
use Rattle.track_picture.specs.Entry.{TrackEntry}
use Rattle.track_picture.specs.Live.{Happening}
use Rattle.track_picture.specs.Parts.{moment_in}
use Rattle.track_picture.specs.StandsFor.{Knowledge, Life, StandsForLife, grown}
use Rattle.track_picture.specs.Still.{IsStill}
use Rattle.track_picture.specs.Stores.{Stores}
use Rattle.track_picture.proofs.SameParts.{by_columns, by_facts}
use Rattle.track_picture.proofs.Standing.{reported_as}
use Rattle.track_picture.proofs.Description.{up_to_groups, with_mark, reported_marked}

looked_by : (life : Life) (reported : TrackReports) (train : Span) → IsStill (known_by life reported) →
    known_by life reported ≡ known_by life (after_look train reported)
looked_by life reported train still =
    let values = reached_by life.kept train.max_front reported.values still.values in
    let grants = passed_by train reported.grants still.untimed in
    let level = ap (unless_reached train.max_front) still.level ∙ sym still.level in
    (λ i. record (known_by life reported) { national = sym values i; authority = sym grants i; level = sym level i })

module _ {G S : Type 0} {stores : Stores G S} where
  pub looked : {known : Knowledge G S} (life : Life) (event : TrackEntry) (train : Span) →
      StandsForLife stores known (grown life (record event { train = None; entered = None })) → IsStill known.parts →
      StandsForLife stores known (grown life (record event { train = Some train; entered = None }))
  looked life event train s still =
      let entry : TrackEntry = record event { train = None; entered = None } in
      let used = up_to_groups event life.entries in
      let before = reported_as (reported_marked event.mark used) (by_columns (grown life entry) s) in
      let same = looked_by (grown life entry) (with_mark event.mark (reported_in used)) train (subst IsStill before.parts_are still) in
      by_facts (grown life (record event { train = Some train; entered = None }))
      (reported_as (sym (reported_marked event.mark (Happening.Seen (record { moment = moment_in used; train = train }) ∷ used))) (record {
        parts_are = before.parts_are ∙ same;
        restrictions_are = before.restrictions_are;
        gradients_are = before.gradients_are;
        speeds_are = before.speeds_are;
      }))
