use Rattle.std.proofs.Common.{◌≡◌, ◌≤ℤ◌, ℤ, ◌∷◌, None, ap, sym, subst, ◌∙◌, arith}
use Rattle.std.proofs.lemmas.Int.{ints}
use Rattle.std.specs.Int.{int_max}
use Rattle.track_store.specs.Facts.{profile_of}
use Rattle.track_store.specs.Profiles.{profile_with}
use Rattle.track_store.specs.Restrictions.{InForce}
use Rattle.track_store.proofs.Description.{marked_at}
use Rattle.track_picture.specs.Entry.{TrackEntry}
use Rattle.track_picture.specs.Happenings.{happenings}
use Rattle.track_picture.specs.Columns.{description_of}
use Rattle.track_picture.proofs.Marking.{one_mark, kept_mark}
use Rattle.track_picture.proofs.Standing.{seen_columns as seen, gradients_as, speeds_as}
use Rattle.track_picture.proofs.state.TracksideOver.forget_before.Goals as goal

pub returns-then-moves-clause-stands : goal.returns-then-moves-clause-stands
returns-then-moves-clause-stands g c life event s =
    let are = g.met.T.ProfileStores.stores_are in
    let entry : TrackEntry = record event { mark = None } in
    let all = entry ∷ life.entries in
    let before = seen c.self.view_is s in
    let gradients_before = sym (gradients_as are _ ∙ g.met.T.Gradients.ProfileStore.profile_is c.self.inside.gradients) ∙ before.gradients_are in
    let speeds_before = sym (speeds_as are _ ∙ g.met.T.Speeds.ProfileStore.profile_is c.self.inside.speeds) ∙ before.speeds_are in
    record {
      parts_are = before.parts_are;
      restrictions_are = c.drop_behind.ensures.track (description_of all).restrictions before.restrictions_are;
      gradients_are = gradients_as are _ ∙ g.met.T.Gradients.ProfileStore.profile_is _
          ∙ marked_at (profile_with g.T.Gradients.Profile.value c.self.inside.gradients) (profile_with g.T.Gradients.Profile.value c.drop_behind-then-moves.new.self)
          (record { mark = (description_of all).mark; facts = (description_of all).gradients }) gradients_before c.args.mark c.drop_behind-then-moves.ensures.value;
      speeds_are = speeds_as are _ ∙ g.met.T.Speeds.ProfileStore.profile_is _
          ∙ marked_at (profile_with g.T.Speeds.Profile.value c.self.inside.speeds) (profile_with g.T.Speeds.Profile.value c.drop_behind-then-moves-2.new.self)
          (record { mark = (description_of all).mark; facts = (description_of all).speeds }) speeds_before c.args.mark c.drop_behind-then-moves-2.ensures.value;
    }

-- the mark stays
pub returns-else-moves-clause-stands : goal.returns-else-moves-clause-stands
returns-else-moves-clause-stands g c life event s =
    let entry : TrackEntry = record event { mark = None } in
    let all = entry ∷ life.entries in
    let before = seen c.self.view_is s in
    let following : c.args.mark ≤ℤ c.self.inside.restrictions.track.mark = grind (arith, ints) in
    let own = ap (λ (t : InForce). t.mark) before.restrictions_are ∙ one_mark (happenings all) in
    let stays : int_max c.args.mark (description_of all).mark ≡ (description_of all).mark = kept_mark c.args.mark _ (subst (λ (z : ℤ). c.args.mark ≤ℤ z) own following) in
    record {
      parts_are = before.parts_are;
      restrictions_are = c.drop_behind.ensures.track (description_of all).restrictions before.restrictions_are;
      gradients_are = before.gradients_are ∙ ap (λ (mark : ℤ). profile_of (record { mark = mark; facts = (description_of all).gradients })) (sym stays);
      speeds_are = before.speeds_are ∙ ap (λ (mark : ℤ). profile_of (record { mark = mark; facts = (description_of all).speeds })) (sym stays);
    }
