-- What an event brings about before its groups are used leaves the restrictions, the forgetting mark and the profiles as
-- they were: a moment and the groups that were missed alone are reported the parts.
use Rattle.std.proofs.Common.{◌≡◌, ℕ, ℤ, List, [], ◌∷◌, Option, None, Some, refl, sym, ap, ◌∙◌}
use Rattle.authority.specs.Entries.{AuthorityEntry}
use Rattle.events.specs.declared.input.Reading.{Reading}
use Rattle.linking.specs.Linking.{LinkEntry}
use Rattle.speed_profile.specs.declared.reported.CategorySpeeds.{CategorySpeeds}
use Rattle.track_store.specs.Facts.{MarkedFacts, profile_of}
use Rattle.track_store.specs.Restrictions.{in_force}
use Rattle.track_picture.specs.declared.happened.Happened.{Happened}
use Rattle.track_picture.specs.Columns.{TrackReports, StandsForColumns, columns_of, reported_in}
use Rattle.track_picture.specs.Entry.{InputEffect}
use Rattle.track_picture.specs.Happenings.{and_missed, and_moved, and_ticked, happenings}
use Rattle.track_picture.specs.Live.{Happening}
use Rattle.track_picture.specs.StandsFor.{KnownTrack, Knowledge, Life, grown_so_far}
use Rattle.track_picture.specs.Stores.{Stores}
use Rattle.track_picture.proofs.Description.{reported_missed}

module _ {A : Type 0} (f : TrackReports → A) (by_links : (reported : TrackReports) (links : List LinkEntry) → f (record reported { links = links }) ≡ f reported)
    (by_grants : (reported : TrackReports) (grants : List AuthorityEntry) → f (record reported { grants = grants }) ≡ f reported) where
  ticked : (moment : Option ℕ) (hs : List Happening) → f (reported_in (and_ticked moment hs)) ≡ f (reported_in hs)
  ticked None hs = refl
  ticked (Some moment) hs = by_grants (reported_in hs) (AuthorityEntry.Ticked moment ∷ (reported_in hs).grants)

  went : (reading : Option Reading) (hs : List Happening) → f (reported_in (and_moved reading hs)) ≡ f (reported_in hs)
  went None hs = refl
  went (Some reading) hs = refl

  initial_same : (initial : InputEffect) (hs : List Happening) → f (reported_in (and_missed initial.missed (and_moved initial.reading (and_ticked initial.clock hs)))) ≡ f (reported_in hs)
  initial_same initial hs =
      ap f (reported_missed initial.missed (and_moved initial.reading (and_ticked initial.clock hs)))
      ∙ by_links (reported_in (and_moved initial.reading (and_ticked initial.clock hs))) _
      ∙ went initial.reading (and_ticked initial.clock hs)
      ∙ ticked initial.clock hs

module _ {G S : Type 0} {stores : Stores G S} {known : Knowledge G S} {parts : KnownTrack} where
  pub initial_only : (life : Life) (initial : InputEffect) (happened : Happened) → parts ≡ columns_of (grown_so_far life initial (record { groups = []; happened = happened })) →
      StandsForColumns stores known life → StandsForColumns stores (record known { parts = parts }) (grown_so_far life initial (record { groups = []; happened = happened }))
  initial_only life initial happened is s =
      let hs = happenings life.entries in
      record {
        parts_are = is;
        restrictions_are = s.restrictions_are ∙ ap in_force (sym (initial_same (λ reported. reported.restrictions) (λ reported links. refl) (λ reported grants. refl) initial hs));
        gradients_are = s.gradients_are
            ∙ ap profile_of (sym (initial_same {A = MarkedFacts ℤ} (λ reported. record { mark = reported.mark; facts = reported.gradients }) (λ reported links. refl) (λ reported grants. refl) initial hs));
        speeds_are = s.speeds_are
            ∙ ap profile_of (sym (initial_same {A = MarkedFacts CategorySpeeds} (λ reported. record { mark = reported.mark; facts = reported.speeds }) (λ reported links. refl) (λ reported grants. refl) initial hs));
      }
