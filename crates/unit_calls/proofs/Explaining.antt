-- What is reported of the newest event.
use Rattle.std.proofs.Common.{◌≡◌, ℕ, ◌-◌, Bool, true, false, List, length, Option, Some, IfSome, sym, ◌∙◌, ap, subst}
use Rattle.std.specs.Prelude.{ℤ, MatchOption}
use Rattle.events.specs.declared.input.Event.{Event}
use Rattle.kernel.specs.Lives.{life_of}
use Rattle.kernel.specs.StandsFor.{Knowledge, StandsForLife}
use Rattle.mode_control.specs.Life.{Life}
use Rattle.unit_start.specs.Events.{Knows, IsAhead}
use Rattle.relayed_unit.specs.Relayed.{is_unreleased}
use Rattle.relayed_unit.specs.declared.moored.Moored.{Moored}
use Rattle.speed_profile.specs.declared.reported.CategorySpeeds.{CategorySpeeds}
use Rattle.track_store.specs.Segments.{Segmented}
use Rattle.track_picture.specs.Stores.{segment_stores}
use Rattle.unit_calls.specs.Asking.{Asks}
use Rattle.unit_calls.specs.Requests.{IfElse}
use Rattle.unit_calls.specs.Whys.{DescribesLifeWhy, AsksUnitWhy}
use Rattle.unit_calls.specs.declared.handle.Opened.{Opened}
use Rattle.unit_calls.specs.declared.status.Status.{Status}
use Rattle.unit_calls.specs.declared.status.Status.TheVariants as a_status
use Rattle.unit_calls.specs.declared.why.EtcsUnitWhy.{EtcsUnitWhy}

module _ {S : Type 0} (known : S → Knowledge (Segmented ℤ) (Segmented CategorySpeeds)) (So : S → Type 0) where
  pub asked : {E : Type 0} (Describes : List Event → E → Type 0) (opened : Opened) (found : Option S) (s : S) (old new : E) (status : Status)
      → found ≡ Some s → MatchOption found (is_unreleased opened.unit.moored ≡ true) (λ s. (is_unreleased opened.unit.moored ≡ false) × So s) → status ≡ a_status.Done
      → ((durable accepted : List Event) → IsAhead durable accepted opened.unit.moored.unit.life → IfSome found (λ s. (durable ≡ accepted) × Knows (known s) accepted))
      → ((durable accepted : List Event) → IsAhead durable accepted opened.unit.moored.unit.life → Knows (known s) accepted → Describes accepted new)
      → Asks Describes opened old new status
  asked Describes opened found s old new status is exact done released describes =
      let current : Moored = opened.unit.moored in
      let M : Option S → Type 0 = λ o. MatchOption o (is_unreleased current ≡ true) (λ s. (is_unreleased current ≡ false) × So s) in
      let so : (is_unreleased current ≡ false) × So s = subst M is exact in
      let Described : Type 0 = (status ≡ a_status.Done) × ((durable accepted : List Event) → IsAhead durable accepted current.unit.life → (durable ≡ accepted) × Describes accepted new) in
      let reported : Described = (
        done,
        λ durable accepted ahead.
            let F : Option S → Type 0 = λ o. IfSome o (λ s. (durable ≡ accepted) × Knows (known s) accepted) in
            let knows : (durable ≡ accepted) × Knows (known s) accepted = subst F is (released durable accepted ahead) in
            (knows.0, describes durable accepted ahead knows.1),
      ) in
      subst (λ (b : Bool). IfElse b ((status ≡ a_status.NotReleased) × (new ≡ old)) Described) (sym so.0) reported

  pub explained : (opened : Opened) (found : Option S) (s : S) (events event : ℕ) (old new : EtcsUnitWhy) (status : Status)
      → found ≡ Some s → MatchOption found (is_unreleased opened.unit.moored ≡ true) (λ s. (is_unreleased opened.unit.moored ≡ false) × So s)
      → event ≡ events - 1 → status ≡ a_status.Done → events ≡ opened.unit.moored.unit.life.events
      → ((durable accepted : List Event) → IsAhead durable accepted opened.unit.moored.unit.life → IfSome found (λ s. (durable ≡ accepted) × Knows (known s) accepted))
      → ((life : Life) → StandsForLife segment_stores (known s) life → DescribesLifeWhy event life new)
      → AsksUnitWhy opened old new status
  explained opened found s events event old new status is exact event_is done counted released describes =
      asked (λ events reported. DescribesLifeWhy (length events - 1) (life_of events) reported) opened found s old new status is exact done released (λ durable accepted ahead knows.
      let number : event ≡ length accepted - 1 = event_is ∙ ap (λ (n : ℕ). n - 1) (counted ∙ ahead.counted) in
      subst (λ (n : ℕ). DescribesLifeWhy n (life_of accepted) new) number (describes (life_of accepted) knows.life_is))
