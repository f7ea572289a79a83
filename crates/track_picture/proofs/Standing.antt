-- What stands for a life, by what is inside.
use Rattle.std.proofs.Common.{◌≡◌, ap, sym, subst}
use Rattle.track_picture.specs.StandsFor.{Knowledge, Life, StandsForLife}
use Rattle.track_picture.specs.Columns.{TrackReports, StandsForReported, StandsForColumns}
use Rattle.track_picture.specs.Stores.{Stores}

-- what two stores give, where these are the same
module _ {G S : Type 0} {stores other : Stores G S} (are : stores ≡ other) where
  pub gradients_as : (kept : G) → stores.gradients kept ≡ other.gradients kept
  gradients_as kept = ap (λ (s : Stores G S). s.gradients kept) are

  pub speeds_as : (kept : S) → stores.speeds kept ≡ other.speeds kept
  speeds_as kept = ap (λ (s : Stores G S). s.speeds kept) are

module _ {G S : Type 0} {stores : Stores G S} where
  pub seen : {inside known : Knowledge G S} {life : Life} →
      inside ≡ known → StandsForLife stores known life → StandsForLife stores inside life
  seen {life = life} is s = subst (λ k. StandsForLife stores k life) (sym is) s

  pub seen_columns : {inside known : Knowledge G S} {life : Life} →
      inside ≡ known → StandsForColumns stores known life → StandsForColumns stores inside life
  seen_columns {life = life} is s = subst (λ k. StandsForColumns stores k life) (sym is) s

  pub reported_as : {known : Knowledge G S} {life : Life} {reported other : TrackReports} →
      reported ≡ other → StandsForReported stores known life reported → StandsForReported stores known life other
  reported_as {known} {life} is s = subst (λ t. StandsForReported stores known life t) is s
