-- What stands for a life, by what is inside a state.
use Rattle.std.proofs.Common.{◌≡◌, sym, subst}
use Rattle.track_picture.specs.Stores.{Stores}
use Rattle.mode_control.specs.Life.{Life}
use Rattle.mode_control.specs.StandsFor.{Knowledge, StandsForLife}

module _ {G S : Type 0} {stores : Stores G S} where
  pub seen : {inside known : Knowledge G S} {life : Life} →
      inside ≡ known → StandsForLife stores known life → StandsForLife stores inside life
  seen {life = life} is s = subst (λ k. StandsForLife stores k life) (sym is) s
