-- What stands for a life, by what is inside a state; and for a past with one event more.
use Rattle.std.proofs.Common.{◌≡◌, sym, subst}
use Rattle.mode_control.specs.Life.{Life}
use Rattle.track_picture.specs.Stores.{Stores}
use Rattle.kernel.specs.StandsFor.{Knowledge, StandsForLife}

module _ {G S : Type 0} {stores : Stores G S} where
  pub seen : {inside known : Knowledge G S} {life : Life} →
      inside ≡ known → StandsForLife stores known life → StandsForLife stores inside life
  seen {life = life} is s = subst (λ k. StandsForLife stores k life) (sym is) s
