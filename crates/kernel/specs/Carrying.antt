-- What is carried from event to event (this project's profile). Places are centimetres.
use Rattle.std.specs.Prelude.{◌≡◌, ◌≤ℤ◌, Option, IsSome, IfSome}
use Rattle.units.specs.Stretches.{Span}
use Rattle.mode_table.specs.declared.mode.Mode.TheVariants.{FullSupervision}
use Rattle.track_picture.specs.Sentences.{forgetting_mark}
use Rattle.mode_control.specs.History.{mode_of}
use Rattle.mode_control.specs.Life.{Life}
use Rattle.mode_control.specs.Sentences.{span_of}
use Rattle.mode_control.specs.StandsFor.{Knowledge}
use Rattle.mode_control.specs.Still.{IsStill}
use Rattle.speed_supervision.specs.declared.steady.SteadyLimit.{SteadyLimit}
use Rattle.speed_supervision.specs.Steady.{IsAbout, IsFor, IsSteady}
use Rattle.kernel.specs.declared.carried.Carried.{Carried}

-- the limit that is carried is steady in a life
abbrev pub IsCarried : Carried → Life → Type 0
IsCarried carried life = IfSome carried.steady (λ steady. IsSteady steady life)

-- .. where its window is ordered, and no track is forgotten that the train may cover within it
abbrev pub IsSteadyAhead : SteadyLimit → Life → Type 0
IsSteadyAhead steady life =
    steady.narrowest.rear ≤ℤ steady.narrowest.max_front → forgetting_mark (span_of life) ≤ℤ steady.widest.rear → IsSteady steady life

abbrev pub IsCarriedAhead : Carried → Life → Type 0
IsCarriedAhead carried life = IfSome carried.steady (λ steady. IsSteadyAhead steady life)

-- a steady limit, if there is one, holds where the train is
abbrev pub HoldsAt : Option SteadyLimit → Span → Type 0
HoldsAt steady train = IfSome steady (λ s. IsAbout s train)

-- nothing comes in a life, where the train is there; a steady limit, if there is one, is for it, in Full Supervision
pub record IsStillAt {G S : Type 0} (known : Knowledge G S) (steady : Option SteadyLimit) (train : Span) (life : Life) : Type 0 where
  pub here : train ≡ span_of life
  pub still : IsStill known
  pub holds : HoldsAt steady train
  pub held : IfSome steady (λ s. (mode_of life.entries ≡ FullSupervision) × IsFor s life)

-- nothing came in the last event of a life
abbrev pub IsPassed : {G S : Type 0} → Knowledge G S → Carried → Life → Type 0
IsPassed known carried life =
    IsCarried carried life × IsSome carried.still × IfSome carried.still (λ train. IsStillAt known carried.steady train life)
