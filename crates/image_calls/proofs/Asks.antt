-- A walk up to an event, step after step.
use Rattle.std.proofs.Common.{◌≡◌, ℕ, Bool, true, false, if◌then◌else◌, List, [], ◌∷◌, Option, Some, None, refl, sym, subst}
use Rattle.events.specs.declared.input.Event.{Event}
use Rattle.kernel.specs.Lives.{Story, onward}
use Rattle.lives.specs.Steps.{Step}
use Rattle.lives.specs.Walks.{WalksOn, Walked}
use Rattle.reasons.specs.Reported.{Reasoned, Reasons}
use Rattle.image_calls.specs.Asking.{Asks}
use Rattle.image_calls.specs.Lived.{Lived, one_more, is_requested, up_to, life_after, later_life, story_after, Stands}
use Rattle.image_calls.specs.declared.asking.WalkToEvent.{WalkToEvent}

-- ---- one event more

pub none_follows : (event : Event) (at : Option Lived) → Stands at None → Stands (one_more event at) None
none_follows event None stands = tt
none_follows event (Some life) stands = absurd stands

pub some_follows : (event : Event) (old new : Reasoned) (at : Option Lived)
    → ((story : Story) → Reasons story old → Reasons (onward story event) new)
    → Stands at (Some old) → Stands (one_more event at) (Some new)
some_follows event old new None follows stands = absurd stands
some_follows event old new (Some life) follows stands = λ story left. follows (story_after life.events story) (stands story left)

-- ---- whether a life is known

pub unknown_stands : (at : Option Lived) → Stands at None → at ≡ None
unknown_stands None stands = refl
unknown_stands (Some life) stands = absurd stands

pub known_stands : (at : Option Lived) (known : Reasoned) → Stands at (Some known) → (life : Lived) × (at ≡ Some life) × Stands (Some life) (Some known)
known_stands None known stands = absurd stands
known_stands (Some life) known stands = (life, refl, stands)

-- ---- steps

abbrev pub met : WalkToEvent → Bool
met = λ walk. walk.is_met

abbrev pub Reported : {O : Type 0} → Step → WalkToEvent → O → WalkToEvent → O → Type 0
Reported = λ step old out new after. Asks step old new

module _ {O : Type 0} where
  -- who has met the event is reported nothing
  met_ends : (steps : List Step) (old new : WalkToEvent) (out after : O) → old.is_met ≡ true → Walked Reported met steps old out new after → new ≡ old
  met_ends [] old new out after so on = on.0
  met_ends (step ∷ steps) old new out after so on =
      (subst (λ (b : Bool). WalksOn b ((new ≡ old) × (after ≡ out)) ((one : WalkToEvent) × (mid : O) × Asks step old one × Walked Reported met steps one mid new after)) so on).0

  reported_if : (step : Step) (steps : List Step) (old one new : WalkToEvent) (mid after : O) (at : Option Lived) (b : Bool) → is_requested old.block old.event step ≡ b → one.is_met ≡ b
      → Stands (life_after step at) one.known → Walked Reported met steps one mid new after
      → (one.is_met ≡ false → Stands (later_life (up_to (is_requested old.block old.event) steps) (life_after step at)) new.known)
      → Stands (later_life (if b then step ∷ [] else step ∷ up_to (is_requested old.block old.event) steps) at) new.known
  reported_if step steps old one new mid after at true walk is stands on rest =
      subst (λ (a : WalkToEvent). Stands (life_after step at) a.known) (sym (met_ends steps one new mid after is on)) stands
  reported_if step steps old one new mid after at false walk is stands on rest = rest is

  -- the life that was run again comes after the steps up to the one that was asked for
  pub requested_reported : (steps : List Step) (old new : WalkToEvent) (out after : O) (at : Option Lived) → Walked Reported met steps old out new after → old.is_met ≡ false → Stands at old.known
      → Stands (later_life (up_to (is_requested old.block old.event) steps) at) new.known
  requested_reported [] old new out after at on so stands = subst (λ (a : WalkToEvent). Stands at a.known) (sym on.0) stands
  requested_reported (step ∷ steps) old new out after at on so stands =
      let answered = subst (λ (b : Bool). WalksOn b ((new ≡ old) × (after ≡ out)) ((one : WalkToEvent) × (mid : O) × Asks step old one × Walked Reported met steps one mid new after)) so on in
      let asks = answered.2 in
      let next : Stands (life_after step at) answered.0.known = asks.stands at stands in
      let is : answered.0.is_met ≡ is_requested old.block old.event step = asks.met_is so in
      reported_if step steps old answered.0 new answered.1 after at (is_requested old.block old.event step) refl is next answered.3
      (λ off. subst (λ (n : ℕ). Stands (later_life (up_to (is_requested n old.event) steps) (life_after step at)) new.known) asks.block_is
      (subst (λ (e : ℕ). Stands (later_life (up_to (is_requested answered.0.block e) steps) (life_after step at)) new.known) asks.event_is
      (requested_reported steps answered.0 new answered.1 after (life_after step at) answered.3 off next)))
