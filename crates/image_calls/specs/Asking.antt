-- What a step makes of a walk up to an event, and where it may begin (this project's profile).
use Rattle.std.specs.Prelude.{◌≡◌, ◌⊎◌, ℕ, false, List, Option, Some}
use Rattle.blocks.specs.declared.block.Block.{Block}
use Rattle.lives.specs.Steps.{Step}
use Rattle.mode_table.specs.declared.statuses.Cold.{Cold}
use Rattle.image_calls.specs.Images.{Holds, HoldsNone}
use Rattle.image_calls.specs.Links.{first_cold}
use Rattle.image_calls.specs.Lived.{Lived, is_requested, life_after, Stands}
use Rattle.image_calls.specs.declared.asking.WalkToEvent.{WalkToEvent}
use Rattle.image_calls.specs.declared.images.Ring.{Ring}

-- The life goes on as the step reports, and whether the event is met is reported.
pub record Asks (step : Step) (old new : WalkToEvent) : Type 0 where
  pub block_is : new.block ≡ old.block
  pub event_is : new.event ≡ old.event
  pub met_is : old.is_met ≡ false → new.is_met ≡ is_requested old.block old.event step
  pub stands : (at : Option Lived) → Stands at old.known → Stands (life_after step at) new.known

-- what the block of a number says doesn't hang on those before it: it isn't held, or it begins with a power-up
abbrev pub IsFresh : List ℕ → Ring → ℕ → Type 0
IsFresh bytes ring number =
    HoldsNone bytes ring number ⊎ ((block : Block) × (cold : Cold) × Holds bytes ring number block × (first_cold block.records.items ≡ Some cold))
