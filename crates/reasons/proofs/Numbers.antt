-- The number of the event after a story with one more.
use Rattle.std.proofs.Common.{◌≡◌, ◌+◌, ◌-◌, ◌^◌, min, refl}
use Rattle.events.specs.declared.input.Event.{Event}
use Rattle.events.specs.declared.input.Event.TheVariants.{PowerUp, Input}
use Rattle.kernel.specs.Lives.{Story, onward}
use Rattle.reasons.specs.Runs.{number_after}

pub one_more_after : (story : Story) (event : Event) → number_after (onward story event) ≡ min (number_after story + 1) (2 ^ 64 - 1)
one_more_after story (PowerUp cold) = refl
one_more_after story (Input input) = refl
