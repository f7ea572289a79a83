-- What is reported of a life now (this project's profile). Places are in centimetres, moments in milliseconds.
use Rattle.std.specs.Prelude.{◌≡◌, List, length}
use Rattle.events.specs.declared.input.Event.{Event}
use Rattle.kernel.specs.Output.{estimate_after, uncertainty_after}
use Rattle.unit_start.specs.Events.{IsAhead}
use Rattle.unit_start.specs.UnitState.{LifeState}
use Rattle.relayed_unit.specs.declared.life_now.LifeNow.{LifeNow}

-- What is known of a life after all accepted events: the place of the train by all of them, the last moment of its
-- clock, and how many of them are pending.
pub record DescribesLife (life : LifeState) (reported : LifeNow) : Type 0 where
  pub estimate : (durable accepted : List Event) → IsAhead durable accepted life → reported.estimate ≡ estimate_after accepted
  pub uncertainty : (durable accepted : List Event) → IsAhead durable accepted life → reported.uncertainty ≡ uncertainty_after accepted
  pub moment : reported.moment ≡ life.moment
  pub pending : reported.pending ≡ length life.records
