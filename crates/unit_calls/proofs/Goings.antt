-- What came of going on, as the call says it.
use Rattle.std.proofs.Common.{◌≡◌, ℕ, [], List, false, Result, Ok, Err, IfOk}
use Rattle.events.specs.declared.input.Event.{Event}
use Rattle.unit_start.specs.Lives.{IsReady}
use Rattle.unit_start.specs.declared.errors.OpenError.{OpenError}
use Rattle.relayed_unit.specs.Goings.{OnOpen}
use Rattle.relayed_unit.specs.Openings.{Opening, medium_state, IsGoing}
use Rattle.relayed_unit.specs.Relayed.{Continued}
use Rattle.relayed_unit.specs.declared.powering_up.Going.{Going}
use Rattle.relayed_unit.specs.declared.powering_up.Going.TheVariants as a_going
use Rattle.unit_calls.specs.PowerUps.{before_any, IsUp}

-- a unit that came of it was powered up over what the medium held
pub ups : (before : Opening) (reported : Result Going OpenError)
    → IfOk reported (λ g. OnOpen g (λ u. (u.outputs ≡ []) × (u.done ≡ 0) × (u.failed ≡ false)))
    → IfOk reported (λ g. OnOpen g (λ u. u.moored.disk.sectors ≡ before.disk.sectors))
    → ((medium : List ℕ) (whole_from : ℕ) (durable accepted : List Event) → IsGoing medium before →
    IsReady whole_from durable accepted (medium_state medium before.disk.sectors) →
    IfOk reported (λ g. OnOpen g (λ u. Continued whole_from durable accepted before.cold (medium_state medium before.disk.sectors) u.moored)))
    → (medium : List ℕ) → IsGoing medium before → IfOk reported (λ g. OnOpen g (IsUp (before_any medium before.disk.sectors) before.cold))
ups before (Err e) fresh sectors up medium going = tt
ups before (Ok (a_going.Wants current)) fresh sectors up medium going = tt
ups before (Ok (a_going.Open u)) fresh sectors up medium going = record {
  fresh = fresh;
  sectors = sectors;
  up = λ whole_from durable accepted ready. up medium whole_from durable accepted going ready;
}
