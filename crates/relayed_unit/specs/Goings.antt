-- What came of going on with a power-up (this project's profile).
use Rattle.std.specs.Prelude.{Result, Ok, Err}
use Rattle.unit_start.specs.declared.errors.OpenError.{OpenError}
use Rattle.relayed_unit.specs.Relayed.{Relayed}
use Rattle.relayed_unit.specs.Openings.{Opening}
use Rattle.relayed_unit.specs.declared.powering_up.Going.{Going}
use Rattle.relayed_unit.specs.declared.powering_up.Going.TheVariants as a_going

-- where it goes on to be under way, P is so of it
abbrev pub OnWants : Going → (Opening → Type 0) → Type 0
OnWants (a_going.Wants o) P = P o
OnWants (a_going.Open u) P = Unit {0}

-- where it led to a unit, P is so of that
abbrev pub OnOpen : Going → (Relayed → Type 0) → Type 0
OnOpen (a_going.Wants o) P = Unit {0}
OnOpen (a_going.Open u) P = P u

-- where it ended the power-up, P is so of what that answers
abbrev pub OnAnswer : Result Going OpenError → (Result Relayed OpenError → Type 0) → Type 0
OnAnswer (Ok (a_going.Wants o)) P = Unit {0}
OnAnswer (Ok (a_going.Open u)) P = P (Ok u)
OnAnswer (Err e) P = P (Err e)
