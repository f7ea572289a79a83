-- Of two tests, both of which hold, or one of which doesn't.
use Rattle.std.proofs.Common.{◌≡◌, Bool, true, false}
use Rattle.std.specs.Prelude.{◌&&◌}
use Rattle.unit_calls.specs.Requests.{IfElse}

pub both : (a b : Bool) (So Else : Type 0) → a ≡ true → b ≡ true → So → IfElse (a && b) So Else
both true true So Else one other it = it
both true false So Else one other it = absurd cc
both false b So Else one other it = absurd cc

pub not_first : (a b : Bool) (So Else : Type 0) → a ≡ false → Else → IfElse (a && b) So Else
not_first true b So Else is it = absurd cc
not_first false b So Else is it = it

pub not_second : (a b : Bool) (So Else : Type 0) → b ≡ false → Else → IfElse (a && b) So Else
not_second true true So Else is it = absurd cc
not_second true false So Else is it = it
not_second false b So Else is it = it
