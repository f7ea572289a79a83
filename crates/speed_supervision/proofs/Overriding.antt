-- What an override that doesn't limit leaves of a speed, and that it isn't active with that speed.
use Rattle.std.proofs.Common.{◌≡◌, ℕ, min, Bool, true, false, cond, sym, ◌∙◌, arith}
use Rattle.std.specs.Prelude.{◌&&◌, ◌==◌}
use Rattle.std.proofs.lemmas.Bool.{and_from, eq-eqb}
use Rattle.std.proofs.lemmas.Bool.Decides.{nat_tests}

pub no_override : (active : Bool) (speed other least : ℕ) → cond active (min speed other) speed ≡ least →
    (active && (other == least)) ≡ false → speed ≡ least
no_override true speed other least is unlike = grind (arith, nat_tests)
no_override false speed other least is unlike = is

pub other_speed : (active : Bool) (other limit : ℕ) → (active && (other == limit)) ≡ false → (active ≡ true) × (other ≡ limit) → ⊥
other_speed active other limit unlike is =
    let no : true ≡ false = sym (and_from active (other == limit) is.0 (eq-eqb other limit is.1)) ∙ unlike in cc
