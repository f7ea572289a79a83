-- What a variable is read as, by what was taken of the bits.
use Rattle.std.proofs.Common.{◌≡◌, ◌↔◌, ◌≤◌, refl, sym, subst, ℕ, Bool, false, List, length, take, drop, Option, Some, None, Ok, ltb}
use Rattle.std.specs.Prelude.{IfSome, IsSome, OnSome}
use Rattle.std.specs.Option.{ok_or}
use Rattle.std.proofs.lemmas.Bool.{le-ltb}
use Rattle.bits.specs.Bits.{number}
use Rattle.bits.specs.Layout.{Codes, alongside, map_fault, read_field}

pub was_some : {F : Type 0} (o : Option ℕ) (f : F) (n : ℕ) → ok_or o f ≡ Ok n → o ≡ Some n
was_some None f n e = absurd cc
was_some (Some m) f n e = cc

pub read_taken : {F E A : Type 0} (f : F) (g : E → F) (codes : Codes E A) (w : ℕ) (bits left : List Bool) (o : Option ℕ) (n : ℕ) → o ≡ Some n → codes.width ≡ w → (IsSome o ↔ (w ≤ length bits))
    → IfSome o (λ v. v ≡ number (take w bits)) → OnSome o (left ≡ drop w bits) → read_field f g codes bits ≡ map_fault g (alongside (codes.value n) left)
unfolding read_field
read_taken f g codes w bits left None n some width found value rest = absurd cc
read_taken f g codes w bits left (Some m) n some width found value rest =
    let long : ltb (length bits) codes.width ≡ false = le-ltb _ _ (subst (λ (i : ℕ). i ≤ length bits) (sym width) (found.0 refl)) in
    let same : m ≡ n = cc in
    rw (long, width, ← value, same, rest) refl
