-- What follows from a fault of the parser, and from none.
use Rattle.std.proofs.Common.{◌≡◌, ◌∷◌, [], refl, sym, subst, if◌then◌else◌, inl, inr}
use Rattle.clap.specs.Words.{HasKind, Kinds, kind_of}
use Rattle.clap.specs.declared.error.Error.{Error}
use Rattle.clap.specs.declared.error.kind.ErrorKind.TheVariants as kind
use Rattle.command_line.specs.Arguments.{has_no_fault}

pub without_fault : {X : Type 0} (kinds : Kinds) (x y : X) → kinds ≡ [] → (if has_no_fault kinds then x else y) ≡ x
without_fault kinds x y e = subst (λ (k : Kinds). (if has_no_fault k then x else y) ≡ x) (sym e) refl

pub with_fault : {X : Type 0} (kinds : Kinds) (x y : X) (e : Error) → HasKind kinds e → (kind_of e ≡ kind.OutOfMemory → ⊥) → (if has_no_fault kinds then x else y) ≡ y
with_fault [] x y e (inl h) other = absurd (other h)
with_fault [] x y e (inr h) other = absurd h
with_fault (k ∷ ks) x y e h other = refl
