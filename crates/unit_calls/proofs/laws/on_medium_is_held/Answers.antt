use Rattle.std.proofs.Common.{◌≡◌, ◌≤◌, List, [], ◌∷◌, ◌++◌, inl, inr, length, ap, sym, subst, arith}
use Rattle.unit_calls.specs.Histories.{IsPartOf, outputs_of}
use Rattle.unit_calls.specs.declared.outputs.EtcsOutput.{EtcsOutput}
use Rattle.unit_calls.proofs.laws.on_medium_is_held.Goals as goal

no_longer : {X : Type 0} (xs ys : List X) → IsPartOf xs ys → length xs ≤ length ys
no_longer [] ys part = omega arith
no_longer (x ∷ xs) [] part = absurd part
no_longer (x ∷ xs) (y ∷ ys) part =
    elim part [
      | inl halves ↦ omega (arith, no_longer xs ys halves.1)
      | inr rest ↦ omega (arith, no_longer (x ∷ xs) ys rest)
    ]

-- an element of a part has its place in the whole
abbrev HasPlace : {X : Type 0} → List X → X → List X → List X → Type 0
HasPlace {X = X} before x after ys =
    (front : List X) × (back : List X) × (ys ≡ front ++ x ∷ back) × (length before ≤ length front) × (length after ≤ length back)

one_farther : {X : Type 0} (before after ys : List X) (x y : X) → HasPlace before x after ys → HasPlace before x after (y ∷ ys)
one_farther before after ys x y at = (y ∷ at.0, at.1, ap (λ (l : List _). y ∷ l) at.2, omega (arith, at.3), at.4)

has_place : {X : Type 0} (before after : List X) (x : X) (ys : List X) → IsPartOf (before ++ x ∷ after) ys → HasPlace before x after ys
has_place [] after x [] part = absurd part
has_place [] after x (y ∷ ys) part =
    elim part [
      | inl halves ↦ ([], ys, ap (λ (z : _). z ∷ ys) (sym halves.0), omega arith, no_longer after ys halves.1)
      | inr rest ↦ one_farther [] after ys x y (has_place [] after x ys rest)
    ]
has_place (b ∷ before) after x [] part = absurd part
has_place (b ∷ before) after x (y ∷ ys) part =
    elim part [
      | inl halves ↦ (let at = has_place before after x ys halves.1 in
          (y ∷ at.0, at.1, ap (λ (l : List _). y ∷ l) at.2, omega (arith, at.3), at.4))
      | inr rest ↦ one_farther (b ∷ before) after ys x y (has_place (b ∷ before) after x ys rest)
    ]

pub returns : goal.returns
returns c whole_from sectors handed medium on = (
  on.durable,
  λ before after output is. has_place before after output (outputs_of on.durable)
      (subst (λ (l : List EtcsOutput). IsPartOf l (outputs_of on.durable)) is on.outputs),
  on.each,
)
