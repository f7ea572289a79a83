-- Identities, as a test and as a fact.
use Rattle.std.proofs.Common.{◌≡◌, ◌≤◌, ℕ, Bool, true, false, List, [], ◌∷◌, length, refl, nat_le, ◌&&◌}
use Rattle.std.specs.List.{AllByRecursion, list_all}
use Rattle.std.proofs.lemmas.Bool.{leb-true, le-leb, and_parts, and_from}
use Rattle.std.proofs.lemmas.List.Elements.{All-from_recursion, recursion_from_All}
use Rattle.driver.specs.Limits.{IsIdentity}
use Rattle.simulator.specs.Actions.{is_identity}

abbrev IsPrintable : ℕ → Type 0
IsPrintable byte = (0x20 ≤ byte) × (byte ≤ 0x7E)

abbrev is_printable : ℕ → Bool
is_printable byte = nat_le 0x20 byte && nat_le byte 0x7E

passes : (text : List ℕ) → AllByRecursion IsPrintable text → list_all is_printable text ≡ true
passes [] h = refl
passes (x ∷ xs) h = and_from _ (list_all is_printable xs) (and_from (nat_le 0x20 x) (nat_le x 0x7E) (le-leb 0x20 x h.0.0) (le-leb x 0x7E h.0.1)) (passes xs h.1)

reported : (text : List ℕ) → list_all is_printable text ≡ true → AllByRecursion IsPrintable text
reported [] e = tt
reported (x ∷ xs) e =
    let halves = and_parts (is_printable x) (list_all is_printable xs) e in
    let here = and_parts (nat_le 0x20 x) (nat_le x 0x7E) halves.0 in
    ((leb-true 0x20 x here.0, leb-true x 0x7E here.1), reported xs halves.1)

pub identity-true : (text : List ℕ) → IsIdentity text → is_identity text ≡ true
identity-true text is =
    and_from (nat_le 1 (length text) && nat_le (length text) 16) (list_all is_printable text)
    (and_from (nat_le 1 (length text)) (nat_le (length text) 16) (le-leb 1 (length text) is.0) (le-leb (length text) 16 is.1))
    (passes text (recursion_from_All IsPrintable text is.2))

none_reported : (b : Bool) (text : List ℕ) → is_identity text ≡ b → (IsIdentity text → ⊥) → b ≡ false
none_reported true text e never =
    let halves = and_parts (nat_le 1 (length text) && nat_le (length text) 16) (list_all is_printable text) e in
    let long = and_parts (nat_le 1 (length text)) (nat_le (length text) 16) halves.0 in
    absurd (never (leb-true 1 (length text) long.0, leb-true (length text) 16 long.1, All-from_recursion IsPrintable text (reported text halves.1)))
none_reported false text e never = refl

pub identity-false : (text : List ℕ) → (IsIdentity text → ⊥) → is_identity text ≡ false
identity-false text never = none_reported (is_identity text) text refl never
