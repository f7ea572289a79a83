-- What tests keep of a list whose elements are in order.
use Rattle.std.proofs.Common.{◌≡◌, ℕ, zero, suc, ◌+◌, ◌≤◌, ◌<◌, List, [], ◌∷◌, ◌++◌, length, get_or, take, drop, Bool, true, false, ◌||◌, refl, sym, ap, arith}
use Rattle.std.specs.List.{filter}
use Rattle.std.specs.List.Sorted.{IsNonDecreasingBy}
use Rattle.std.proofs.Math.Seq.{take-nil, drop-nil}
use Rattle.std.proofs.lemmas.Bool.{false≢true}

-- a test that none passes keeps nothing
pub none : {X : Type 0} (p : X → Bool) (xs : List X) → ((k : ℕ) (d : X) → k < length xs → p (get_or xs k d) ≡ false) → filter p xs ≡ []
none p [] fails = refl
none p (x ∷ xs) fails =
    let here : p x ≡ false = fails 0 x (omega arith) in
    rw here (none p xs (λ k d l. fails (suc k) d (omega (arith, l))))

-- a test that so many from a place on pass, and no other, keeps just these
pub between : {X : Type 0} (p : X → Bool) (xs : List X) (i n : ℕ)
    → ((k : ℕ) (d : X) → k < i → k < length xs → p (get_or xs k d) ≡ false)
    → ((k : ℕ) (d : X) → i ≤ k → k < i + n → k < length xs → p (get_or xs k d) ≡ true)
    → ((k : ℕ) (d : X) → i + n ≤ k → k < length xs → p (get_or xs k d) ≡ false)
    → filter p xs ≡ take n (drop i xs)
between p [] i n before inside following = rw (drop-nil i, take-nil n) refl
between p (x ∷ xs) zero zero before inside following = none p (x ∷ xs) (λ k d l. following k d (omega arith) l)
between p (x ∷ xs) zero (suc n) before inside following =
    let here : p x ≡ true = inside 0 x (omega arith) (omega arith) (omega arith) in
    let rest = between p xs 0 n (λ k d a l. absurd (omega (arith, a))) (λ k d a b l. inside (suc k) d (omega arith) (omega (arith, b)) (omega (arith, l))) (λ k d a l. following (suc k) d (omega (arith, a)) (omega (arith, l))) in
    rw here (ap (λ l. x ∷ l) rest)
between p (x ∷ xs) (suc i) n before inside following =
    let here : p x ≡ false = before 0 x (omega arith) (omega arith) in
    rw here (between p xs i n (λ k d a l. before (suc k) d (omega (arith, a)) (omega (arith, l))) (λ k d a b l. inside (suc k) d (omega (arith, a)) (omega (arith, b)) (omega (arith, l))) (λ k d a l. following (suc k) d (omega (arith, a)) (omega (arith, l))))

-- one element more, where one that passes q has none after it that passes p
joined_one : {X : Type 0} (p q r : X → Bool) (x : X) (xs : List X) (a b : Bool) → p x ≡ a → q x ≡ b → r x ≡ (a || b)
    → (b ≡ true → (a ≡ false) × (filter p xs ≡ []))
    → filter p xs ++ filter q xs ≡ filter r xs
    → filter p (x ∷ xs) ++ filter q (x ∷ xs) ≡ filter r (x ∷ xs)
joined_one p q r x xs false false ep eq er single rest = rw (ep, eq, er) rest
joined_one p q r x xs true false ep eq er single rest = rw (ep, eq, er) (ap (λ l. x ∷ l) rest)
joined_one p q r x xs false true ep eq er single rest =
    let empty : filter p xs ≡ [] = (single refl).1 in
    let last = rw empty at rest in
    rw (ep, eq, er, empty) (ap (λ l. x ∷ l) last)
joined_one p q r x xs true true ep eq er single rest = absurd (false≢true (sym (single refl).0))

-- what passes p, and then what passes q, is what passes either, where nothing that passes p lies beyond what passes q
pub joined : {X : Type 0} (n : X → ℕ) (p q r : X → Bool) (xs : List X) → IsNonDecreasingBy n xs
    → ((x y : X) → q x ≡ true → n x ≤ n y → p y ≡ false)
    → ((x : X) → r x ≡ (p x || q x))
    → filter p xs ++ filter q xs ≡ filter r xs
joined n p q r [] up apart either = refl
joined n p q r (x ∷ xs) up apart either =
    joined_one p q r x xs (p x) (q x) refl refl (either x)
    (λ here. (apart x x here (omega arith), none p xs (λ k d l. apart x (get_or xs k d) here (up 0 (suc k) d (omega arith) (omega (arith, l))))))
    (joined n p q r xs (λ i j d a l. up (suc i) (suc j) d (omega (arith, a)) (omega (arith, l))) apart either)
