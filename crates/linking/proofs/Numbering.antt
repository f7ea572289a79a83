-- Lists that are numbered in their order.
use Rattle.std.proofs.Common.{ℕ, suc, ◌+◌, ◌<◌, ◌≤◌, List, [], ◌∷◌, arith}
use Rattle.std.specs.Prelude.{All}
use Rattle.std.proofs.lemmas.List.Elements.{All-cons}
use Rattle.std.proofs.lemmas.List.Kept.{AllPairs-cons}
use Rattle.linking.specs.declared.announcement.Announcement.{Announcement}
use Rattle.linking.specs.Linking.{numbered_from, numbered, IsRising}

at_least : (number least : ℕ) (xs : List Announcement) → least ≤ number → All (λ a. least ≤ a.number) (numbered_from number xs)
at_least number least [] above = λ k d h. omega arith
at_least number least (x ∷ xs) above =
    All-cons (λ a. least ≤ a.number) (record x { number = number }) (numbered_from (number + 1) xs) above
    (at_least (number + 1) least xs (omega arith))

rising_from : (number : ℕ) (xs : List Announcement) → IsRising (numbered_from number xs)
rising_from number [] = λ i j d h k. omega arith
rising_from number (x ∷ xs) =
    AllPairs-cons (λ a b. a.number < b.number) (record x { number = number }) (numbered_from (number + 1) xs)
    (at_least (number + 1) (suc number) xs (omega arith)) (rising_from (number + 1) xs)

pub rising_numbered : (xs : List Announcement) → IsRising (numbered xs)
rising_numbered xs = rising_from 0 xs
