-- What one more entry does to what is known of linking.
use Rattle.std.proofs.Common.{◌≡◌, ℕ, suc, ◌<◌, List, [], ◌∷◌, Bool, true, false, cond, refl, ap, sym, ◌∙◌, arith}
use Rattle.std.specs.Prelude.{not, filter, ◌||◌, ◌==◌, All, slice_index_or}
use Rattle.std.specs.List.{list_any}
use Rattle.std.proofs.lemmas.Bool.Decides.{nat_tests}
use Rattle.std.proofs.lemmas.List.Elements.{All-filter}
use Rattle.std.proofs.lemmas.List.Folds.{list_any_none}
use Rattle.std.proofs.lemmas.List.Kept.{AllPairs-filter}
use Rattle.linking.specs.declared.announcement.Announcement.{Announcement}
use Rattle.linking.specs.Linking.{LinkEntry, KnownLinks, known, numbered, left, announced, since_announced, has_missed, takes, is_any, IsRising, after_misses}
use Rattle.linking.specs.Linking.LinkEntry.{Accepted, Reacted, Missed}

filter-true : {X : Type 0} (xs : List X) → filter (λ x. true) xs ≡ xs
filter-true [] = refl
filter-true (x ∷ xs) = ap (λ ys. x ∷ ys) (filter-true xs)

-- what neither of two tests takes is what is left after both, in either order
neither : {X : Type 0} (p q : X → Bool) (xs : List X) →
    filter (λ x. not (p x || q x)) xs ≡ filter (λ x. not (p x)) (filter (λ x. not (q x)) xs)
neither p q [] = refl
neither p q (x ∷ xs) =
    let cases : (a b : Bool) → p x ≡ a → cond (not (a || b)) (x ∷ filter (λ y. not (p y || q y)) xs) (filter (λ y. not (p y || q y)) xs)
    ≡ filter (λ y. not (p y)) (cond (not b) (x ∷ filter (λ y. not (q y)) xs) (filter (λ y. not (q y)) xs)) =
    elim [
      | true ↦ elim [ true ↦ λ d. neither p q xs | false ↦ λ d. rw d (neither p q xs) ]
      | false ↦ elim [ true ↦ λ d. neither p q xs | false ↦ λ d. rw d (ap (λ ys. x ∷ ys) (neither p q xs)) ]
    ] in
    cases (p x) (q x) refl

neither_turned : {X : Type 0} (p q : X → Bool) (xs : List X) →
    filter (λ x. not (p x || q x)) xs ≡ filter (λ x. not (q x)) (filter (λ x. not (p x)) xs)
neither_turned p q [] = refl
neither_turned p q (x ∷ xs) =
    let cases : (a b : Bool) → q x ≡ b → cond (not (a || b)) (x ∷ filter (λ y. not (p y || q y)) xs) (filter (λ y. not (p y || q y)) xs)
    ≡ filter (λ y. not (q y)) (cond (not a) (x ∷ filter (λ y. not (p y)) xs) (filter (λ y. not (p y)) xs)) =
    elim [
      | true ↦ elim [ true ↦ λ d. neither_turned p q xs | false ↦ λ d. neither_turned p q xs ]
      | false ↦ elim [ true ↦ λ d. rw d (neither_turned p q xs) | false ↦ λ d. rw d (ap (λ ys. x ∷ ys) (neither_turned p q xs)) ]
    ] in
    cases (p x) (q x) refl

-- the numbers of those that pass a test rise too
pub IsRising-filter : (p : Announcement → Bool) (xs : List Announcement) → IsRising xs → IsRising (filter p xs)
IsRising-filter p xs rising = AllPairs-filter (λ a b. a.number < b.number) p xs rising

-- what stands for the entries stands for an acceptance more
pub one_acceptance : (old new : List Announcement) (flag : Bool) (number : ℕ) (entries : List LinkEntry) →
    record { left = old; has_missed = flag } ≡ known entries → new ≡ filter (λ a. not (takes (Accepted number) a.number)) old →
    record { left = new; has_missed = false } ≡ known (Accepted number ∷ entries)
one_acceptance old new flag number entries is kept =
    let o : old ≡ left entries = ap (λ (k : KnownLinks). k.left) is in
    let n : new ≡ left (Accepted number ∷ entries) =
    kept ∙ ap (filter (λ a. not (takes (Accepted number) a.number))) o
    ∙ sym (neither (λ a. takes (Accepted number) a.number) (λ a. list_any (λ entry. takes entry a.number) (since_announced entries)) (announced entries)) in
    λ i. record { left = n i; has_missed = false }

-- .. for a reaction more
pub one_reaction : (old new : List Announcement) (flag : Bool) (number : ℕ) (entries : List LinkEntry) →
    record { left = old; has_missed = flag } ≡ known entries → new ≡ filter (λ a. not (takes (Reacted number) a.number)) old →
    record { left = new; has_missed = flag } ≡ known (Reacted number ∷ entries)
one_reaction old new flag number entries is kept =
    let o : old ≡ left entries = ap (λ (k : KnownLinks). k.left) is in
    let m : flag ≡ has_missed entries = ap (λ (k : KnownLinks). k.has_missed) is in
    let n : new ≡ left (Reacted number ∷ entries) =
    kept ∙ ap (filter (λ a. not (takes (Reacted number) a.number))) o
    ∙ sym (neither (λ a. takes (Reacted number) a.number) (λ a. list_any (λ entry. takes entry a.number) (since_announced entries)) (announced entries)) in
    λ i. record { left = n i; has_missed = m i }

-- .. for a new list
pub one_list : (new announcements : List Announcement) (old : List Announcement) (flag : Bool) (entries : List LinkEntry) →
    record { left = old; has_missed = flag } ≡ known entries → new ≡ numbered announcements →
    record { left = new; has_missed = flag } ≡ known (LinkEntry.Announced announcements ∷ entries)
one_list new announcements old flag entries is same =
    let m : flag ≡ has_missed entries = ap (λ (k : KnownLinks). k.has_missed) is in
    let n : new ≡ filter (λ a. true) (numbered announcements) = same ∙ sym (filter-true (numbered announcements)) in
    λ i. record { left = n i; has_missed = m i }

-- ---- misses

or-false : (b : Bool) → b ≡ (b || false)
or-false true = refl
or-false false = refl

or-true : (b : Bool) → true ≡ (b || true)
or-true true = refl
or-true false = refl

-- after misses those are left that were left before and whose numbers aren't among them
left_after : (missed : List Announcement) (entries : List LinkEntry) →
    left (after_misses missed entries) ≡ filter (λ a. not (list_any (λ b. a.number == b.number) missed)) (left entries)
left_after [] entries = sym (filter-true (left entries))
left_after (m ∷ missed) entries =
    let one : left (Missed m.number ∷ entries) ≡ filter (λ a. not (a.number == m.number)) (left entries) =
    neither (λ a. a.number == m.number) (λ a. list_any (λ entry. takes entry a.number) (since_announced entries)) (announced entries) in
    left_after missed (Missed m.number ∷ entries) ∙ ap (filter (λ a. not (list_any (λ b. a.number == b.number) missed))) one
    ∙ sym (neither_turned (λ a. a.number == m.number) (λ a. list_any (λ b. a.number == b.number) missed) (left entries))

has_missed_after : (missed : List Announcement) (entries : List LinkEntry) →
    has_missed (after_misses missed entries) ≡ (has_missed entries || is_any missed)
has_missed_after [] entries = or-false (has_missed entries)
has_missed_after (m ∷ missed) entries = has_missed_after missed (Missed m.number ∷ entries) ∙ or-true (has_missed entries)

any_passes : (p : Announcement → Bool) (xs : List Announcement) → list_any p xs ≡ is_any (filter p xs)
any_passes p [] = refl
any_passes p (x ∷ xs) =
    let cases : (b : Bool) → (b || list_any p xs) ≡ is_any (cond b (x ∷ filter p xs) (filter p xs)) =
    elim [ true ↦ refl | false ↦ any_passes p xs ] in
    cases (p x)

-- tests that agree on each element leave the same
filter-on : {X : Type 0} (p q : X → Bool) (xs : List X) → All (λ x. p x ≡ q x) xs → filter p xs ≡ filter q xs
filter-on p q [] agree = refl
filter-on p q (x ∷ xs) agree =
    let here : p x ≡ q x = agree 0 x (omega arith) in
    let rest : filter p xs ≡ filter q xs = filter-on p q xs (λ k d h. agree (suc k) d (omega arith)) in
    λ i. cond (here i) (x ∷ rest i) (rest i)

same_number : (m : ℕ) → (m == m) ≡ true
same_number m = grind (arith, nat_tests)

lower : (m n : ℕ) → m < n → (m == n) ≡ false
lower m n h = grind (arith, nat_tests)

higher : (m n : ℕ) → m < n → (n == m) ≡ false
higher m n h = grind (arith, nat_tests)

-- where the numbers rise, the numbers of those that pass a test are the numbers of no others
passed_by_number : (p : Announcement → Bool) (xs : List Announcement) → IsRising xs →
    filter (λ a. not (list_any (λ b. a.number == b.number) (filter p xs))) xs ≡ filter (λ a. not (p a)) xs
passed_by_number p [] rising = refl
passed_by_number p (x ∷ xs) rising =
    let later : All (λ b. x.number < b.number) xs = λ k d h. rising 0 (suc k) d (omega arith) (omega arith) in
    let rest : filter (λ a. not (list_any (λ b. a.number == b.number) (filter p xs))) xs ≡ filter (λ a. not (p a)) xs =
    passed_by_number p xs (λ i j d h k. rising (suc i) (suc j) d (omega arith) (omega arith)) in
    let others : filter (λ a. not (a.number == x.number || list_any (λ b. a.number == b.number) (filter p xs))) xs
    ≡ filter (λ a. not (list_any (λ b. a.number == b.number) (filter p xs))) xs =
    filter-on _ _ xs
    (λ k d h. ap (λ c. not (c || list_any (λ b. (slice_index_or xs k d).number == b.number) (filter p xs))) (higher x.number _ (later k d h))) in
    let none : list_any (λ b. x.number == b.number) (filter p xs) ≡ false =
    list_any_none _ (filter p xs) (All-filter p (λ b. (x.number == b.number) ≡ false) xs (λ k d h. lower x.number _ (later k d h))) in
    let cases : (c : Bool) → filter (λ a. not (list_any (λ b. a.number == b.number) (cond c (x ∷ filter p xs) (filter p xs)))) (x ∷ xs)
    ≡ cond (not c) (x ∷ filter (λ a. not (p a)) xs) (filter (λ a. not (p a)) xs) =
    elim [ true ↦ rw (same_number x.number) (others ∙ rest) | false ↦ rw none (ap (λ ys. x ∷ ys) rest) ] in
    cases (p x)

-- .. for the misses of all that pass a test
pub some_misses : (p : Announcement → Bool) (old new : List Announcement) (flag flag' : Bool) (entries : List LinkEntry) → IsRising old →
    record { left = old; has_missed = flag } ≡ known entries → new ≡ filter (λ a. not (p a)) old → flag' ≡ (flag || list_any p old) →
    record { left = new; has_missed = flag' } ≡ known (after_misses (filter p old) entries)
some_misses p old new flag flag' entries rising is kept flag_is =
    let o : old ≡ left entries = ap (λ (k : KnownLinks). k.left) is in
    let m : flag ≡ has_missed entries = ap (λ (k : KnownLinks). k.has_missed) is in
    let n : new ≡ left (after_misses (filter p old) entries) =
    kept ∙ sym (passed_by_number p old rising) ∙ ap (filter (λ a. not (list_any (λ b. a.number == b.number) (filter p old)))) o
    ∙ sym (left_after (filter p old) entries) in
    let f : flag' ≡ has_missed (after_misses (filter p old) entries) =
    flag_is ∙ (λ i. m i || any_passes p old i) ∙ sym (has_missed_after (filter p old) entries) in
    λ i. record { left = n i; has_missed = f i }
