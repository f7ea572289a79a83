-- What a spelling is made of is what is appended, part after part; a loop that hands elements on; how many bits there
-- are.
use Rattle.std.proofs.Common.{◌≡◌, ℕ, suc, ◌+◌, ◌<◌, ◌≤◌, ◌^◌, Bool, true, false, List, [], ◌∷◌, ◌++◌, Option, Some, None, length, drop, take, get_or, refl, sym, ap, subst, ◌∙◌, arith, append_assoc, drop-cons, length-append}
use Rattle.std.specs.Option.{option_map_or}
use Rattle.std.proofs.lemmas.List.{append-nil, drop_all}
use Rattle.bits.specs.Bits.{number, number_bits}
use Rattle.bits.specs.Layout.{Layout, done, unless, field, run, choice, kind, part, inner, measured, more, reported_as, then_}
use Rattle.bits.specs.Sums.{total}
use Rattle.bits.specs.Writing.{value, each_taken, size, appended}
use Rattle.bits.proofs.Numbers.{length-number_bits}
use Rattle.bits.proofs.Writes.{bits-number, number-lt}

-- ---- one part after another

-- a first part, and what follows it
pub glue : (front bits a b mid all : List Bool) → bits ≡ a ++ b → front ++ a ≡ mid → mid ++ b ≡ all → front ++ bits ≡ all
glue front bits a b mid all parts first others =
    ap (λ (t : List Bool). front ++ t) parts ∙ sym (append_assoc front a b) ∙ ap (λ (t : List Bool). t ++ b) first ∙ others

-- nothing more
pub glue_end : (front bits : List Bool) → bits ≡ [] → front ++ bits ≡ front
glue_end front bits none = ap (λ (t : List Bool). front ++ t) none ∙ append-nil front

-- a part of no bits
pub glue_none : (front bits a b all : List Bool) → bits ≡ a ++ b → a ≡ [] → front ++ b ≡ all → front ++ bits ≡ all
glue_none front bits a b all parts none others = glue front bits a b front all parts (glue_end front a none) others

-- the bits of a variable whose value has the number that was read
pub field_bits : (n v : ℕ) (bits : List Bool) → length bits ≡ n → v ≡ number bits → bits ≡ number_bits n v
field_bits n v bits long same = sym (bits-number bits) ∙ ap (λ (k : ℕ). number_bits k (number bits)) long ∙ ap (number_bits n) (sym same)

pub number_below : (n : ℕ) (bits : List Bool) → length bits ≡ n → number bits < 2 ^ n
number_below n bits long = subst (λ (k : ℕ). number bits < 2 ^ k) long (number-lt bits)

-- ---- a loop that hands elements on

pub step : {D S : Type 0} (w : D → S → S) (xs : List D) (i : ℕ) (x d : D) (old new all : S)
    → i < length xs → x ≡ get_or xs i d → new ≡ w x old → each_taken w (drop i xs) old ≡ all → each_taken w (drop (i + 1) xs) new ≡ all
unfolding each_taken
step w xs i x d old new all lt e put so_far =
    let next : i + 1 ≡ suc i = omega arith in
    let cut : drop i xs ≡ x ∷ drop (suc i) xs = drop-cons xs i d lt ∙ ap (λ (y : _). y ∷ drop (suc i) xs) (sym e) in
    let one : each_taken w (drop i xs) old ≡ each_taken w (drop (suc i) xs) (w x old) = rw cut refl in
    rw (next, put) (sym one ∙ so_far)

pub end : {D S : Type 0} (w : D → S → S) (xs : List D) (i : ℕ) (old all : S)
    → length xs ≤ i → each_taken w (drop i xs) old ≡ all → old ≡ all
unfolding each_taken
end w xs i old all le so_far =
    let none : drop i xs ≡ [] = drop_all i xs le in
    rw none at so_far

pub total_step : {D : Type 0} (w : D → ℕ) (xs : List D) (i : ℕ) (x d : D) → i < length xs → x ≡ get_or xs i d → total w (drop i xs) ≡ w x + total w (drop (i + 1) xs)
total_step w xs i x d lt e =
    let next : i + 1 ≡ suc i = omega arith in
    let cut : drop i xs ≡ x ∷ drop (suc i) xs = drop-cons xs i d lt ∙ ap (λ (y : _). y ∷ drop (suc i) xs) (sym e) in
    rw (next, cut) refl

-- ---- how many bits are appended

pub length-each : {D : Type 0} (w : D → List Bool → List Bool) (n : D → ℕ) (xs : List D) (front : List Bool) → ((x : D) (left : List Bool) → length (w x left) ≡ length left + n x)
    → length (each_taken w xs front) ≡ length front + total n xs
unfolding each_taken
length-each w n [] front one = omega arith
length-each w n (x ∷ xs) front one = omega (arith, length-each w n xs (w x front) one, one x front)

length-option : {D : Type 0} (w : D → List Bool) (n : D → ℕ) (o : Option D) (none : List Bool) (before start : ℕ) → length none ≡ start → ((x : D) → length (w x) ≡ before + n x) → before ≡ start
    → length (option_map_or w o none) ≡ before + option_map_or n o 0
length-option w n None none before start e one same = omega (arith, e)
length-option w n (Some x) none before start e one same = one x

pub length-appended : {F C A : Type 0} (m : Layout F C A) (c : C) (front : List Bool) → length (appended m c front) ≡ length front + size m c
length-appended (done x) c front = omega arith
length-appended (unless b f) c front = omega arith
length-appended (field name f g codes get) c front = length-append front (number_bits codes.width (codes.number (get c))) ∙ ap (λ (n : ℕ). length front + n) (length-number_bits codes.width (codes.number (get c)))
length-appended (run n f get) c front = length-append front (get c)
length-appended (choice true m n) c front = length-appended m c front
length-appended (choice false m n) c front = length-appended n c front
length-appended (kind make get m) c front = length-option (λ d. appended m d front) (λ d. size m d) (get c) front (length front) (length front) refl (λ d. length-appended m d front) refl
length-appended (part given m get) c front = length-option (λ d. appended m d front) (λ d. size m d) (get c) front (length front) (length front) refl (λ d. length-appended m d front) refl
length-appended (inner m get) c front = length-appended m (get c) front
length-appended (measured f before m) c front = length-appended m c front
length-appended (more n m before get) c front = length-each (λ x left. appended m x left) (λ x. size m x) (drop (length before) (get c)) front (λ x left. length-appended m x left)
length-appended (reported_as g m) c front = length-appended m c front
length-appended (then_ m f) c front =
    let one = length-appended m c front in
    let two = length-option (λ x. appended (f x) c (appended m c front)) (λ x. size (f x) c) (value m c) (appended m c front) (length (appended m c front)) _ refl (λ x. length-appended (f x) c (appended m c front)) refl in
    omega (arith, one, two)

-- the bits of the first element and of the others
pub first_and_others : {D : Type 0} (w : D → ℕ) (xs : List D) → total w (take 1 xs) + (5 + total w (drop (length (take 1 xs)) xs)) ≡ 5 + total w xs
first_and_others w [] = refl
first_and_others w (x ∷ xs) = omega arith
