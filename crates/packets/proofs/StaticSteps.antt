-- A static speed profile step by step.
use Rattle.std.proofs.Common.{◌≡◌, ℕ, zero, suc, ◌+◌, ◌-◌, ◌*◌, ◌<◌, ◌≤◌, Bool, List, [], ◌∷◌, ◌++◌, length, take, drop, get_or, min, max, refl, sym, ap, ◌∙◌, arith, drop-cons, length-append, length-take, length-drop}
use Rattle.std.specs.Prelude.{slice_index_or, Option, Some, None}
use Rattle.std.specs.Option.{option_map_or}
use Rattle.std.proofs.lemmas.List.{drop_all, drop-drop}
use Rattle.bits.specs.Bits.{number_bits}
use Rattle.bits.specs.Layout.{folded}
use Rattle.bits.specs.Sums.{total}
use Rattle.bits.specs.Writing.{ListedField, named, value, taken, size, with_bits, appended}
use Rattle.bits.specs.declared.name.VariableName.TheVariants as names
use Rattle.bits.proofs.Numbers.{length-number_bits}
use Rattle.bits.proofs.WritingLaws.{length-appended, length-each}
use Rattle.vars.specs.Values.{direction_number, scale_number, static_number, delay_number}
use Rattle.packets.specs.Elements.{difference}
use Rattle.packets.specs.Layouts.{no_step, step_at, differences_to, static_step, static_speeds_description}
use Rattle.packets.specs.Parts.{head_taken}
use Rattle.packets.specs.StaticSteps.{step_taken, steps_taken, step_size, steps_size, profile_taken, profile_size}
use Rattle.packets.specs.declared.static_speeds.Difference.{Difference}
use Rattle.packets.specs.declared.static_speeds.StaticSpeeds.{StaticSpeeds}
use Rattle.packets.specs.declared.static_speeds.StaticStep.{StaticStep}

-- the differences that steps count
abbrev pub counted : List StaticStep → ℕ
counted xs = total (λ (s : StaticStep). s.differences) xs

-- ---- the differences of one more step

abbrev no_difference : List Difference
no_difference = []

take_none : (n : ℕ) → take n no_difference ≡ no_difference
take_none zero = refl
take_none (suc n) = refl

-- the own ones are those after all before
pub own_of : (n k : ℕ) (ds : List Difference) → drop (length (take n ds)) (take (n + k) ds) ≡ take k (drop n ds)
own_of zero k ds = let e : 0 + k ≡ k = omega arith in rw e refl
own_of (suc n) k [] = take_none (suc n + k) ∙ sym (take_none k)
own_of (suc n) k (d ∷ ds) = let e : suc n + k ≡ suc (n + k) = omega arith in rw e (own_of n k ds)

pub counted_more : (i : ℕ) (steps : List StaticStep) (x : StaticStep) (xs : List StaticStep) → drop i steps ≡ x ∷ xs → counted (take (i + 1) steps) ≡ counted (take i steps) + x.differences
counted_more zero [] x xs e = absurd cc
counted_more zero (y ∷ ys) x xs e = ap (λ (t : List StaticStep). counted (take 1 t)) e ∙ omega arith
counted_more (suc i) [] x xs e = absurd cc
counted_more (suc i) (y ∷ ys) x xs e = let k : suc i + 1 ≡ suc (i + 1) = omega arith in rw k (omega (arith, counted_more i ys x xs e))

pub here : (i : ℕ) (steps : List StaticStep) (x : StaticStep) (xs : List StaticStep) → drop i steps ≡ x ∷ xs → slice_index_or steps i no_step ≡ x
here zero [] x xs e = absurd cc
here zero (y ∷ ys) x xs e = cc
here (suc i) [] x xs e = absurd cc
here (suc i) (y ∷ ys) x xs e = here i ys x xs e

pub next : (i : ℕ) (steps : List StaticStep) (x : StaticStep) (xs : List StaticStep) → drop i steps ≡ x ∷ xs → drop (i + 1) steps ≡ xs
next zero [] x xs e = absurd cc
next zero (y ∷ ys) x xs e = cc
next (suc i) [] x xs e = absurd cc
next (suc i) (y ∷ ys) x xs e = let k : suc i + 1 ≡ suc (i + 1) = omega arith in rw k (next i ys x xs e)

-- ---- what takes a profile takes its steps

-- the profile that is read of p after a step more
abbrev pub after_step : StaticSpeeds → StaticSpeeds → StaticSpeeds
after_step p s = record {
  direction = s.direction;
  scale = s.scale;
  steps = record { items = s.steps.items ++ record { distance = (step_at (length s.steps.items) p).distance; speed = (step_at (length s.steps.items) p).speed; delay = (step_at (length s.steps.items) p).delay; differences = (step_at (length s.steps.items) p).differences } ∷ [] };
  differences = record { items = differences_to (length s.steps.items) p };
}

one_step : {S : Type 0} (t : S → ListedField → S) (p s : StaticSpeeds) (left : S)
    → taken t (static_step s) p left ≡ step_taken t (step_at (length s.steps.items) p) (drop (length s.differences.items) (differences_to (length s.steps.items) p)) left
unfolding static_step
one_step t p s left = refl

folded_one : {S : Type 0} (t : S → ListedField → S) (p s : StaticSpeeds) (n : ℕ) (left : S)
    → taken t (folded static_step (suc n) s) p left ≡ taken t (folded static_step n (after_step p s)) p (taken t (static_step s) p left)
unfolding folded static_step
folded_one t p s n left = refl

folded_none : {S : Type 0} (t : S → ListedField → S) (p s : StaticSpeeds) (left : S) → taken t (folded static_step 0 s) p left ≡ left
unfolding folded
folded_none t p s left = refl

-- a step more, as the list says it
step_more : {S : Type 0} (t : S → ListedField → S) (p s : StaticSpeeds) (x : StaticStep) (xs : List StaticStep) (left : S)
    → drop (length s.steps.items) p.steps.items ≡ x ∷ xs → s.differences.items ≡ take (counted (take (length s.steps.items) p.steps.items)) p.differences.items
    → taken t (static_step s) p left ≡ step_taken t x (take x.differences (drop (counted (take (length s.steps.items) p.steps.items)) p.differences.items)) left
step_more t p s x xs left e following =
    let own : drop (length s.differences.items) (differences_to (length s.steps.items) p) ≡ take x.differences (drop (counted (take (length s.steps.items) p.steps.items)) p.differences.items) =
    ap (λ (ds : List Difference). drop (length ds) (differences_to (length s.steps.items) p)) following
    ∙ ap (λ (n : ℕ). drop (length (take (counted (take (length s.steps.items) p.steps.items)) p.differences.items)) (take n p.differences.items)) (counted_more (length s.steps.items) p.steps.items x xs e)
    ∙ own_of (counted (take (length s.steps.items) p.steps.items)) x.differences p.differences.items in
    one_step t p s left ∙ ap (λ (ds : List Difference). step_taken t (step_at (length s.steps.items) p) ds left) own
    ∙ ap (λ (y : StaticStep). step_taken t y (take x.differences (drop (counted (take (length s.steps.items) p.steps.items)) p.differences.items)) left) (here (length s.steps.items) p.steps.items x xs e)

steps_folded : {S : Type 0} (t : S → ListedField → S) (p : StaticSpeeds) (xs : List StaticStep) (s : StaticSpeeds) (left : S)
    → drop (length s.steps.items) p.steps.items ≡ xs → s.differences.items ≡ take (counted (take (length s.steps.items) p.steps.items)) p.differences.items
    → taken t (folded static_step (length xs) s) p left ≡ steps_taken t xs (drop (counted (take (length s.steps.items) p.steps.items)) p.differences.items) left
unfolding steps_taken
steps_folded t p [] s left e following = folded_none t p s left
steps_folded t p (x ∷ xs) s left e following =
    let i : ℕ = length s.steps.items in
    let n : ℕ = counted (take i p.steps.items) in
    let long : length (after_step p s).steps.items ≡ i + 1 = length-append s.steps.items _ in
    let more : counted (take (i + 1) p.steps.items) ≡ n + x.differences = counted_more i p.steps.items x xs e in
    let others = steps_folded t p xs (after_step p s) (taken t (static_step s) p left)
    (ap (λ (k : ℕ). drop k p.steps.items) long ∙ next i p.steps.items x xs e)
    (ap (λ (k : ℕ). take (counted (take k p.steps.items)) p.differences.items) (sym long)) in
    let cut : drop (counted (take (length (after_step p s).steps.items) p.steps.items)) p.differences.items ≡ drop x.differences (drop n p.differences.items) =
    ap (λ (k : ℕ). drop (counted (take k p.steps.items)) p.differences.items) long ∙ ap (λ (k : ℕ). drop k p.differences.items) more ∙ sym (drop-drop x.differences n p.differences.items) in
    folded_one t p s (length xs) left ∙ others
    ∙ ap (λ (ds : List Difference). steps_taken t xs ds (taken t (static_step s) p left)) cut
    ∙ ap (λ (y : _). steps_taken t xs (drop x.differences (drop n p.differences.items)) y) (step_more t p s x xs left e following)

-- ---- the whole profile

abbrev pub no_steps_yet : StaticSpeeds → StaticSpeeds
no_steps_yet p = record { direction = p.direction; scale = p.scale; steps = record { items = [] }; differences = record { items = [] } }

-- what is reported last takes no field
all_reported : {A S : Type 0} (o : Option A) (s : S) → option_map_or (λ x. s) o s ≡ s
all_reported None s = refl
all_reported (Some x) s = refl

-- the first step and the other steps
first_taken : {S : Type 0} (t : S → ListedField → S) (p : StaticSpeeds) (reported : ℕ) (s : S)
    → taken t (static_speeds_description (λ _. reported)) p s
    ≡ taken t (folded static_step (length p.steps.items - 1) (after_step p (no_steps_yet p))) p (t (taken t (static_step (no_steps_yet p)) p (head_taken t p.direction reported p.scale s)) (named names.NIter 5 (length p.steps.items - 1)))
unfolding static_speeds_description static_step
first_taken t p reported s = all_reported (value (folded static_step (length p.steps.items - 1) (after_step p (no_steps_yet p))) p) _

counted_first : (steps : List StaticStep) → counted (take 1 steps) ≡ (slice_index_or steps 0 no_step).differences
counted_first [] = refl
counted_first (x ∷ xs) = omega arith

pub speeds_taken : {S : Type 0} (t : S → ListedField → S) (p : StaticSpeeds) (reported : ℕ) (s : S)
    → taken t (static_speeds_description (λ _. reported)) p s ≡ profile_taken t p.steps.items p.differences.items (head_taken t p.direction reported p.scale s)
speeds_taken t p reported s =
    let start : _ = head_taken t p.direction reported p.scale s in
    let count : counted (take 1 p.steps.items) ≡ (step_at 0 p).differences = counted_first p.steps.items in
    let one : taken t (static_step (no_steps_yet p)) p start ≡ step_taken t (step_at 0 p) (take (step_at 0 p).differences p.differences.items) start =
    one_step t p (no_steps_yet p) start ∙ ap (λ (n : ℕ). step_taken t (step_at 0 p) (take n p.differences.items) start) count in
    let last : _ = t (step_taken t (step_at 0 p) (take (step_at 0 p).differences p.differences.items) start) (named names.NIter 5 (length p.steps.items - 1)) in
    first_taken t p reported s
    ∙ ap (λ (y : _). taken t (folded static_step (length p.steps.items - 1) (after_step p (no_steps_yet p))) p (t y (named names.NIter 5 (length p.steps.items - 1)))) one
    ∙ ap (λ (n : ℕ). taken t (folded static_step n (after_step p (no_steps_yet p))) p last) (sym (length-drop 1 p.steps.items))
    ∙ steps_folded t p (drop 1 p.steps.items) (after_step p (no_steps_yet p)) last refl refl
    ∙ ap (λ (n : ℕ). steps_taken t (drop 1 p.steps.items) (drop n p.differences.items) last) count

-- ---- its bits

own_size : (own : List Difference) → total (λ d. size difference d) own ≡ 11 * length own
unfolding difference
own_size [] = omega arith
own_size (d ∷ ds) = omega (arith, own_size ds)

pub steps_bits : (xs : List StaticStep) (ds : List Difference) → steps_size xs ds ≡ 28 * length xs + 11 * min (counted xs) (length ds)
unfolding steps_size
steps_bits [] ds = omega arith
steps_bits (x ∷ xs) ds =
    omega (arith, own_size (take x.differences ds), length-take x.differences ds, steps_bits xs (drop x.differences ds), length-drop x.differences ds)

long_step : (step : StaticStep) (own : List Difference) (front : List Bool) → length (step_taken with_bits step own front) ≡ length front + step_size own
long_step step own front =
    let a : List Bool = front ++ number_bits 15 step.distance in
    let b : List Bool = a ++ number_bits 7 (static_number step.speed) in
    let c : List Bool = b ++ number_bits 1 (delay_number step.delay) in
    let d : List Bool = c ++ number_bits 5 step.differences in
    omega (
      arith,
      length-each (λ x left. appended difference x left) (λ x. size difference x) own d (λ x left. length-appended difference x left),
      length-append front (number_bits 15 step.distance),
      length-number_bits 15 step.distance,
      length-append a (number_bits 7 (static_number step.speed)),
      length-number_bits 7 (static_number step.speed),
      length-append b (number_bits 1 (delay_number step.delay)),
      length-number_bits 1 (delay_number step.delay),
      length-append c (number_bits 5 step.differences),
      length-number_bits 5 step.differences,
    )

long_steps : (xs : List StaticStep) (ds : List Difference) (front : List Bool) → length (steps_taken with_bits xs ds front) ≡ length front + steps_size xs ds
unfolding steps_taken steps_size
long_steps [] ds front = omega arith
long_steps (x ∷ xs) ds front =
    omega (arith, long_steps xs (drop x.differences ds) (step_taken with_bits x (take x.differences ds) front), long_step x (take x.differences ds) front)

pub speeds_size : (p : StaticSpeeds) → size (static_speeds_description (λ _. 0)) p ≡ 17 + profile_size p.steps.items p.differences.items
speeds_size p =
    let start : List Bool = head_taken with_bits p.direction 0 p.scale [] in
    let first : List Bool = step_taken with_bits (step_at 0 p) (take (step_at 0 p).differences p.differences.items) start in
    let n : ℕ = length p.steps.items - 1 in
    omega (
      arith,
      length-appended (static_speeds_description (λ _. 0)) p [],
      ap length (speeds_taken with_bits p 0 []),
      long_steps (drop 1 p.steps.items) (drop (step_at 0 p).differences p.differences.items) (first ++ number_bits 5 n),
      length-append first (number_bits 5 n),
      length-number_bits 5 n,
      long_step (step_at 0 p) (take (step_at 0 p).differences p.differences.items) start,
      length-append (number_bits 2 (direction_number p.direction)) (number_bits 13 0),
      length-append (number_bits 2 (direction_number p.direction) ++ number_bits 13 0) (number_bits 2 (scale_number p.scale)),
      length-number_bits 2 (direction_number p.direction),
      length-number_bits 13 0,
      length-number_bits 2 (scale_number p.scale),
    )

profile_bits : (steps : List StaticStep) (ds : List Difference) → profile_size steps ds ≡ 5 + 28 * max 1 (length steps) + 11 * min (counted steps) (length ds)
unfolding steps_size
profile_bits [] ds = omega arith
profile_bits (x ∷ xs) ds = omega (arith, own_size (take x.differences ds), length-take x.differences ds, steps_bits xs (drop x.differences ds), length-drop x.differences ds)

pub speeds_bits : (p : StaticSpeeds) → size (static_speeds_description (λ _. 0)) p ≡ 22 + 28 * max 1 (length p.steps.items) + 11 * min (counted p.steps.items) (length p.differences.items)
speeds_bits p = omega (arith, speeds_size p, profile_bits p.steps.items p.differences.items)

-- ---- a loop over steps

cut_at : (xs : List StaticStep) (i : ℕ) (x d : StaticStep) → i < length xs → x ≡ get_or xs i d → drop i xs ≡ x ∷ drop (i + 1) xs
cut_at xs i x d lt e =
    let k : suc i ≡ i + 1 = omega arith in
    drop-cons xs i d lt ∙ ap (λ (y : StaticStep). y ∷ drop (suc i) xs) (sym e) ∙ ap (λ (n : ℕ). x ∷ drop n xs) k

pub steps_more : {S : Type 0} (t : S → ListedField → S) (xs : List StaticStep) (i : ℕ) (x d : StaticStep) (left own others : List Difference) (old new all : S)
    → i < length xs → x ≡ get_or xs i d → own ≡ take x.differences left → others ≡ drop x.differences left → new ≡ step_taken t x own old
    → steps_taken t (drop i xs) left old ≡ all → steps_taken t (drop (i + 1) xs) others new ≡ all
unfolding steps_taken
steps_more t xs i x d left own others old new all lt e its rest put so_far =
    let one : steps_taken t (drop i xs) left old ≡ steps_taken t (drop (i + 1) xs) (drop x.differences left) (step_taken t x (take x.differences left) old) =
    ap (λ (ys : List StaticStep). steps_taken t ys left old) (cut_at xs i x d lt e) in
    rw (put, its, rest) (sym one ∙ so_far)

pub steps_end : {S : Type 0} (t : S → ListedField → S) (xs : List StaticStep) (i : ℕ) (left : List Difference) (old all : S) → length xs ≤ i → steps_taken t (drop i xs) left old ≡ all → old ≡ all
unfolding steps_taken
steps_end t xs i left old all le so_far =
    let none : drop i xs ≡ [] = drop_all i xs le in
    rw none at so_far

pub size_more : (xs : List StaticStep) (i : ℕ) (x d : StaticStep) (left own others : List Difference) → i < length xs → x ≡ get_or xs i d → own ≡ take x.differences left → others ≡ drop x.differences left
    → steps_size (drop i xs) left ≡ step_size own + steps_size (drop (i + 1) xs) others
unfolding steps_size
size_more xs i x d left own others lt e its rest = rw (cut_at xs i x d lt e, its, rest) refl
