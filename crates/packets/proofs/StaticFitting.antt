-- A static speed profile that counts its differences fits its layout.
use Rattle.std.proofs.Common.{◌≡◌, ℕ, ◌+◌, ◌-◌, zero-add, ◌<◌, ◌≤◌, ◌^◌, ltb, false, List, [], ◌∷◌, ◌++◌, length, take, drop, Option, Some, refl, sym, ap, subst, ◌∙◌, arith, append_assoc, length-append, length-take, length-drop}
use Rattle.std.specs.List.{AllByRecursion as Each}
use Rattle.std.specs.Prelude.{IfSome, option_and_then}
use Rattle.std.proofs.lemmas.Bool.{le-ltb}
use Rattle.std.proofs.lemmas.List.{append-nil, take-append-drop, take-take, take_at, take_all}
use Rattle.bits.specs.Fitting.{HasNumber, Fits}
use Rattle.bits.specs.Layout.{folded}
use Rattle.bits.specs.Writing.{value}
use Rattle.bits.proofs.Fitting.{each_take, each_drop}
use Rattle.vars.proofs.Numbers.{n_iter_has, l_packet_has}
use Rattle.packets.specs.Elements.{difference}
use Rattle.packets.specs.Layouts.{step_at, differences_to, static_step, static_speeds_description}
use Rattle.packets.specs.StaticSteps.{StepFits, SpeedsFit}
use Rattle.packets.specs.declared.static_speeds.Difference.{Difference}
use Rattle.packets.specs.declared.static_speeds.StaticSpeeds.{StaticSpeeds}
use Rattle.packets.specs.declared.static_speeds.StaticStep.{StaticStep}
use Rattle.packets.proofs.StaticSteps.{counted, own_of, counted_more, here, next, after_step, no_steps_yet}

abbrev DifferenceFits : Difference → Type 0
DifferenceFits d = Fits difference d × (value difference d ≡ Some d)

-- what is left of a profile p after s, which is its front
record Afterwards (p s : StaticSpeeds) (xs : List StaticStep) : Type 0 where
  direction : s.direction ≡ p.direction
  scale : s.scale ≡ p.scale
  steps : s.steps.items ≡ take (length s.steps.items) p.steps.items
  differences : s.differences.items ≡ take (counted (take (length s.steps.items) p.steps.items)) p.differences.items
  left : drop (length s.steps.items) p.steps.items ≡ xs
  fits : Each StepFits xs
  count : counted (take (length s.steps.items) p.steps.items) + counted xs ≡ length p.differences.items

one_step_fits : (p s : StaticSpeeds) (x : StaticStep) (xs : List StaticStep) → Afterwards p s (x ∷ xs) → length p.differences.items ≤ 70 → Each DifferenceFits p.differences.items → Fits (static_step s) p
unfolding static_step
one_step_fits p s x xs b few each =
    let i : ℕ = length s.steps.items in
    let n : ℕ = counted (take i p.steps.items) in
    let there : step_at i p ≡ x = here i p.steps.items x xs b.left in
    let own_count : (step_at i p).differences ≡ x.differences = ap (λ (y : StaticStep). y.differences) there in
    let total_is : counted (x ∷ xs) ≡ x.differences + counted xs = refl in
    let enough : n + x.differences ≤ length p.differences.items = omega (arith, b.count, total_is) in
    let long : length s.differences.items ≡ n = ap length b.differences ∙ omega (arith, length-take n p.differences.items, enough) in
    let all : differences_to i p ≡ take (n + x.differences) p.differences.items = ap (λ (k : ℕ). take k p.differences.items) (counted_more i p.steps.items x xs b.left) in
    let own : drop (length s.differences.items) (differences_to i p) ≡ take x.differences (drop n p.differences.items) =
    ap (λ (ds : List Difference). drop (length ds) (differences_to i p)) b.differences ∙ ap (drop (length (take n p.differences.items))) all ∙ own_of n x.differences p.differences.items in
    let front : take (length s.differences.items) (differences_to i p) ≡ s.differences.items =
    ap (λ (k : ℕ). take k (differences_to i p)) long ∙ ap (take n) all ∙ take-take n (n + x.differences) p.differences.items (omega arith) ∙ sym b.differences in
    let count : length (drop (length s.differences.items) (differences_to i p)) ≡ (step_at i p).differences =
    ap length own ∙ omega (arith, length-take x.differences (drop n p.differences.items), length-drop n p.differences.items, enough, own_count) in
    let fits : StepFits (step_at i p) = subst StepFits (sym there) b.fits.0 in
    let space : ltb 70 (length s.differences.items + (step_at i p).differences) ≡ false = le-ltb 70 (length s.differences.items + (step_at i p).differences) (omega (arith, long, own_count, enough, few)) in
    let each_own : Each DifferenceFits (drop (length s.differences.items) (differences_to i p)) =
    subst (λ (ds : List Difference). Each DifferenceFits ds) (sym own) (each_take DifferenceFits x.differences (drop n p.differences.items) (each_drop DifferenceFits n p.differences.items each)) in
    (fits.0, (fits.1, (fits.2, (fits.3, (space, ((front, count, each_own), tt))))))

-- a step further
after_next : (p s : StaticSpeeds) (x : StaticStep) (xs : List StaticStep) → Afterwards p s (x ∷ xs) → Afterwards p (after_step p s) xs
after_next p s x xs b =
    let i : ℕ = length s.steps.items in
    let long : length (after_step p s).steps.items ≡ i + 1 = length-append s.steps.items _ in
    let more : counted (take (i + 1) p.steps.items) ≡ counted (take i p.steps.items) + x.differences = counted_more i p.steps.items x xs b.left in
    let whole : p.steps.items ≡ (take i p.steps.items ++ x ∷ []) ++ xs =
    sym (take-append-drop i p.steps.items) ∙ ap (λ (t : List StaticStep). take i p.steps.items ++ t) b.left ∙ sym (append_assoc (take i p.steps.items) (x ∷ []) xs) in
    let front : length (take i p.steps.items ++ x ∷ []) ≡ i + 1 = length-append (take i p.steps.items) (x ∷ []) ∙ ap (λ (t : List StaticStep). length t + 1) (sym b.steps) in
    let cut : take (i + 1) p.steps.items ≡ take i p.steps.items ++ x ∷ [] = ap (take (i + 1)) whole ∙ take_at (take i p.steps.items ++ x ∷ []) xs (i + 1) front in
    record {
      direction = b.direction;
      scale = b.scale;
      steps =
          ap (λ (t : List StaticStep). t ++ step_at i p ∷ []) b.steps ∙ ap (λ (y : StaticStep). take i p.steps.items ++ y ∷ []) (here i p.steps.items x xs b.left) ∙ sym cut
          ∙ ap (λ (k : ℕ). take k p.steps.items) (sym long);
      differences = ap (λ (k : ℕ). take (counted (take k p.steps.items)) p.differences.items) (sym long);
      left = ap (λ (k : ℕ). drop k p.steps.items) long ∙ next i p.steps.items x xs b.left;
      fits = b.fits.1;
      count = ap (λ (k : ℕ). counted (take k p.steps.items) + counted xs) long ∙ omega (arith, more, b.count);
    }

-- nothing is left
whole_profile : (p s : StaticSpeeds) → Afterwards p s [] → s ≡ p
whole_profile p s b =
    let steps : s.steps.items ≡ p.steps.items =
    b.steps ∙ sym (append-nil (take (length s.steps.items) p.steps.items)) ∙ ap (λ (t : List StaticStep). take (length s.steps.items) p.steps.items ++ t) (sym b.left)
    ∙ take-append-drop (length s.steps.items) p.steps.items in
    let differences : s.differences.items ≡ p.differences.items = b.differences ∙ take_all (counted (take (length s.steps.items) p.steps.items)) p.differences.items (omega (arith, b.count)) in
    (λ i. record { direction = b.direction i; scale = b.scale i; steps = record { items = steps i }; differences = record { items = differences i } })

steps_fit : (p : StaticSpeeds) (xs : List StaticStep) (s : StaticSpeeds) → Afterwards p s xs → length p.differences.items ≤ 70 → Each DifferenceFits p.differences.items
    → Fits (folded static_step (length xs) s) p × (value (folded static_step (length xs) s) p ≡ Some p)
unfolding folded static_step
steps_fit p [] s b few each = (tt, ap Some (whole_profile p s b))
steps_fit p (x ∷ xs) s b few each =
    let others = steps_fit p xs (after_step p s) (after_next p s x xs b) few each in
    ((one_step_fits p s x xs b few each, others.0), others.1)

first_of : (xs : List StaticStep) → 0 < length xs → (x : StaticStep) × (ys : List StaticStep) × (xs ≡ x ∷ ys)
first_of [] some = absurd (omega arith)
first_of (x ∷ xs) some = (x, xs, refl)

pub speeds_fit : (p : StaticSpeeds) (t : ℕ) → t < 2 ^ 13 → SpeedsFit p → Fits (static_speeds_description (λ _. t)) p × (value (static_speeds_description (λ _. t)) p ≡ Some (t, p))
unfolding static_speeds_description folded static_step
speeds_fit p t small h =
    let split = first_of p.steps.items h.2 in
    let start : StaticSpeeds = no_steps_yet p in
    let b : Afterwards p start (split.0 ∷ split.1) = record {
      direction = refl;
      scale = refl;
      steps = refl;
      differences = refl;
      left = split.2;
      fits = subst (λ (xs : List StaticStep). Each StepFits xs) split.2 h.5;
      count = zero-add (counted (split.0 ∷ split.1)) ∙ ap counted (sym split.2) ∙ h.7;
    } in
    let f = steps_fit p split.1 (after_step p start) (after_next p start split.0 split.1 b) h.4 h.6 in
    let others : length split.1 ≡ length p.steps.items - 1 = omega (arith, ap length split.2) in
    let g : Fits (folded static_step (length p.steps.items - 1) (after_step p start)) p × (value (folded static_step (length p.steps.items - 1) (after_step p start)) p ≡ Some p) =
    subst (λ (n : ℕ). Fits (folded static_step n (after_step p start)) p × (value (folded static_step n (after_step p start)) p ≡ Some p)) others f in
    let counted_small : HasNumber _ (length p.steps.items - 1) = n_iter_has (length p.steps.items - 1) (omega (arith, h.3)) in (
      ((h.0, (l_packet_has t small, (h.1, tt))), (one_step_fits p start split.0 split.1 b h.4 h.6, (counted_small, (g.0, subst (λ (o : Option StaticSpeeds). IfSome o (λ all. Unit {0})) (sym g.1) tt)))),
      ap (λ (o : Option StaticSpeeds). option_and_then (λ all. Some (t, all)) o) g.1,
    )
