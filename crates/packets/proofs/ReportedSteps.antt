-- What is read of a static speed profile goes on from what was read before, and is found in the whole again.
use Rattle.std.proofs.Common.{◌≡◌, ◌∙◌, ap, refl, sym, arith, zero, suc, length, List, ◌∷◌, ◌+◌, ◌≤◌, take, ◌++◌, ℕ, [], length-append, append_assoc}
use Rattle.std.specs.List.{AllByRecursion as Each}
use Rattle.std.specs.Prelude.{slice_index_or, Some}
use Rattle.std.proofs.lemmas.Bool.{ltb-false}
use Rattle.std.proofs.lemmas.List.{take_at, append-nil}
use Rattle.bits.specs.Fitting.{Fits}
use Rattle.bits.specs.Layout.{folded}
use Rattle.bits.specs.Writing.{value}
use Rattle.bits.proofs.Found.{Found}
use Rattle.bits.proofs.Fitting.{each_append}
use Rattle.vars.proofs.Numbers.{plain_back, q_front_back, v_static_back}
use Rattle.packets.specs.Elements.{difference}
use Rattle.packets.specs.Layouts.{no_step, step_at, differences_to, static_step}
use Rattle.packets.specs.declared.static_speeds.Difference.{Difference}
use Rattle.packets.specs.declared.static_speeds.StaticSpeeds.{StaticSpeeds}
use Rattle.packets.specs.declared.static_speeds.StaticStep.{StaticStep}
use Rattle.packets.specs.StaticSteps.{StepFits}
use Rattle.packets.proofs.StaticSteps.{counted}
use Rattle.packets.proofs.ReportedElements.{back, found-difference}

pub record Ahead (x c : StaticSpeeds) : Type 0 where
  pub steps : List StaticStep
  pub own : List Difference
  pub direction : c.direction ≡ x.direction
  pub scale : c.scale ≡ x.scale
  pub all_steps : c.steps.items ≡ x.steps.items ++ steps
  pub all_differences : c.differences.items ≡ x.differences.items ++ own

pub itself : (x : StaticSpeeds) → Ahead x x
itself x = record { steps = []; own = []; direction = refl; scale = refl; all_steps = sym (append-nil x.steps.items); all_differences = sym (append-nil x.differences.items) }

further : (x y c : StaticSpeeds) → Ahead x y → Ahead y c → Ahead x c
further x y c a b = record {
  steps = a.steps ++ b.steps;
  own = a.own ++ b.own;
  direction = b.direction ∙ a.direction;
  scale = b.scale ∙ a.scale;
  all_steps = b.all_steps ∙ ap (λ (t : List StaticStep). t ++ b.steps) a.all_steps ∙ append_assoc x.steps.items a.steps b.steps;
  all_differences = b.all_differences ∙ ap (λ (t : List Difference). t ++ b.own) a.all_differences ∙ append_assoc x.differences.items a.own b.own;
}

-- the steps count the differences that there are
abbrev pub Even : StaticSpeeds → Type 0
Even s = counted s.steps.items ≡ length s.differences.items

counted_one : (xs : List StaticStep) (x : StaticStep) → counted (xs ++ x ∷ []) ≡ counted xs + x.differences
counted_one [] x = omega arith
counted_one (y ∷ ys) x = omega (arith, counted_one ys x)

index_at : (xs : List StaticStep) (x : StaticStep) (more : List StaticStep) → slice_index_or ((xs ++ x ∷ []) ++ more) (length xs) no_step ≡ x
index_at [] x more = refl
index_at (y ∷ ys) x more = index_at ys x more

step_there : (s c : StaticSpeeds) (x : StaticStep) (more : List StaticStep) → c.steps.items ≡ (s.steps.items ++ x ∷ []) ++ more → step_at (length s.steps.items) c ≡ x
step_there s c x more e = ap (λ (t : List StaticStep). slice_index_or t (length s.steps.items) no_step) e ∙ index_at s.steps.items x more

own_there : (s c : StaticSpeeds) (x : StaticStep) (own : List Difference) (more : List StaticStep) (others : List Difference) → Even s → length own ≡ x.differences
    → c.steps.items ≡ (s.steps.items ++ x ∷ []) ++ more → c.differences.items ≡ (s.differences.items ++ own) ++ others → differences_to (length s.steps.items) c ≡ s.differences.items ++ own
own_there s c x own more others even long steps differences =
    let cut : take (length s.steps.items + 1) c.steps.items ≡ s.steps.items ++ x ∷ [] =
    ap (take (length s.steps.items + 1)) steps ∙ take_at (s.steps.items ++ x ∷ []) more (length s.steps.items + 1) (length-append s.steps.items (x ∷ [])) in
    let count : counted (s.steps.items ++ x ∷ []) ≡ length (s.differences.items ++ own) = omega (arith, counted_one s.steps.items x, even, long, length-append s.differences.items own) in
    ap (λ (t : List StaticStep). take (counted t) c.differences.items) cut ∙ ap (λ (n : ℕ). take n c.differences.items) count ∙ ap (take (length (s.differences.items ++ own))) differences
    ∙ take_at (s.differences.items ++ own) others (length (s.differences.items ++ own)) refl

abbrev pub DifferenceFits : Difference → Type 0
DifferenceFits d = Fits difference d × (value difference d ≡ Some d)

-- what is read of a profile is as its layout wants it
pub record Good (s : StaticSpeeds) : Type 0 where
  pub even : Even s
  pub few : length s.differences.items ≤ 70
  pub steps : Each StepFits s.steps.items
  pub own : Each DifferenceFits s.differences.items

-- a step more
pub record Grown (s x : StaticSpeeds) (Q : StaticSpeeds → Type 0) : Type 0 where
  pub ahead : Ahead s x
  pub count : length x.steps.items ≡ length s.steps.items + 1
  pub good : Good x
  pub holds : (c : StaticSpeeds) → Ahead x c → Q c

pub found_step : (s : StaticSpeeds) → Good s → (k : StaticSpeeds → (StaticSpeeds → Type 0) → Type 0) → ((x : StaticSpeeds) (Q : StaticSpeeds → Type 0) → Grown s x Q → k x Q) → Found (static_step s) k
unfolding static_step
found_step s good k h = (
  back (plain_back 15),
  λ d has_distance. (
    back v_static_back,
    λ v has_speed. (
      back q_front_back,
      λ delay has_delay. (
        back (plain_back 5),
        λ count has_count. λ space. (
          found-difference,
          λ own long fits.
              let step : StaticStep = record { distance = d; speed = v; delay = delay; differences = count } in
              let few : length s.differences.items + count ≤ 70 = ltb-false 70 (length s.differences.items + count) space in
              h _ _ (record {
                ahead = record { steps = step ∷ []; own = own; direction = refl; scale = refl; all_steps = refl; all_differences = refl };
                count = length-append s.steps.items (step ∷ []);
                good = record {
                  even = omega (arith, counted_one s.steps.items step, good.even, long, length-append s.differences.items own);
                  few = omega (arith, few, long, length-append s.differences.items own);
                  steps = each_append StepFits s.steps.items (step ∷ []) good.steps ((has_distance, has_speed, has_delay, has_count), tt);
                  own = each_append DifferenceFits s.differences.items own good.own fits;
                };
                holds = λ c a.
                    let there = step_there s c step a.steps a.all_steps in (
                      ap (λ (y : StaticStep). y.distance) there,
                      (
                        ap (λ (y : StaticStep). y.speed) there,
                        (
                          ap (λ (y : StaticStep). y.delay) there,
                          (
                            ap (λ (y : StaticStep). y.differences) there,
                            (
                              tt,
                              (own_there s c step own a.steps a.own good.even long a.all_steps a.all_differences, tt),
                            ),
                          ),
                        ),
                      ),
                    );
              }),
        ),
      ),
    ),
  ),
)

-- steps more
pub record GrownBy (n : ℕ) (s x : StaticSpeeds) (Q : StaticSpeeds → Type 0) : Type 0 where
  pub ahead : Ahead s x
  pub count : length x.steps.items ≡ length s.steps.items + n
  pub good : Good x
  pub holds : (c : StaticSpeeds) → Ahead x c → Q c

pub found_steps : (n : ℕ) (s : StaticSpeeds) → Good s → (k : StaticSpeeds → (StaticSpeeds → Type 0) → Type 0) → ((x : StaticSpeeds) (Q : StaticSpeeds → Type 0) → GrownBy n s x Q → k x Q) → Found (folded static_step n s) k
unfolding folded
found_steps zero s good k h = h s _ (record { ahead = itself s; count = omega arith; good = good; holds = λ c a. tt })
found_steps (suc n) s good k h =
    found_step s good _ (λ x P one. found_steps n x one.good _ (λ y Q more. h y _ (record {
      ahead = further s x y one.ahead more.ahead;
      count = omega (arith, one.count, more.count);
      good = more.good;
      holds = λ c a. (one.holds c (further x y c more.ahead a), more.holds c a);
    })))
