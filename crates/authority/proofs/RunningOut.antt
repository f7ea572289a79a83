-- What it says that a section has run out, and that a timer started.
use Rattle.std.proofs.Common.{◌≡◌, ◌≢◌, ℕ, ◌*◌, ◌+◌, ◌<◌, ◌≤◌, ℤ, ◌<ℤ◌, ◌≤ℤ◌, List, [], ◌∷◌, ◌++◌, Bool, true, false, cond, refl, ap, sym, subst, arith, ◌∙◌, inl, inr}
use Rattle.std.specs.Prelude.{not, ◌↔◌, ◌&&◌, if◌then◌else◌, Option, Some, None}
use Rattle.std.specs.Option.{option_or}
use Rattle.std.proofs.lemmas.Int.{ints}
use Rattle.std.proofs.lemmas.Bool.{and_parts, and_from, or_parts, not-true, not_from_false}
use Rattle.std.proofs.lemmas.Bool.Decides.{nat_tests}
use Rattle.std.proofs.Math.Bool.{and-false}
use Rattle.authority.specs.declared.timers.TimedSection.{TimedSection}
use Rattle.authority.specs.Timers.{has_run_out}
use Rattle.authority.specs.Entries.{Sight}
use Rattle.authority.specs.Authority.{reaches, was_stopped, section_has_run_out, first_reached}
use Rattle.authority.specs.Laws.{IsAmong, HasRunOut, StartedAt}

-- ---- what "has run out" says

run_over : (time start now : ℕ) → has_run_out time start now ≡ true → (time ≢ 1023) × (start + 1000 * time ≤ now)
run_over time start now h = (grind (arith, nat_tests), grind (arith, nat_tests))

over_run : (time start now : ℕ) → time ≢ 1023 → start + 1000 * time ≤ now → has_run_out time start now ≡ true
over_run time start now n o = grind (arith, nat_tests)

not_yet : (time start now : ℕ) → now < start + 1000 * time → has_run_out time start now ≡ false
not_yet time start now o = grind (arith, nat_tests)

short_of : (front place : ℤ) (b : Bool) → (reaches front place && not b) ≡ false → b ≡ false → front <ℤ place
short_of front place b h e = grind (arith, ints)

was_short : (start : ℕ) (seen : List Sight) (section : TimedSection) → was_stopped start seen section ≡ false →
    (sight : Sight) → IsAmong sight seen → sight.moment < start + 1000 * section.time → sight.train.min_front <ℤ section.stop_at
was_short start [] section h sight there early = absurd there
was_short start (first ∷ seen) section h sight there early =
    let parts = or_parts (reaches first.train.min_front section.stop_at && not (has_run_out section.time start first.moment)) (was_stopped start seen section) h in
    elim there [
      | inl same ↦ (let early_first : first.moment < start + 1000 * section.time = subst (λ (s : Sight). s.moment < start + 1000 * section.time) same early in
          let short = short_of first.train.min_front section.stop_at (has_run_out section.time start first.moment) parts.0 (not_yet section.time start first.moment early_first) in
          subst (λ (s : Sight). s.train.min_front <ℤ section.stop_at) (sym same) short)
      | inr there ↦ was_short start seen section parts.1 sight there early
    ]

still : (time start now : ℕ) → time ≢ 1023 → has_run_out time start now ≡ false → now < start + 1000 * time
still time start now n e = grind (arith, nat_tests)

short_held : (front place : ℤ) → front <ℤ place → (reaches front place && not false) ≡ false
short_held front place o = grind (arith, ints)

never_stopped : (start : ℕ) (seen : List Sight) (section : TimedSection) → section.time ≢ 1023 →
    ((sight : Sight) → IsAmong sight seen → sight.moment < start + 1000 * section.time → sight.train.min_front <ℤ section.stop_at) →
    was_stopped start seen section ≡ false
never_stopped start [] section n h = refl
never_stopped start (sight ∷ seen) section n h =
    let rest = never_stopped start seen section n (λ s there early. h s (inr there) early) in
    let here : (b : Bool) → has_run_out section.time start sight.moment ≡ b → (reaches sight.train.min_front section.stop_at && not b) ≡ false =
    elim [
      | true ↦ λ e. and-false (reaches sight.train.min_front section.stop_at)
      | false ↦ λ e. short_held sight.train.min_front section.stop_at (h sight (inl refl) (still section.time start sight.moment n e))
    ] in
    rw (here (has_run_out section.time start sight.moment) refl) rest

pub run_out_so : (start now : ℕ) (seen : List Sight) (section : TimedSection) →
    (section_has_run_out start now seen section ≡ true) ↔ HasRunOut start now seen section
run_out_so start now seen section = (
  λ h. (let parts = and_parts (has_run_out section.time start now) (not (was_stopped start seen section)) h in
      let over = run_over section.time start now parts.0 in
      record { has_expiry = over.0; is_over = over.1; was_short = was_short start seen section (not-true _ parts.1) }),
  λ r. and_from (has_run_out section.time start now) (not (was_stopped start seen section)) (over_run section.time start now r.has_expiry r.is_over)
      (not_from_false _ (never_stopped start seen section r.has_expiry r.was_short)),
)

-- ---- when a timer starts at a place

not_reached : (front place : ℤ) → reaches front place ≡ false → front <ℤ place
not_reached front place e = grind (arith, ints)

short_unreached : (front place : ℤ) → front <ℤ place → reaches front place ≡ false
short_unreached front place o = grind (arith, ints)

is_reached : (front place : ℤ) → reaches front place ≡ true → place ≤ℤ front
is_reached front place e = grind (arith, ints)

far_reached : (front place : ℤ) → place ≤ℤ front → reaches front place ≡ true
far_reached front place o = grind (arith, ints)

none_parts : (before : Option ℕ) (moment : ℕ) (b : Bool) → option_or before (cond b (Some moment) None) ≡ None → (before ≡ None) × (b ≡ false)
none_parts None moment true h = absurd (cc)
none_parts None moment false h = (h, refl)
none_parts (Some m) moment b h = absurd (cc)

all_short : (place : ℤ) (seen : List Sight) → first_reached place seen ≡ None →
    (before : Sight) → IsAmong before seen → before.train.max_front <ℤ place
all_short place [] h before there = absurd there
all_short place (sight ∷ earlier) h before there =
    let parts = none_parts (first_reached place earlier) sight.moment (reaches sight.train.max_front place) h in
    elim there [
      | inl same ↦ subst (λ (s : Sight). s.train.max_front <ℤ place) (sym same) (not_reached sight.train.max_front place parts.1)
      | inr there ↦ all_short place earlier parts.0 before there
    ]

short_all : (place : ℤ) (seen : List Sight) → ((before : Sight) → IsAmong before seen → before.train.max_front <ℤ place) → first_reached place seen ≡ None
short_all place [] h = refl
short_all place (sight ∷ earlier) h =
    rw (short_all place earlier (λ s there. h s (inr there)), short_unreached sight.train.max_front place (h sight (inl refl))) refl

one_more : (place : ℤ) (sight : Sight) (seen : List Sight) (moment : ℕ) → StartedAt place seen moment → StartedAt place (sight ∷ seen) moment
one_more place sight seen moment s = record {
  later = sight ∷ s.later;
  sight = s.sight;
  earlier = s.earlier;
  in_turn = ap (λ (xs : List Sight). sight ∷ xs) s.in_turn;
  at_moment = s.at_moment;
  reached = s.reached;
  was_short = s.was_short;
}

start_found : (place : ℤ) (seen : List Sight) (moment : ℕ) → first_reached place seen ≡ Some moment → StartedAt place seen moment
start_found place [] moment h = absurd (cc)
start_found place (sight ∷ earlier) moment h =
    let here : first_reached place earlier ≡ None → (b : Bool) → reaches sight.train.max_front place ≡ b →
    ◌≡◌ {A = Option ℕ} (cond b (Some sight.moment) None) (Some moment) → StartedAt place (sight ∷ earlier) moment =
    λ none. elim [
      | true ↦ λ e k. record {
        later = [];
        sight = sight;
        earlier = earlier;
        in_turn = refl;
        at_moment = cc;
        reached = is_reached sight.train.max_front place e;
        was_short = all_short place earlier none;
      }
      | false ↦ λ e k. absurd (cc)
    ] in
    let cases : (o : Option ℕ) → first_reached place earlier ≡ o → option_or o (if reaches sight.train.max_front place then Some sight.moment else None) ≡ Some moment → StartedAt place (sight ∷ earlier) moment =
    elim [
      | None ↦ λ none k. here none (reaches sight.train.max_front place) refl k
      | Some m ↦ λ some k. one_more place sight earlier moment (start_found place earlier moment (some ∙ k))
    ] in
    cases (first_reached place earlier) refl h

found_start : (place : ℤ) (later earlier : List Sight) (sight : Sight) → place ≤ℤ sight.train.max_front →
    ((before : Sight) → IsAmong before earlier → before.train.max_front <ℤ place) → first_reached place (later ++ sight ∷ earlier) ≡ Some sight.moment
found_start place [] earlier sight o h = rw (short_all place earlier h, far_reached sight.train.max_front place o) refl
found_start place (last ∷ later) earlier sight o h = rw (found_start place later earlier sight o h) refl

pub starts : (place : ℤ) (seen : List Sight) (moment : ℕ) → (first_reached place seen ≡ Some moment) ↔ StartedAt place seen moment
starts place seen moment = (
  start_found place seen moment,
  λ s. ap (first_reached place) s.in_turn ∙ found_start place s.later s.earlier s.sight s.reached s.was_short ∙ ap Some s.at_moment,
)
