-- Where a speed fits what one asks for and what the others do, it fits all; and what one asks for is of its kind.
use Rattle.std.proofs.Common.{◌≡◌, ℕ, ℤ, pos, ◌+ℤ◌, ◌≤ℤ◌, ◌<ℤ◌, List, [], ◌∷◌, ◌++◌, Bool, true, false, cond, refl, ap, sym, ◌∙◌, subst, arith}
use Rattle.std.specs.Prelude.{Option, None, Some, IsSomeAnd, IfSome, MatchOption, Contains, ◌&&◌, not, int_lt}
use Rattle.std.specs.Int.{int_max}
use Rattle.std.proofs.lemmas.Bool.{and_from}
use Rattle.std.proofs.lemmas.Int.{ints}
use Rattle.std.proofs.lemmas.Option.{same_Some}
use Rattle.units.proofs.Gathering.{IsIn, in_over}
use Rattle.track_store.specs.Profiles.{Lasts, listed}
use Rattle.track_store.specs.declared.restriction.Restriction.{Restriction}
use Rattle.track_store.specs.Covering.{covers, end_of}
use Rattle.areas.specs.declared.area.Area.{Area}
use Rattle.areas.specs.Areas.{is_before, speed_in}
use Rattle.authority.specs.declared.answers.End.{End}
use Rattle.braking.specs.declared.target.Target.{Target}
use Rattle.speed_profile.specs.declared.reported.CategorySpeeds.{CategorySpeeds}
use Rattle.speed_profile.specs.Reported.{speed_of}
use Rattle.speed_profile.specs.Ahead.{greatest_place, over_ahead, static_targets, restriction_targets, area_targets, targets_at, is_inside, unknown_target, static_target}
use Rattle.speed_profile.specs.Starts.{rest, first_covered, first_target, first_inside, first_in_area}
use Rattle.speed_profile.specs.Targets.{AskTheSame}
use Rattle.speed_profile.proofs.Asking.{fit_both, nothing_more}
use Rattle.speed_profile.proofs.Members.{in_left, in_right, passes}
use Rattle.speed_profile.proofs.Reaching.{restriction_asks, no_restriction_asks, area_asks, no_area_asks}
use Rattle.speed_profile.proofs.Starting.{piece_asks}
use Rattle.speed_profile.proofs.Together.{reported_ask}
use Rattle.speed_supervision.specs.Targets.{Journey, IsAhead, IsOfKind, along_track, fits_all_on, static_kind}
use Rattle.speed_supervision.proofs.Finding.{in_from_contains, contains_from_in, listed_in}

module _ (journey : Journey) (speed : ℕ) where
  fit_by : (all : List Target) (one others : List Target) → AskTheSame all (one ++ others) →
      fits_all_on journey one speed ≡ true → fits_all_on journey others speed ≡ true → fits_all_on journey all speed ≡ true
  fit_by all one others asks here there =
      asks journey.front journey.gradient journey.brakes speed
      ∙ fit_both journey.front journey.gradient journey.brakes one others speed
      ∙ and_from (fits_all_on journey one speed) (fits_all_on journey others speed) here there

  -- ---- one by one

  abbrev pub restricted : List Restriction → List Target
  restricted rs = over_ahead journey.front (restriction_targets journey.track.restrictions.mark rs)

  abbrev pub inside : List Area → List Target
  inside areas = over_ahead journey.front (area_targets journey.track.national areas)

  abbrev pub static_from : Option ℤ → List Target
  static_from start = rest (static_targets journey.bounds journey.track.static) start

  pub fit_restrictions : (r : Restriction) (rs all : List Restriction) → all ≡ (r ∷ rs) →
      fits_all_on journey (listed (first_target journey.front journey.track.restrictions.mark r)) speed ≡ true →
      fits_all_on journey (restricted rs) speed ≡ true → fits_all_on journey (restricted all) speed ≡ true
  fit_restrictions r rs all is here there =
      rw is (fit_by (restricted (r ∷ rs)) (listed (first_target journey.front journey.track.restrictions.mark r)) (restricted rs)
      (restriction_asks journey.front journey.track.restrictions.mark r rs) here there)

  pub fit_no_restriction : fits_all_on journey (restricted []) speed ≡ true
  fit_no_restriction = no_restriction_asks journey.front journey.track.restrictions.mark journey.front journey.gradient journey.brakes speed

  pub fit_areas : (a : Area) (areas all : List Area) → all ≡ (a ∷ areas) →
      fits_all_on journey (listed (first_in_area journey.front journey.track.national a)) speed ≡ true →
      fits_all_on journey (inside areas) speed ≡ true → fits_all_on journey (inside all) speed ≡ true
  fit_areas a areas all is here there =
      rw is (fit_by (inside (a ∷ areas)) (listed (first_in_area journey.front journey.track.national a)) (inside areas)
      (area_asks journey.front journey.track.national a areas) here there)

  pub fit_no_area : fits_all_on journey (inside []) speed ≡ true
  fit_no_area = no_area_asks journey.front journey.track.national journey.front journey.gradient journey.brakes speed

  pub fit_piece : (place : ℤ) → place ≤ℤ greatest_place → (next : Option ℤ) → Lasts journey.track.static place next →
      fits_all_on journey (listed (static_target journey.bounds place (journey.track.static place))) speed ≡ true →
      fits_all_on journey (static_from next) speed ≡ true → fits_all_on journey (static_from (Some place)) speed ≡ true
  fit_piece place within next lasts here there =
      fit_by (static_from (Some place)) (listed (static_target journey.bounds place (journey.track.static place))) (static_from next)
      (piece_asks journey.bounds journey.track.static place within next lasts) here there

  -- ---- all kinds
  pub fit_kinds : fits_all_on journey (over_ahead journey.front (static_targets journey.bounds journey.track.static)) speed ≡ true →
      fits_all_on journey (restricted journey.track.restrictions.restrictions) speed ≡ true →
      fits_all_on journey (inside journey.track.areas) speed ≡ true →
      fits_all_on journey (along_track journey) speed ≡ true
  fit_kinds s r i =
      let front = journey.front in
      let static = over_ahead front (static_targets journey.bounds journey.track.static) in
      let rs = restricted journey.track.restrictions.restrictions in
      let areas = inside journey.track.areas in
      let all = along_track journey in
      let fit = λ (ts : List Target). fits_all_on journey ts speed in
      let two_fit = λ (some others : List Target) (a : fit some ≡ true) (b : fit others ≡ true).
      fit_both front journey.gradient journey.brakes some others speed ∙ and_from (fit some) (fit others) a b in
      let reported : fit (static ++ (rs ++ (areas ++ []))) ≡ true = two_fit static (rs ++ (areas ++ [])) s (two_fit rs (areas ++ []) r (two_fit areas [] i refl)) in
      sym (nothing_more all front journey.gradient journey.brakes speed)
      ∙ sym (reported_ask front journey.bounds journey.track None front journey.gradient journey.brakes speed)
      ∙ reported

  -- ---- of its kind

  first_covers : (first mark start end : ℤ) →
      (int_lt (int_max (int_max first mark) start) end && not (int_lt greatest_place (int_max (int_max first mark) start))) ≡ true →
      (first ≤ℤ int_max (int_max first mark) start) × (int_max (int_max first mark) start ≤ℤ greatest_place)
      × ((not (int_lt (int_max (int_max first mark) start) mark) && not (int_lt (int_max (int_max first mark) start) start)
      && int_lt (int_max (int_max first mark) start) end) ≡ true)
  first_covers first mark start end h = (grind (arith, ints), grind (arith, ints), grind (arith, ints))

  first_is_inside : (first start : ℤ) (end : Option ℤ) →
      (is_before (int_max first start) end && not (int_lt greatest_place (int_max first start))) ≡ true →
      (first ≤ℤ int_max first start) × (int_max first start ≤ℤ greatest_place)
      × ((not (int_lt (int_max first start) start) && is_before (int_max first start) end) ≡ true)
  first_is_inside first start None h = (grind (arith, ints), grind (arith, ints), grind (arith, ints))
  first_is_inside first start (Some end) h = (grind (arith, ints), grind (arith, ints), grind (arith, ints))

  -- what is given where a test passes
  given_where : (b : Bool) (t target : Target) → cond b (Some t) None ≡ Some target → (b ≡ true) × (t ≡ target)
  given_where true t target h = (refl, same_Some t target h)
  given_where false t target h = absurd (let no : None ≡ Some target = h in cc)

  pub restriction_covers : (r : Restriction) (target : Target) → first_target journey.front journey.track.restrictions.mark r ≡ Some target →
      IsAhead journey target.place × (covers journey.track.restrictions.mark target.place r ≡ true) × (target.speed ≡ r.speed)
  restriction_covers r target h =
      let mark = journey.track.restrictions.mark in
      let first : ℤ = first_covered journey.front mark r in
      let there : Target = record { place = first; speed = r.speed } in
      let given = given_where (int_lt first (end_of r) && not (int_lt greatest_place first)) there target h in
      let covered = first_covers (journey.front +ℤ pos 1) mark r.start (end_of r) given.0 in
      subst (λ (t : Target). IsAhead journey t.place × (covers mark t.place r ≡ true) × (t.speed ≡ r.speed)) given.1
      ((omega (arith, ints, covered.0), covered.1), covered.2, refl)

  pub area_covers : (a : Area) (target : Target) → first_in_area journey.front journey.track.national a ≡ Some target →
      IsAhead journey target.place × (is_inside target.place a ≡ true) × (target.speed ≡ speed_in journey.track.national a)
  area_covers a target h =
      let first : ℤ = first_inside journey.front a in
      let there : Target = record { place = first; speed = speed_in journey.track.national a } in
      let given = given_where (is_before first a.end && not (int_lt greatest_place first)) there target h in
      let covered = first_is_inside (journey.front +ℤ pos 1) a.start a.end given.0 in
      subst (λ (t : Target). IsAhead journey t.place × (is_inside t.place a ≡ true) × (t.speed ≡ speed_in journey.track.national a)) given.1
      ((omega (arith, ints, covered.0), covered.1), covered.2, refl)

  unknown_is : (end : Option End) (place : ℤ) (target : Target) → unknown_target end place ≡ Some target →
      (target.place ≡ place) × (target.speed ≡ 0) × IsSomeAnd end (λ e. target.place <ℤ e.place)
  unknown_is None place target h = absurd (let no : None ≡ Some target = h in cc)
  unknown_is (Some end) place target h =
      let stop : Target = record { place = place; speed = 0 } in
      let given = given_where (int_lt place end.place) stop target h in
      subst (λ (t : Target). (t.place ≡ place) × (t.speed ≡ 0) × (t.place <ℤ end.place)) given.1
      (refl, refl, grind (arith, ints, given.0))

  by_value : (value : Option CategorySpeeds) (place : ℤ) (target : Target) → static_target journey.bounds place value ≡ Some target →
      journey.track.static place ≡ value → IsAhead journey place → IsOfKind journey target (static_kind value)
  by_value None place target h is ahead =
      let w = unknown_is journey.bounds.end place target h in
      (subst (IsAhead journey) (sym w.0) ahead, ap journey.track.static w.0 ∙ is, w.1, w.2)
  by_value (Some speeds) place target h is ahead =
      let there : Target = record { place = place; speed = speed_of speeds journey.bounds.category } in
      let known : IsSomeAnd (journey.track.static place) (λ s. there.speed ≡ speed_of s journey.bounds.category) = rw is refl in
      let P : Target → Type 0 = λ t. IsAhead journey t.place
      × IsSomeAnd (journey.track.static t.place) (λ s. t.speed ≡ speed_of s journey.bounds.category) in
      subst P (same_Some there target h) (ahead, known)

  pub static_is : (place : ℤ) (value : Option CategorySpeeds) (target : Target) → static_target journey.bounds place value ≡ Some target →
      value ≡ journey.track.static place → IsAhead journey place → IsOfKind journey target (static_kind value)
  static_is place value target h is ahead = by_value value place target h (sym is) ahead

-- ---- among all that lies ahead

module _ (journey : Journey) (target : Target) (place : ℤ) (ahead : IsAhead journey place) where
  abbrev static_here : List Target
  static_here = static_targets journey.bounds journey.track.static place

  abbrev restricted_here : List Target
  restricted_here = restriction_targets journey.track.restrictions.mark journey.track.restrictions.restrictions place

  abbrev inside_here : List Target
  inside_here = area_targets journey.track.national journey.track.areas place

  in_ahead : IsIn target (targets_at journey.bounds journey.track place) → Contains (along_track journey) target
  in_ahead here =
      contains_from_in (along_track journey) target
      (in_over (targets_at journey.bounds journey.track) (journey.front +ℤ pos 1) greatest_place target place
      (omega (arith, ints, ahead.0)) ahead.1 here)

  pub static_ahead : static_target journey.bounds place (journey.track.static place) ≡ Some target → Contains (along_track journey) target
  static_ahead is =
      in_ahead (in_left target (static_here ++ restricted_here) inside_here (in_left target static_here restricted_here
      (listed_in (static_target journey.bounds place (journey.track.static place)) target is)))

  abbrev with_speed : ℕ → Target
  with_speed speed = record { place = place; speed = speed }

  pub restriction_ahead : (r : Restriction) → Contains journey.track.restrictions.restrictions r →
      covers journey.track.restrictions.mark place r ≡ true → with_speed r.speed ≡ target → Contains (along_track journey) target
  restriction_ahead r there covered is =
      in_ahead (in_left target (static_here ++ restricted_here) inside_here (in_right target static_here restricted_here
      (subst (λ (t : Target). IsIn t restricted_here) is
      (passes (λ (x : Restriction). with_speed x.speed) (covers journey.track.restrictions.mark place)
      journey.track.restrictions.restrictions r (in_from_contains journey.track.restrictions.restrictions r there) covered))))

  pub area_ahead : (a : Area) → Contains journey.track.areas a → is_inside place a ≡ true →
      with_speed (speed_in journey.track.national a) ≡ target → Contains (along_track journey) target
  area_ahead a there covered is =
      in_ahead (in_right target (static_here ++ restricted_here) inside_here
      (subst (λ (t : Target). IsIn t inside_here) is
      (passes (λ (x : Area). with_speed (speed_in journey.track.national x)) (is_inside place)
      journey.track.areas a (in_from_contains journey.track.areas a there) covered)))

-- a target of a place with a speed
pub at_its_place : (target : Target) (speed : ℕ) → target.speed ≡ speed → record { place = target.place; speed = speed } ≡ target
at_its_place target speed is =
    let f : ℕ → Target = λ s. record { place = target.place; speed = s } in
    ap f (sym is)

-- ---- where the static speeds begin

pub starts_ahead : (front : ℤ) (start : Option ℤ) → MatchOption start (greatest_place <ℤ (front +ℤ pos 1)) (λ n. n ≡ front +ℤ pos 1) →
    IfSome start (λ p. front <ℤ p)
starts_ahead front None h = tt
starts_ahead front (Some p) h = omega (arith, ints, h)

pub next_ahead : (front place : ℤ) (value : ℤ → Option CategorySpeeds) (next : Option ℤ) → Lasts value place next → front <ℤ place →
    IfSome next (λ p. front <ℤ p)
next_ahead front place value None lasts h = tt
next_ahead front place value (Some p) lasts h = omega (arith, ints, h, lasts.0)
