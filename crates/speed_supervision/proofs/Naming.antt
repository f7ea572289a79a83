-- What is found over a train gives the limit, or else doesn't.
use Rattle.std.proofs.Common.{◌≡◌, ℕ, ℤ, ◌≤ℤ◌, ◌<ℤ◌, List, Bool, true, false, refl, ap, sym, ◌∙◌, arith}
use Rattle.std.specs.Prelude.{Option, None, Some, ◌&&◌, ◌==◌, not, int_lt, find, filter, map, MatchOption, IfNone}
use Rattle.std.specs.Int.{int_max}
use Rattle.std.proofs.lemmas.Int.{ints, by_lt_z}
use Rattle.std.proofs.lemmas.Bool.{and_parts, and_from, eqb-true, eq-eqb}
use Rattle.units.specs.Stretches.{Span, over}
use Rattle.units.proofs.Gathering.{over_at}
use Rattle.areas.specs.declared.area.Area.{Area}
use Rattle.areas.specs.declared.area.NationalSpeeds.{NationalSpeeds}
use Rattle.areas.specs.Areas.{is_before, is_met, speed_in, least_speed as least_in_areas}
use Rattle.track_store.specs.declared.restriction.Restriction.{Restriction}
use Rattle.track_store.specs.Covering.{end_of, limits_at}
use Rattle.track_store.specs.Meeting.{meets}
use Rattle.track_store.specs.Profiles.{Lasts}
use Rattle.track_store.specs.Restrictions.{InForce, speeds_at, least_speed}
use Rattle.track_store.proofs.Limiting.{limits_met, met_limits}
use Rattle.speed_profile.specs.declared.reported.CategorySpeeds.{CategorySpeeds}
use Rattle.speed_profile.specs.Limit.{limiting_value, least_static}
use Rattle.speed_profile.specs.Limit as static_limit
use Rattle.speed_profile.proofs.Members.{one_passed}
use Rattle.speed_supervision.specs.Over.{IsStaticSpeedOver, IsRestrictionOver, IsAreaOver}
use Rattle.speed_supervision.proofs.Finding.{found, none_found, in_from_contains, listed_is, other_than}

-- ---- mode areas

module _ (national : NationalSpeeds) (areas : List Area) (train : Span) (limit : ℕ) where
  abbrev pub makes_it : Area → Bool
  makes_it area = is_met train area && (speed_in national area == limit)

  pub area_named : (area : Area) → find makes_it areas ≡ Some area → IsAreaOver national areas train limit area
  area_named area h =
      let w = found makes_it areas area h in
      let halves = and_parts (is_met train area) (speed_in national area == limit) w.1 in
      (w.0, halves.0, eqb-true (speed_in national area) limit halves.1)

  pub none_over : find makes_it areas ≡ None → (area : Area) → IsAreaOver national areas train limit area → ⊥
  none_over none area named =
      none_found makes_it areas none area (in_from_contains areas area named.0)
      (and_from (is_met train area) (speed_in national area == limit) named.1 (eq-eqb (speed_in national area) limit named.2))

  pub no_area : find makes_it areas ≡ None → (speed : ℕ) → least_in_areas national train speed areas ≡ limit → speed ≡ limit
  no_area none speed is =
      other_than speed limit (map (speed_in national) (filter (is_met train) areas)) is
      (λ there. let w = one_passed (speed_in national) (is_met train) areas limit there in
      none_found makes_it areas none w.0 w.1
      (and_from (is_met train w.0) (speed_in national w.0 == limit) w.2 (eq-eqb (speed_in national w.0) limit (sym w.3))))

-- ---- restrictions

module _ (track : InForce) (train : Span) (limit : ℕ) where
  abbrev pub limits_so : ℤ → Restriction → Bool
  limits_so first restriction = meets first train restriction && (restriction.speed == limit)

  restriction_named : (restriction : Restriction) → find (limits_so (int_max track.mark train.rear)) track.restrictions ≡ Some restriction →
      IsRestrictionOver track train limit restriction
  restriction_named restriction h =
      let first : ℤ = int_max track.mark train.rear in
      let w = found (limits_so first) track.restrictions restriction h in
      let halves = and_parts (meets first train restriction) (restriction.speed == limit) w.1 in
      let there = met_limits restriction.delay track.mark train restriction.start (end_of restriction) halves.0 in
      (w.0, eqb-true restriction.speed limit halves.1, (there.0, (there.1, there.2), there.3))

  no_restriction : find (limits_so (int_max track.mark train.rear)) track.restrictions ≡ None →
      (speed : ℕ) → least_speed track train speed ≡ limit → speed ≡ limit
  no_restriction none speed is =
      let first : ℤ = int_max track.mark train.rear in
      other_than speed limit (over (speeds_at track train) train.rear train.max_front) is
      (λ there. let at = over_at (speeds_at track train) train.rear train.max_front limit there in
      let w = one_passed (λ (r : Restriction). r.speed) (limits_at track.mark train at.0) track.restrictions limit at.3 in
      let r : Restriction = w.0 in
      none_found (limits_so first) track.restrictions none r w.1
      (and_from (meets first train r) (r.speed == limit)
      (limits_met r.delay track.mark train at.0 r.start (end_of r) at.1 at.2 w.2) (eq-eqb r.speed limit (sym w.3))))

  no_restriction_over : find (limits_so (int_max track.mark train.rear)) track.restrictions ≡ None →
      (restriction : Restriction) → IsRestrictionOver track train limit restriction → ⊥
  no_restriction_over none r is =
      let first : ℤ = int_max track.mark train.rear in
      none_found (limits_so first) track.restrictions none r (in_from_contains track.restrictions r is.0)
      (and_from (meets first train r) (r.speed == limit)
      (limits_met r.delay track.mark train is.2.0 r.start (end_of r) is.2.1.0 is.2.1.1 is.2.2) (eq-eqb r.speed limit is.1))

  pub none_restricts : (first : ℤ) (result : Option Restriction) → first ≡ int_max track.mark train.rear →
      result ≡ find (limits_so first) track.restrictions →
      IfNone result ((restriction : Restriction) → IsRestrictionOver track train limit restriction → ⊥)
  none_restricts first None at is =
      no_restriction_over (sym (is ∙ ap (λ (z : ℤ). find (limits_so z) track.restrictions) at))
  none_restricts first (Some restriction) at is = tt

  -- whichever of both it is
  pub restriction_reported : (first : ℤ) (result : Option Restriction) → first ≡ int_max track.mark train.rear →
      result ≡ find (limits_so first) track.restrictions →
      MatchOption result ((speed : ℕ) → least_speed track train speed ≡ limit → speed ≡ limit) (IsRestrictionOver track train limit)
  restriction_reported first None at is =
      no_restriction (sym (is ∙ ap (λ (z : ℤ). find (limits_so z) track.restrictions) at))
  restriction_reported first (Some restriction) at is =
      restriction_named restriction (sym (is ∙ ap (λ (z : ℤ). find (limits_so z) track.restrictions) at))

-- ---- static speeds

pub no_static_speed : (static : ℤ → Option CategorySpeeds) (category : ℕ) (train : Span) (limit : ℕ) →
    ((place : ℤ) → IsStaticSpeedOver static category train limit place → ⊥) →
    (speed : ℕ) → least_static static category train speed ≡ limit → speed ≡ limit
no_static_speed static category train limit none speed is =
    let each : ℤ → List ℕ = static_limit.speeds_at static category train in
    other_than speed limit (over each train.rear train.max_front) is
    (λ there. let at = over_at each train.rear train.max_front limit there in
    none at.0 ((at.1, at.2), listed_is (limiting_value category train.min_front at.0 (static at.0)) limit at.3))

-- a centimetre before one that lies before an end does too
pub not_within : (first last there : ℤ) (next : Option ℤ) → (is_before first next && not (int_lt last first)) ≡ false →
    first ≤ℤ there → is_before there next ≡ true → there ≤ℤ last → ⊥
not_within first last there None h a b c = grind (arith, ints)
not_within first last there (Some next) h a b c = grind (arith, ints)

pub within : (first last : ℤ) (next : Option ℤ) → (is_before first next && not (int_lt last first)) ≡ true →
    (is_before first next ≡ true) × (first ≤ℤ last)
within first last next h =
    let halves = and_parts (is_before first next) (not (int_lt last first)) h in
    (halves.0, grind (arith, ints))

module _ (value : ℤ → Option CategorySpeeds) (category : ℕ) (train : Span) (limit : ℕ) where
  abbrev pub limits_here : ℤ → Option CategorySpeeds → Type 0
  limits_here place speeds = limiting_value category train.min_front place speeds ≡ Some limit

  -- no centimetre so far
  abbrev pub NoneBefore : ℤ → Type 0
  NoneBefore place = (c : ℤ) → train.rear ≤ℤ c → c <ℤ place → c ≤ℤ train.max_front → limits_here c (value c) → ⊥

  -- none of a piece
  abbrev pub NoneOn : ℤ → Option ℤ → Option CategorySpeeds → Type 0
  NoneOn place next here = (c : ℤ) → place ≤ℤ c → is_before c next ≡ true → c ≤ℤ train.max_front → limits_here c here → ⊥

  -- a centimetre of a piece
  abbrev pub IsOn : ℤ → Option ℤ → Option CategorySpeeds → ℤ → Type 0
  IsOn place next here c = (place ≤ℤ c) × (is_before c next ≡ true) × (c ≤ℤ train.max_front) × limits_here c here

  lasting : (place c : ℤ) (next : Option ℤ) → Lasts value place next → place ≤ℤ c → is_before c next ≡ true → value c ≡ value place
  lasting place c None lasts low before = lasts c low
  lasting place c (Some next) lasts low before = lasts.1 c low (grind (arith, ints))

  pub on_piece : (place : ℤ) (next : Option ℤ) (here : Option CategorySpeeds) → here ≡ value place → Lasts value place next →
      NoneOn place next here → (c : ℤ) → place ≤ℤ c → is_before c next ≡ true → c ≤ℤ train.max_front → limits_here c (value c) → ⊥
  on_piece place next here is lasts none c low before high h =
      none c low before high (ap (limiting_value category train.min_front c) (is ∙ sym (lasting place c next lasts low before)) ∙ h)

  pub farther : (place next : ℤ) (here : Option CategorySpeeds) → here ≡ value place → Lasts value place (Some next) →
      NoneOn place (Some next) here → NoneBefore place → NoneBefore next
  farther place next here is lasts none before c low less high h =
      by_lt_z c place
      (λ (sooner : c <ℤ place). before c low sooner high h)
      (λ (there : place ≤ℤ c). on_piece place (Some next) here is lasts none c there (grind (arith, ints)) high h)

  pub to_the_end : (place : ℤ) (here : Option CategorySpeeds) → here ≡ value place → Lasts value place None →
      NoneOn place None here → NoneBefore place → (c : ℤ) → IsStaticSpeedOver value category train limit c → ⊥
  to_the_end place here is lasts none before c over =
      by_lt_z c place
      (λ (sooner : c <ℤ place). before c over.0.0 sooner over.0.1 over.1)
      (λ (there : place ≤ℤ c). on_piece place None here is lasts none c there refl over.0.1 over.1)

  pub none_under : (place : ℤ) → train.max_front <ℤ place → NoneBefore place → (c : ℤ) → IsStaticSpeedOver value category train limit c → ⊥
  none_under place beyond before c over = before c over.0.0 (omega (arith, ints, over.0.1)) over.0.1 over.1

  pub found_on : (place c : ℤ) (next : Option ℤ) (here : Option CategorySpeeds) → here ≡ value place → Lasts value place next →
      train.rear ≤ℤ place → place ≤ℤ c → is_before c next ≡ true → c ≤ℤ train.max_front → limits_here c here →
      IsStaticSpeedOver value category train limit c
  found_on place c next here is lasts rear low before high h = (
    (omega (arith, ints), high),
    ap (limiting_value category train.min_front c) (lasting place c next lasts low before ∙ sym is) ∙ h,
  )
