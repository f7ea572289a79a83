-- What segments give once some are dropped, and one or more are put after them.
use Rattle.std.proofs.Common.{◌≡◌, ℤ, ◌≤ℤ◌, ◌<ℤ◌, List, [], ◌∷◌, ◌++◌, Bool, true, false, cond, refl, ap, sym, subst, ◌∙◌, arith}
use Rattle.std.specs.Prelude.{Option, None, Some, int_lt, not, is_none, filter}
use Rattle.std.specs.List.{list_any}
use Rattle.std.specs.Int.{int_max}
use Rattle.std.proofs.lemmas.Int.{ints, by_lt_z}
use Rattle.track_store.specs.declared.profile.Step.{Step}
use Rattle.track_store.specs.declared.segments.Segment.{Segment}
use Rattle.track_store.specs.Facts.{passed, last_value, replaced}
use Rattle.track_store.specs.Profiles.{Lasts}
use Rattle.track_store.specs.Segments.{value_among, value_of_segments, value_at_end, IsRisingFrom, IsRising, next_among}

pub below : (a b : ℤ) → a <ℤ b → int_lt a b ≡ true
below a b h = grind (arith, ints)

pub not_below : (a b : ℤ) → b ≤ℤ a → int_lt a b ≡ false
not_below a b h = grind (arith, ints)

after_start : (start first at place : ℤ) → first ≡ int_max start at → start ≤ℤ place → int_lt place first ≡ int_lt place at
after_start start first at place is h = grind (arith, ints)

before_start : (start first at place : ℤ) → first ≡ int_max start at → place <ℤ start → int_lt place first ≡ true
before_start start first at place is h = grind (arith, ints)

module _ {A : Type 0} where
  -- of the segments that start below a place, followed by one at it: below the place the old value ..
  cut_below : (place there : ℤ) (value otherwise : Option A) (segments : List (Segment A)) → there <ℤ place →
      value_among otherwise (filter (λ s. int_lt s.start place) segments ++ record { start = place; value = value } ∷ []) there
      ≡ value_among otherwise segments there
  cut_below place there value otherwise [] h = rw (below there place h)
  cut_below place there value otherwise (s ∷ segments) h =
      let cases : (b : Bool) → int_lt s.start place ≡ b →
      value_among otherwise (cond b (s ∷ filter (λ s. int_lt s.start place) segments) (filter (λ s. int_lt s.start place) segments)
      ++ record { start = place; value = value } ∷ []) there ≡ value_among (cond (int_lt there s.start) otherwise s.value) segments there =
      elim [
        | true ↦ λ e. cut_below place there value (cond (int_lt there s.start) otherwise s.value) segments h
        | false ↦ λ e. (let k : there <ℤ s.start = grind (arith, ints) in
            rw (below there s.start k) (cut_below place there value otherwise segments h))
      ] in
      cases (int_lt s.start place) refl

  -- .. and from it on the new one
  cut_from : (place there : ℤ) (value otherwise : Option A) (segments : List (Segment A)) → place ≤ℤ there →
      value_among otherwise (segments ++ record { start = place; value = value } ∷ []) there ≡ value
  cut_from place there value otherwise [] h = rw (not_below there place h)
  cut_from place there value otherwise (s ∷ segments) h =
      cut_from place there value (cond (int_lt there s.start) otherwise s.value) segments h

  pub value_of_cut : (place : ℤ) (value : Option A) (segments : List (Segment A)) (there : ℤ) →
      value_of_segments (filter (λ s. int_lt s.start place) segments ++ record { start = place; value = value } ∷ []) there
      ≡ cond (int_lt there place) (value_of_segments segments there) value
  value_of_cut place value segments there =
      by_lt_z there place
      (λ (h : there <ℤ place). rw (below there place h) (cut_below place there value None segments h))
      (λ (h : place ≤ℤ there). rw (not_below there place h) (cut_from place there value None (filter (λ s. int_lt s.start place) segments) h))

  -- .. or followed by none: the value after them
  front_from : (place there : ℤ) (otherwise : Option A) (segments : List (Segment A)) → place ≤ℤ there →
      value_among otherwise (filter (λ s. int_lt s.start place) segments) there ≡ value_at_end otherwise (filter (λ s. int_lt s.start place) segments)
  front_from place there otherwise [] h = refl
  front_from place there otherwise (s ∷ segments) h =
      let rest = filter (λ s. int_lt s.start place) segments in
      let cases : (b : Bool) → int_lt s.start place ≡ b → value_among otherwise (cond b (s ∷ rest) rest) there ≡ value_at_end otherwise (cond b (s ∷ rest) rest) =
      elim [
        | true ↦ λ e. (let k : s.start ≤ℤ there = grind (arith, ints) in
            ap (λ c. value_among (cond c otherwise s.value) rest there) (not_below there s.start k) ∙ front_from place there s.value segments h)
        | false ↦ λ e. front_from place there otherwise segments h
      ] in
      cases (int_lt s.start place) refl

  front_below : (place there : ℤ) (otherwise : Option A) (segments : List (Segment A)) → there <ℤ place →
      value_among otherwise (filter (λ s. int_lt s.start place) segments) there ≡ value_among otherwise segments there
  front_below place there otherwise [] h = refl
  front_below place there otherwise (s ∷ segments) h =
      let rest = filter (λ s. int_lt s.start place) segments in
      let cases : (b : Bool) → int_lt s.start place ≡ b →
      value_among otherwise (cond b (s ∷ rest) rest) there ≡ value_among (cond (int_lt there s.start) otherwise s.value) segments there =
      elim [
        | true ↦ λ e. front_below place there (cond (int_lt there s.start) otherwise s.value) segments h
        | false ↦ λ e. (let k : there <ℤ s.start = grind (arith, ints) in rw (below there s.start k) (front_below place there otherwise segments h))
      ] in
      cases (int_lt s.start place) refl

  pub value_of_front : (place : ℤ) (value : Option A) (segments : List (Segment A)) (there : ℤ) →
      value_at_end None (filter (λ s. int_lt s.start place) segments) ≡ value →
      value_of_segments (filter (λ s. int_lt s.start place) segments) there ≡ cond (int_lt there place) (value_of_segments segments there) value
  value_of_front place value segments there is =
      by_lt_z there place
      (λ (h : there <ℤ place). rw (below there place h) (front_below place there None segments h))
      (λ (h : place ≤ℤ there). rw (not_below there place h) (front_from place there None segments h ∙ is))

  rising_lower : (low lower : ℤ) (segments : List (Segment A)) → lower ≤ℤ low → IsRisingFrom low segments → IsRisingFrom lower segments
  rising_lower low lower [] h r = tt
  rising_lower low lower (s ∷ segments) h r = (omega (arith, ints, h, r.0), r.1)

  rising_cut_from : (place : ℤ) (value : Option A) (low : ℤ) (segments : List (Segment A)) → low <ℤ place → IsRisingFrom low segments →
      IsRisingFrom low (filter (λ s. int_lt s.start place) segments ++ record { start = place; value = value } ∷ [])
  rising_cut_from place value low [] h r = (h, tt)
  rising_cut_from place value low (s ∷ segments) h r =
      let cases : (b : Bool) → int_lt s.start place ≡ b →
      IsRisingFrom low (cond b (s ∷ filter (λ s. int_lt s.start place) segments) (filter (λ s. int_lt s.start place) segments)
      ++ record { start = place; value = value } ∷ []) =
      elim [
        | true ↦ λ e. (r.0, rising_cut_from place value s.start segments (grind (arith, ints)) r.1)
        | false ↦ λ e. rising_cut_from place value low segments h (rising_lower s.start low segments (omega (arith, ints, r.0)) r.1)
      ] in
      cases (int_lt s.start place) refl

  pub rising_of : (low : ℤ) (segments : List (Segment A)) → IsRisingFrom low segments → IsRising segments
  rising_of low [] r = tt
  rising_of low (s ∷ segments) r = r.1

  pub rising_cut : (place : ℤ) (value : Option A) (segments : List (Segment A)) → IsRising segments →
      IsRising (filter (λ s. int_lt s.start place) segments ++ record { start = place; value = value } ∷ [])
  rising_cut place value [] r = tt
  rising_cut place value (s ∷ segments) r =
      let cases : (b : Bool) → int_lt s.start place ≡ b →
      IsRising (cond b (s ∷ filter (λ s. int_lt s.start place) segments) (filter (λ s. int_lt s.start place) segments)
      ++ record { start = place; value = value } ∷ []) =
      elim [
        | true ↦ λ e. rising_cut_from place value s.start segments (grind (arith, ints)) r
        | false ↦ λ e. rising_cut place value segments (rising_of s.start segments r)
      ] in
      cases (int_lt s.start place) refl

  -- segments that rise from a place that isn't below another one don't count there
  pub before_rising : (otherwise : Option A) (low there : ℤ) (segments : List (Segment A)) → IsRisingFrom low segments → there ≤ℤ low →
      value_among otherwise segments there ≡ otherwise
  before_rising otherwise low there [] r h = refl
  before_rising otherwise low there (s ∷ segments) r h =
      let k : there <ℤ s.start = omega (arith, ints, r.0, h) in
      rw (below there s.start k) (before_rising otherwise s.start there segments r.1 (omega (arith, ints, r.0, h)))

  lasts_along : (f g : ℤ → Option A) (place : ℤ) (next : Option ℤ) → ((later : ℤ) → place ≤ℤ later → g later ≡ f later) → Lasts f place next →
      place ≤ℤ place → Lasts g place next
  lasts_along f g place None same l here = λ later a. same later a ∙ l later a ∙ sym (same place here)
  lasts_along f g place (Some next) same l here = (l.0, λ later a b. same later a ∙ l.1 later a b ∙ sym (same place here))

  -- what segments that rise give lasts up to the next start ahead
  pub lasts_among : (otherwise : Option A) (place : ℤ) (segments : List (Segment A)) → IsRising segments →
      Lasts (value_among otherwise segments) place (next_among place segments)
  lasts_among otherwise place [] r = λ later a. refl
  lasts_among otherwise place (s ∷ segments) r =
      let ahead : place <ℤ s.start → Lasts (value_among otherwise (s ∷ segments)) place (Some s.start) =
      λ h. (
        h,
        λ later a b. rw (below later s.start b, below place s.start h)
            (before_rising otherwise s.start later segments r (omega (arith, ints, b))
            ∙ sym (before_rising otherwise s.start place segments r (omega (arith, ints, h)))),
      ) in
      let beyond : s.start ≤ℤ place → Lasts (value_among otherwise (s ∷ segments)) place (next_among place segments) =
      λ h. lasts_along (value_among s.value segments) (value_among otherwise (s ∷ segments)) place (next_among place segments)
      (λ later a. (let k : s.start ≤ℤ later = omega (arith, ints, a, h) in rw (not_below later s.start k)))
      (lasts_among s.value place segments (rising_of s.start segments r)) (omega (arith, ints)) in
      by_lt_z place s.start
      (λ (h : place <ℤ s.start). rw (below place s.start h) (ahead h))
      (λ (h : s.start ≤ℤ place). rw (not_below place s.start h) (beyond h))

  pub lasts_kept : (place : ℤ) (segments kept : List (Segment A)) (next : Option ℤ) → segments ≡ kept → IsRising segments →
      next ≡ next_among place segments → Lasts (value_of_segments kept) place next
  lasts_kept place segments kept next is r e =
      subst (λ (k : List (Segment A)). Lasts (value_of_segments k) place next) is
      (subst (λ (n : Option ℤ). Lasts (value_of_segments segments) place n) (sym e) (lasts_among None place segments r))

  -- a step more, which holds from its place or the start on
  last_passed : (place : ℤ) (value : Option A) (step : Step A) (steps : List (Step A)) →
      last_value value (passed place (step ∷ steps)) ≡ last_value (cond (int_lt place step.place) value step.value) (passed place steps)
  last_passed place value step steps =
      let cases : (b : Bool) → last_value value (cond (not b) (step ∷ passed place steps) (passed place steps))
      ≡ last_value (cond b value step.value) (passed place steps) = elim [ true ↦ refl | false ↦ refl ] in
      cases (int_lt place step.place)

  pub one_step : (start first place : ℤ) (old new all : Option A) (step : Step A) (steps : List (Step A)) → first ≡ int_max start step.place →
      start ≤ℤ place → new ≡ cond (int_lt place first) old step.value → last_value old (passed place (step ∷ steps)) ≡ all →
      last_value new (passed place steps) ≡ all
  one_step start first place old new all step steps top h is so_far =
      ap (λ (v : Option A). last_value v (passed place steps)) (is ∙ ap (λ (b : Bool). cond b old step.value) (after_start start first step.place place top h))
      ∙ sym (last_passed place old step steps) ∙ so_far

  pub unchanged_below : (start first at place : ℤ) (old new value : Option A) → first ≡ int_max start at → place <ℤ start →
      new ≡ cond (int_lt place first) old value → new ≡ old
  unchanged_below start first at place old new value top h is = is ∙ ap (λ (b : Bool). cond b old value) (before_start start first at place top h)

  -- what steps without an end mark at or below a place give
  pub replaced_open : (old : ℤ → Option A) (start place : ℤ) (steps : List (Step A)) (held : Option A) →
      (place <ℤ start → held ≡ old place) → (start ≤ℤ place → held ≡ last_value None (passed place steps)) →
      list_any (λ (step : Step A). is_none step.value) (passed place steps) ≡ false → held ≡ replaced old start steps place
  replaced_open old start place steps held under over no_end =
      by_lt_z place start
      (λ (h : place <ℤ start). rw (below place start h) (under h))
      (λ (h : start ≤ℤ place). rw (not_below place start h, no_end) (over h))

  -- .. and with the first of them at an end
  pub replaced_ended : (old : ℤ → Option A) (start first end place : ℤ) (steps : List (Step A)) (held new : Option A) →
      (place <ℤ start → held ≡ old place) → (start ≤ℤ place → held ≡ last_value None (passed place steps)) →
      list_any (λ (step : Step A). is_none step.value) (passed place steps) ≡ not (int_lt place end) → first ≡ int_max start end →
      new ≡ cond (int_lt place first) held None → new ≡ replaced old start steps place
  replaced_ended old start first end place steps held new under over ends top is =
      let cases : (b : Bool) → int_lt place end ≡ b → start ≤ℤ place → cond b held None ≡ cond (not b) None (last_value None (passed place steps)) =
      elim [ true ↦ λ e h. over h | false ↦ λ e h. refl ] in
      by_lt_z place start
      (λ (h : place <ℤ start). rw (below place start h) (is ∙ ap (λ (b : Bool). cond b held None) (before_start start first end place top h) ∙ under h))
      (λ (h : start ≤ℤ place). rw (not_below place start h, ends)
      (is ∙ ap (λ (b : Bool). cond b held None) (after_start start first end place top h) ∙ cases (int_lt place end) refl h))
