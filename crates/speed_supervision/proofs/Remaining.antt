-- A train that covers less, and whose front may be at fewer places, is limited no more; nor is one that comes nearer asked
-- for less.
use Rattle.std.proofs.Common.{◌≡◌, ℕ, ℤ, pos, negsuc, ◌+◌, ◌-◌, ◌*◌, ◌<◌, ◌≤◌, ◌+ℤ◌, ◌-ℤ◌, ◌≤ℤ◌, ◌<ℤ◌, List, [], ◌∷◌, ◌++◌, inl, inr, Bool, true, false, cond, refl, ap, sym, ◌∙◌, subst, arith}
use Rattle.std.specs.Prelude.{Option, None, Some, IsSome, nat_le, nat_lt, int_lt, not, ◌&&◌, ◌||◌, filter, map}
use Rattle.std.specs.Option.{option_map}
use Rattle.std.proofs.lemmas.Bool.{and_parts, and_from}
use Rattle.std.proofs.lemmas.Bool.Decides.{nat_tests}
use Rattle.std.proofs.lemmas.Int.{ints, by_lt_z}
use Rattle.units.specs.Stretches.{Span, IsOrdered, over, least, natural}
use Rattle.units.proofs.Gathering.{IsIn, over_at, in_over}
use Rattle.vars.specs.declared.restriction.TrainLengthDelay.{TrainLengthDelay}
use Rattle.vars.specs.declared.restriction.TrainLengthDelay.TheVariants.{Applied, NotApplied}
use Rattle.track_store.specs.declared.restriction.Restriction.{Restriction}
use Rattle.track_store.specs.Covering.{covers, train_start, limits_at}
use Rattle.areas.specs.declared.area.Area.{Area}
use Rattle.areas.specs.Areas.{is_before, is_met, speed_in}
use Rattle.authority.specs.declared.answers.End.{End}
use Rattle.brakes.specs.declared.brakes.Brakes.{Brakes}
use Rattle.brakes.specs.Brakes.{reaction_way}
use Rattle.braking.specs.declared.target.Target.{Target}
use Rattle.braking.specs.Braking.{braked, distance_to, fits, fits_all, greatest}
use Rattle.braking.proofs.Braked.{braked_later}
use Rattle.braking.proofs.Greatest.{greatest_is, greatest_within}
use Rattle.braking.proofs.Slower.{slow_fits}
use Rattle.track_store.specs.Profiles.{listed, lesser, IsKnownThroughout}
use Rattle.track_store.specs.Restrictions.{speeds_at, least_speed}
use Rattle.track_store.proofs.Jumps.{least_below, lesser_below, natural_is}
use Rattle.speed_profile.specs.declared.reported.CategorySpeeds.{CategorySpeeds}
use Rattle.speed_profile.specs.declared.limit.Bounds.{Bounds}
use Rattle.speed_profile.specs.Ahead.{greatest_place, is_inside, static_target, static_targets, restriction_targets, area_targets, targets_at}
use Rattle.speed_profile.specs.Limit.{counts_at, limiting_value, least_static, speed_at_end, bound_speed, limit_on}
use Rattle.speed_profile.specs.Limit as static_limit
use Rattle.speed_profile.specs.Reported.{speed_of}
use Rattle.speed_profile.specs.Track.{TrackSpeeds}
use Rattle.speed_profile.proofs.Asking.{fit_all}
use Rattle.speed_profile.proofs.Members.{in_left, in_right, in_either, one_passed, passes}
use Rattle.driver.specs.Limits.{Train}
use Rattle.track_picture.specs.History.{gradients_of}
use Rattle.mode_control.specs.History.{tracks}
use Rattle.mode_control.specs.Life.{Life}
use Rattle.mode_control.specs.Sentences.{values_of, span_of}
use Rattle.speed_supervision.specs.declared.steady.SteadyLimit.{SteadyLimit}
use Rattle.speed_supervision.specs.Causes.{journey_of}
use Rattle.speed_supervision.specs.Limit.{bounds_of, in_areas, along, permitted_speed, the_end, released_by}
use Rattle.speed_supervision.specs.Steady.{Covers, IsWithin, HoldsBetween, IsSteady, journey_of as steady_journey}
use Rattle.speed_supervision.specs.Supervised.{limit_here, permitted_to, permitted_on}
use Rattle.speed_supervision.specs.Targets.{Journey, along_track}
use Rattle.speed_supervision.proofs.Deciding.{passes as greatest_passes}
use Rattle.speed_supervision.proofs.Finding.{listed_in}
use Rattle.speed_supervision.proofs.Preceding.{fit_each}

-- ---- more speeds have no greater least one

least_below_it : (limit : ℕ) (vs : List ℕ) (w : ℕ) → IsIn w vs → least limit vs ≤ w
least_below_it limit [] w h = absurd h
least_below_it limit (v ∷ vs) w h = elim h [ inl e ↦ omega arith | inr k ↦ omega (arith, least_below_it limit vs w k) ]

more_less : (a b : ℕ) (xs ys : List ℕ) → a ≤ b → ((v : ℕ) → IsIn v ys → IsIn v xs) → least a xs ≤ least b ys
more_less a b xs [] h within = omega (arith, least_below a xs)
more_less a b xs (y ∷ ys) h within =
    let first : least a xs ≤ y = least_below_it a xs y (within y (inl refl)) in
    let others : least a xs ≤ least b ys = more_less a b xs ys h (λ v there. within v (inr there)) in
    omega (arith, first, others)

-- .. so has a longer stretch, each centimetre of which gives no fewer
longer_less : (f g : ℤ → List ℕ) (from to from' to' : ℤ) (a b : ℕ) → from ≤ℤ from' → to' ≤ℤ to → a ≤ b →
    ((c : ℤ) (v : ℕ) → IsIn v (g c) → IsIn v (f c)) → least a (over f from to) ≤ least b (over g from' to')
longer_less f g from to from' to' a b low high h each =
    more_less a b (over f from to) (over g from' to') h
    (λ v there. let at = over_at g from' to' v there in
    in_over f from to v at.0 (omega (arith, ints, at.1, low)) (omega (arith, ints, at.2, high)) (each at.0 v at.3))

-- ---- what limits a train where it is

-- what passes a test passes one that holds wherever that does
passed_more : {A : Type 0} (f : A → ℕ) (p q : A → Bool) (xs : List A) → ((x : A) → q x ≡ true → p x ≡ true) →
    (v : ℕ) → IsIn v (map f (filter q xs)) → IsIn v (map f (filter p xs))
passed_more f p q xs h v there =
    let w = one_passed f q xs v there in
    subst (λ (u : ℕ). IsIn u (map f (filter p xs))) (sym w.3) (passes f p xs w.0 w.1 (h w.0 w.2))

no_sooner : (p a b : ℤ) → a ≤ℤ b → not (int_lt p b) ≡ true → not (int_lt p a) ≡ true
no_sooner p a b h e = grind (arith, ints)

counts_more : (min_front min_front' place : ℤ) (delay : TrainLengthDelay) → min_front ≤ℤ min_front' →
    counts_at min_front' place delay ≡ true → counts_at min_front place delay ≡ true
counts_more min_front min_front' place Applied h e = refl
counts_more min_front min_front' place NotApplied h e = no_sooner place min_front min_front' h e

limits_more : (category : ℕ) (min_front min_front' place : ℤ) (value : Option CategorySpeeds) (v : ℕ) → min_front ≤ℤ min_front' →
    IsIn v (listed (limiting_value category min_front' place value)) → IsIn v (listed (limiting_value category min_front place value))
limits_more category min_front min_front' place None v h there = there
limits_more category min_front min_front' place (Some speeds) v h there =
    let cases : (b : Bool) → counts_at min_front' place speeds.delay ≡ b → IsIn v (listed (cond b (Some (speed_of speeds category)) None))
    → IsIn v (listed (limiting_value category min_front place (Some speeds))) = elim [
      | true ↦ λ e k. (rw (counts_more min_front min_front' place speeds.delay h e) k)
      | false ↦ λ e k. absurd k
    ] in
    cases (counts_at min_front' place speeds.delay) refl there

begins_sooner : (delay : TrainLengthDelay) (rear min_front rear' min_front' : ℤ) → rear ≤ℤ rear' → min_front ≤ℤ min_front' →
    train_start rear min_front delay ≤ℤ train_start rear' min_front' delay
begins_sooner Applied rear min_front rear' min_front' h k = h
begins_sooner NotApplied rear min_front rear' min_front' h k = k

before_sooner : (a b : ℤ) (end : Option ℤ) → a ≤ℤ b → is_before b end ≡ true → is_before a end ≡ true
before_sooner a b None h e = refl
before_sooner a b (Some end) h e = grind (arith, ints)

-- V_LOA limits no less from farther on
end_less : (front front' : ℤ) (speed : ℕ) (end : Option End) → front' ≤ℤ front →
    lesser speed (speed_at_end front end) ≤ lesser speed (speed_at_end front' end)
end_less front front' speed None h = omega arith
end_less front front' speed (Some end) h =
    let below : lesser speed (speed_at_end front (Some end)) ≤ speed = lesser_below speed (speed_at_end front (Some end)) in
    let there : Bool = nat_lt 0 end.speed in
    let cases : (b : Bool) → (not (int_lt front' end.place) && there) ≡ b
    → lesser speed (speed_at_end front (Some end)) ≤ lesser speed (cond b (Some end.speed) None) = elim [
      | true ↦ λ e. (let parts = and_parts (not (int_lt front' end.place)) there e in
          let reached : not (int_lt front end.place) ≡ true = grind (arith, ints, parts.0) in
          rw (and_from (not (int_lt front end.place)) there reached parts.1) (omega arith))
      | false ↦ λ e. below
    ] in
    cases (not (int_lt front' end.place) && there) refl

module _ (wide narrow : Span) (covers_it : Covers wide narrow) where
  restricts_more : (mark place : ℤ) (r : Restriction) → limits_at mark narrow place r ≡ true → limits_at mark wide place r ≡ true
  restricts_more mark place r e =
      let start : ℤ = train_start wide.rear wide.min_front r.delay in
      let start' : ℤ = train_start narrow.rear narrow.min_front r.delay in
      let parts = and_parts (covers mark place r) (not (int_lt place start')) e in
      and_from (covers mark place r) (not (int_lt place start)) parts.0
      (no_sooner place start start'
      (begins_sooner r.delay wide.rear wide.min_front narrow.rear narrow.min_front covers_it.0 covers_it.1) parts.1)

  met_more : (area : Area) → is_met narrow area ≡ true → is_met wide area ≡ true
  met_more area e =
      let has_track : Bool = is_before area.start area.end in
      let ends : Bool = is_before wide.min_front area.end in
      let ends' : Bool = is_before narrow.min_front area.end in
      let starts : Bool = not (int_lt wide.max_front area.start) in
      let starts' : Bool = not (int_lt narrow.max_front area.start) in
      let parts = and_parts (starts' && ends') has_track e in
      let halves = and_parts starts' ends' parts.0 in
      let reached : starts ≡ true = grind (arith, ints, halves.0, covers_it.2) in
      and_from (starts && ends) has_track
      (and_from starts ends reached (before_sooner wide.min_front narrow.min_front area.end covers_it.1 halves.1)) parts.1

  pub limit_less : (bounds : Bounds) (track : TrackSpeeds) → limit_on wide bounds track ≤ limit_on narrow bounds track
  limit_less bounds track =
      let bound : bound_speed wide.max_front bounds ≤ bound_speed narrow.max_front bounds =
      end_less wide.max_front narrow.max_front (lesser bounds.maximum bounds.main) bounds.end covers_it.2 in
      let static : least_static track.static bounds.category wide (bound_speed wide.max_front bounds)
      ≤ least_static track.static bounds.category narrow (bound_speed narrow.max_front bounds) =
      longer_less (static_limit.speeds_at track.static bounds.category wide) (static_limit.speeds_at track.static bounds.category narrow)
      wide.rear wide.max_front narrow.rear narrow.max_front _ _ covers_it.0 covers_it.2 bound
      (λ c v. limits_more bounds.category wide.min_front narrow.min_front c (track.static c) v covers_it.1) in
      let restricted = longer_less (speeds_at track.restrictions wide) (speeds_at track.restrictions narrow)
      wide.rear wide.max_front narrow.rear narrow.max_front _ _ covers_it.0 covers_it.2 static
      (λ c. passed_more (λ (r : Restriction). r.speed) (limits_at track.restrictions.mark wide c) (limits_at track.restrictions.mark narrow c)
      track.restrictions.restrictions (restricts_more track.restrictions.mark c)) in
      more_less _ _ _ _ restricted
      (passed_more (speed_in track.national) (is_met wide) (is_met narrow) track.areas met_more)

-- ---- what lies ahead

natural_positive : (z : ℤ) (n : ℕ) → n < natural z → pos (natural z) ≡ z
natural_positive (pos m) n h = refl
natural_positive (negsuc m) n h = absurd (omega arith)

natural_of : (z : ℤ) (n : ℕ) → z ≡ pos n → natural z ≡ n
natural_of z n is = ap natural is

settled : (v u way d d' vv uu s s' : ℕ) → (way < d → way < d') → (way < d → s ≤ s') →
    (nat_le v u || (nat_lt way d && nat_le vv (uu + s))) ≡ true → (nat_le v u || (nat_lt way d' && nat_le vv (uu + s'))) ≡ true
settled v u way d d' vv uu s s' a b e = grind (arith, nat_tests)

module _ (gradient : ℤ → Option ℤ) (brakes : Brakes) (front farther : ℤ) (ahead : front ≤ℤ farther) where
  -- a speed that fits a target from farther on fits it
  pub fits_before : (t : Target) (v : ℕ) → fits farther gradient brakes t v ≡ true → fits front gradient brakes t v ≡ true
  fits_before t v e =
      let way : ℕ = reaction_way brakes.reaction v in
      let d : ℕ = distance_to farther t in
      let d' : ℕ = distance_to front t in
      let between : ℕ = natural (farther -ℤ front) in
      let between_is : pos between ≡ farther -ℤ front = natural_is (farther -ℤ front) (omega (arith, ints, ahead)) in
      let more : way < d → d' ≡ between + d = λ acts.
      (let left : pos d ≡ t.place -ℤ farther = natural_positive (t.place -ℤ farther) way acts in
      natural_of (t.place -ℤ front) (between + d) (omega (arith, ints, left, between_is))) in
      let taken : way < d → braked gradient brakes.deceleration (farther +ℤ pos way) (d - way)
      ≤ braked gradient brakes.deceleration (front +ℤ pos way) (d' - way) = λ acts.
      (let start : (front +ℤ pos way) +ℤ pos between ≡ farther +ℤ pos way = omega (arith, ints, between_is) in
      let count : between + (d - way) ≡ d' - way = omega (arith, more acts) in
      omega (
        arith,
        braked_later gradient brakes.deceleration (front +ℤ pos way) between (d - way),
        ap (λ (z : ℤ). braked gradient brakes.deceleration z (d - way)) start,
        ap (braked gradient brakes.deceleration (front +ℤ pos way)) count,
      )) in
      settled v t.speed way d d' (v * v) (t.speed * t.speed) _ _ (λ acts. omega (arith, more acts)) taken e

-- ---- a train that is anywhere between two stretches

abbrev at_front : Journey → ℤ → Journey
at_front journey front = record journey { front = front }

-- what a centimetre ahead asks for is no less than the limit of a train that may cover it, where a static speed is known
module _ (wide : Span) (bounds : Bounds) (track : TrackSpeeds) (place : ℤ) (rear : wide.rear ≤ℤ place) (front : wide.min_front ≤ℤ place)
    (within : place ≤ℤ wide.max_front) where
  abbrev bound : ℕ
  bound = bound_speed wide.max_front bounds

  abbrev static : ℕ
  static = least_static track.static bounds.category wide bound

  abbrev restricted : ℕ
  restricted = least_speed track.restrictions wide static

  counted : (delay : TrainLengthDelay) → counts_at wide.min_front place delay ≡ true
  counted Applied = refl
  counted NotApplied = grind (arith, ints)

  by_static : (value : Option CategorySpeeds) (t : Target) → track.static place ≡ value → IsSome value →
      IsIn t (listed (static_target bounds place value)) → static ≤ t.speed
  by_static None t is known there = absurd (let no : false ≡ true = known in cc)
  by_static (Some speeds) t is known there =
      let speed : ℕ = speed_of speeds bounds.category in
      let here : limiting_value bounds.category wide.min_front place (Some speeds) ≡ Some speed = rw (counted speeds.delay) refl in
      let listed_it : IsIn speed (static_limit.speeds_at track.static bounds.category wide place) =
      listed_in (limiting_value bounds.category wide.min_front place (track.static place)) speed
      (ap (limiting_value bounds.category wide.min_front place) is ∙ here) in
      let least_it : static ≤ speed = least_below_it bound (over (static_limit.speeds_at track.static bounds.category wide) wide.rear wide.max_front) speed
      (in_over (static_limit.speeds_at track.static bounds.category wide) wide.rear wide.max_front speed place rear within listed_it) in
      elim there [
        | inl same ↦ (let at : t.speed ≡ speed = ap (λ (x : Target). x.speed) same in omega (arith, at, least_it))
        | inr never ↦ absurd never
      ]

  by_restriction : (t : Target) → IsIn t (restriction_targets track.restrictions.mark track.restrictions.restrictions place) → restricted ≤ t.speed
  by_restriction t there =
      let mark : ℤ = track.restrictions.mark in
      let all = track.restrictions.restrictions in
      let one = one_passed (λ (r : Restriction). record { place = place; speed = r.speed }) (covers mark place) all t there in
      let r : Restriction = one.0 in
      let begun : (delay : TrainLengthDelay) → not (int_lt place (train_start wide.rear wide.min_front delay)) ≡ true =
      elim [ Applied ↦ grind (arith, ints) | NotApplied ↦ grind (arith, ints) ] in
      let limits_it : limits_at mark wide place r ≡ true =
      and_from (covers mark place r) (not (int_lt place (train_start wide.rear wide.min_front r.delay))) one.2 (begun r.delay) in
      let speed : t.speed ≡ r.speed = ap (λ (x : Target). x.speed) one.3 in
      let least_it : restricted ≤ r.speed = least_below_it static (over (speeds_at track.restrictions wide) wide.rear wide.max_front) r.speed
      (in_over (speeds_at track.restrictions wide) wide.rear wide.max_front r.speed place rear within
      (passes (λ (x : Restriction). x.speed) (limits_at mark wide place) all r one.1 limits_it)) in
      omega (arith, speed, least_it)

  by_area : (t : Target) → IsIn t (area_targets track.national track.areas place) → limit_on wide bounds track ≤ t.speed
  by_area t there =
      let one = one_passed (λ (a : Area). record { place = place; speed = speed_in track.national a }) (is_inside place) track.areas t there in
      let a : Area = one.0 in
      let parts = and_parts (not (int_lt place a.start)) (is_before place a.end) one.2 in
      let started : not (int_lt wide.max_front a.start) ≡ true = grind (arith, ints, parts.0) in
      let start : a.start ≤ℤ place = grind (arith, ints, parts.0) in
      let met : is_met wide a ≡ true =
      and_from (not (int_lt wide.max_front a.start) && is_before wide.min_front a.end) (is_before a.start a.end)
      (and_from (not (int_lt wide.max_front a.start)) (is_before wide.min_front a.end) started (before_sooner wide.min_front place a.end front parts.1))
      (before_sooner a.start place a.end start parts.1) in
      let speed : t.speed ≡ speed_in track.national a = ap (λ (x : Target). x.speed) one.3 in
      let least_it : limit_on wide bounds track ≤ speed_in track.national a =
      least_below_it restricted (map (speed_in track.national) (filter (is_met wide) track.areas)) (speed_in track.national a)
      (passes (speed_in track.national) (is_met wide) track.areas a one.1 met) in
      omega (arith, speed, least_it)

  no_slower : (t : Target) → IsSome (track.static place) → IsIn t (targets_at bounds track place) → limit_on wide bounds track ≤ t.speed
  no_slower t known there =
      let mark : ℤ = track.restrictions.mark in
      let first = static_targets bounds track.static place in
      let second = restriction_targets mark track.restrictions.restrictions place in
      let third = area_targets track.national track.areas place in
      let in_areas : limit_on wide bounds track ≤ restricted = least_below restricted _ in
      let in_force : restricted ≤ static = least_below static _ in
      elim (in_either t (first ++ second) third there) [
        | inl one ↦ elim (in_either t first second one) [
          | inl k ↦ (let low : static ≤ t.speed = by_static (track.static place) t refl known k in omega (arith, low, in_areas, in_force))
          | inr k ↦ (let low : restricted ≤ t.speed = by_restriction t k in omega (arith, low, in_areas))
        ]
        | inr k ↦ by_area t k
      ]

-- a greatest speed that is the limit itself fits
fits_limit : (journey : Journey) (targets : List Target) (limit : ℕ) →
    greatest (fits_all journey.front journey.gradient journey.brakes targets) limit ≡ limit →
    fits_all journey.front journey.gradient journey.brakes targets limit ≡ true
fits_limit journey targets limit is =
    let test = fits_all journey.front journey.gradient journey.brakes targets in
    elim (greatest_passes test limit) [
      | inl none ↦ fit_all journey.front journey.gradient journey.brakes targets limit
          (λ t there. slow_fits journey.front journey.gradient journey.brakes t limit (omega (arith, none, is)))
      | inr fit ↦ ap test (sym is) ∙ fit
    ]

module _ (wide narrow : Span) (journey : Journey) (last : List Target) (limit : ℕ) (at : journey.front ≡ wide.max_front)
    (most : limit_on wide journey.bounds journey.track ≡ limit)
    (known : (place : ℤ) → narrow.max_front ≤ℤ place → place <ℤ (wide.max_front +ℤ pos 1) → IsSome (journey.track.static place))
    (ordered : IsOrdered narrow.rear narrow.min_front narrow.max_front)
    (fit : fits_all journey.front journey.gradient journey.brakes (along_track journey ++ last) limit ≡ true) where
  fit_on : (train : Span) → Covers wide train → Covers train narrow →
      fits_all train.max_front journey.gradient journey.brakes (along_track (at_front journey train.max_front) ++ last) limit ≡ true
  fit_on train within beyond =
      let front : ℤ = train.max_front in
      let each = targets_at journey.bounds journey.track in
      let left = along_track (at_front journey front) in
      let not_beyond : front ≤ℤ journey.front = omega (arith, ints, at, within.2) in
      let from_there : (t : Target) → IsIn t (along_track journey ++ last) → fits front journey.gradient journey.brakes t limit ≡ true = λ t there.
      fits_before journey.gradient journey.brakes front journey.front not_beyond t limit
      (fit_each journey (along_track journey ++ last) limit fit t there) in
      fit_all front journey.gradient journey.brakes (left ++ last) limit
      (λ t there. elim (in_either t left last there) [
        | inl one ↦ (let ahead = over_at each (front +ℤ pos 1) greatest_place t one in
            by_lt_z journey.front ahead.0
            (λ (farther : journey.front <ℤ ahead.0). from_there t (in_left t (along_track journey) last
            (in_over each (journey.front +ℤ pos 1) greatest_place t ahead.0 (omega (arith, ints, farther)) ahead.2 ahead.3)))
            (λ (nearer : ahead.0 ≤ℤ journey.front).
            let low : limit_on wide journey.bounds journey.track ≤ t.speed =
            no_slower wide journey.bounds journey.track ahead.0
            (omega (arith, ints, within.0, beyond.0, beyond.2, ordered.0, ordered.1, ahead.1))
            (omega (arith, ints, within.1, beyond.1, beyond.2, ordered.1, ahead.1))
            (omega (arith, ints, nearer, at)) t
            (known ahead.0 (omega (arith, ints, beyond.2, ahead.1)) (omega (arith, ints, nearer, at))) ahead.3 in
            slow_fits front journey.gradient journey.brakes t limit (omega (arith, low, most))))
        | inr one ↦ from_there t (in_right t (along_track journey) last one)
      ])

released : (permitted : Option Target → ℕ) (limit national : ℕ) (end : Option End) → permitted (option_map the_end end) ≡ limit →
    ((last : Option Target) → permitted last ≤ limit) → released_by permitted end national ≡ limit
released permitted limit national None to_end within = to_end
released permitted limit national (Some end) to_end within =
    omega (arith, to_end, within (Some (record { place = end.location; speed = 0 })))

pub holds : (wide narrow : Span) (journey : Journey) (limit : ℕ) → journey.front ≡ wide.max_front →
    limit_on wide journey.bounds journey.track ≡ limit → limit_on narrow journey.bounds journey.track ≡ limit →
    IsKnownThroughout journey.track.static narrow.max_front (wide.max_front +ℤ pos 1) →
    IsOrdered narrow.rear narrow.min_front narrow.max_front →
    greatest (fits_all journey.front journey.gradient journey.brakes (along_track journey ++ listed (option_map the_end journey.bounds.end))) limit ≡ limit →
    HoldsBetween wide narrow journey limit
holds wide narrow journey limit at most least_of known ordered permitted train national within beyond =
    let there : Journey = at_front journey train.max_front in
    let last : Option Target = option_map the_end journey.bounds.end in
    let low : limit_on wide journey.bounds journey.track ≤ limit_here train there = limit_less wide train within journey.bounds journey.track in
    let high : limit_here train there ≤ limit_on narrow journey.bounds journey.track = limit_less train narrow beyond journey.bounds journey.track in
    let here : limit_here train there ≡ limit = omega (arith, low, high, most, least_of) in
    let fit = fits_limit journey (along_track journey ++ listed last) limit permitted in
    let fits_it = fit_on wide narrow journey (listed last) limit at most known ordered fit train within beyond in
    let test : ℕ → Bool = fits_all train.max_front journey.gradient journey.brakes (along_track there ++ listed last) in
    let to_end : permitted_to train there last ≡ limit =
    ap (greatest test) here ∙ greatest_is test limit limit (omega arith) (inr fits_it) (λ k above below. absurd (omega (arith, above, below))) in
    released (permitted_to train there) limit national journey.bounds.end to_end
    (λ other. omega (arith, here, greatest_within (fits_all train.max_front journey.gradient journey.brakes (along_track there ++ listed other)) (limit_here train there)))

-- ---- a steady limit

-- is the permitted speed of a train within its window, where all else that it holds for is the same
pub permitted_is : (steady : SteadyLimit) (life : Life) (train : Train) → IsSteady steady life → IsWithin steady (span_of life) →
    steady.bounds ≡ bounds_of life train → steady.brakes ≡ train.brakes → steady.national ≡ in_areas (values_of life) →
    steady.limit ≡ permitted_speed life train
permitted_is steady life train holds_it within bounds brakes national =
    let span : Span = span_of life in
    let release : ℕ = (values_of life).release in
    let same : steady_journey steady life span ≡ journey_of life train = λ i. record {
      front = span.max_front;
      bounds = bounds i;
      track = record (along life) { national = national i };
      gradient = (gradients_of (tracks life.entries)).value;
      brakes = brakes i;
    } in
    sym (holds_it span release within) ∙ ap (λ (journey : Journey). permitted_on span journey release) same
