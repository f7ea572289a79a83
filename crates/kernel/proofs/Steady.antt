-- A steady limit stays steady in a calm event, while no track is forgotten that the train may cover within the window.
use Rattle.std.proofs.Common.{◌≡◌, ℕ, zero, suc, ◌+◌, ◌*◌, ◌-◌, ℤ, pos, ◌+ℤ◌, ◌≤ℤ◌, List, [], ◌++◌, map, Bool, true, false, cond, refl, sym, ◌∙◌, arith}
use Rattle.std.specs.Prelude.{Option, Some, None, unwrap_or, not, ◌&&◌, ◌||◌, int_lt, nat_lt, nat_le, filter, IfSome}
use Rattle.std.specs.List.{list_all}
use Rattle.std.proofs.lemmas.Int.{ints}
use Rattle.std.proofs.lemmas.List.Elements.{filter_agree}
use Rattle.std.proofs.Math.Bool.{and-true}
use Rattle.std.proofs.lemmas.Option.{IfSome_then}
use Rattle.units.specs.Stretches.{Span, gathered, least, count_between}
use Rattle.areas.specs.Areas.{least_speed as least_in_areas, speed_in}
use Rattle.brakes.specs.Brakes.{slowing_on, reaction_way}
use Rattle.braking.specs.declared.target.Target.{Target}
use Rattle.braking.specs.Braking.{braked, distance_to, greatest}
use Rattle.events.specs.declared.input.Input.{Input}
use Rattle.mode_table.specs.declared.mode.Mode.{Mode}
use Rattle.mode_table.specs.Modes.{is_mode}
use Rattle.mode_table.specs.Rows.{next_mode}
use Rattle.track_store.specs.Covering.{covers, train_start}
use Rattle.speed_profile.specs.Ahead.{greatest_place, is_inside, static_target, targets_ahead, targets_at}
use Rattle.speed_profile.specs.Limit.{bound_speed, limiting_value, speeds_at}
use Rattle.track_store.specs.Profiles.{listed}
use Rattle.track_store.specs.Restrictions as restrictions
use Rattle.track_store.specs.Restrictions.{InForce}
use Rattle.mode_control.specs.History.{tracks, mode_of}
use Rattle.mode_control.specs.Life.{Life, grown}
use Rattle.mode_control.specs.Conditions.{conditions}
use Rattle.mode_control.specs.Sentences.{entry_of, span_of, train_in}
use Rattle.mode_control.specs.Tripping.{seen_by}
use Rattle.speed_supervision.specs.declared.steady.SteadyLimit.{SteadyLimit}
use Rattle.speed_supervision.specs.Limit.{released_by}
use Rattle.speed_supervision.specs.Steady.{IsSteady, journey_of}
use Rattle.speed_supervision.specs.Supervised.{limit_here, permitted_to}
use Rattle.speed_supervision.specs.Targets.{Journey}
use Rattle.track_picture.specs.Sentences.{forgetting_mark}
use Rattle.kernel.specs.declared.carried.Carried.{Carried}
use Rattle.kernel.specs.Carrying.{IsCarried, IsCarriedAhead, IsSteadyAhead}
use Rattle.kernel.proofs.Calm.{Alike, alike, covering}

-- ---- what is the same at each place from one on, over a stretch that begins there

gathered_same : {A : Type 0} (f g : ℤ → List A) (from : ℤ) (n : ℕ) → ((place : ℤ) → from ≤ℤ place → f place ≡ g place) → gathered f from n ≡ gathered g from n
unfolding gathered
gathered_same f g from zero same = refl
gathered_same f g from (suc n) same =
    let here = same from (omega (arith, ints)) in
    let rest = gathered_same f g (from +ℤ pos 1) n (λ place above. same place (omega (arith, ints))) in
    λ i. here i ++ rest i

braked_same : (f g : ℤ → Option ℤ) (deceleration : ℕ) (from : ℤ) (n : ℕ) → ((place : ℤ) → from ≤ℤ place → f place ≡ g place) →
    braked f deceleration from n ≡ braked g deceleration from n
unfolding braked
braked_same f g deceleration from zero same = refl
braked_same f g deceleration from (suc n) same =
    let here = same from (omega (arith, ints)) in
    let rest = braked_same f g deceleration (from +ℤ pos 1) n (λ place above. same place (omega (arith, ints))) in
    λ i. 2592 * slowing_on deceleration (here i) + rest i

whole : (track : InForce) (place : ℤ) → covering track place (λ r. true) ≡ filter (covers track.mark place) track.restrictions
whole track place =
    filter_agree (λ r. covers track.mark place r && true) (covers track.mark place) (λ r. and-true (covers track.mark place r)) track.restrictions

-- ---- the permitted speed of a train asks for no place behind its minimum safe rear

module _ (now before : Life) (steady : SteadyLimit) (train : Span) (same : Alike train.rear (tracks now.entries) (tracks before.entries)) (ordered : train.rear ≤ℤ train.max_front) where
  abbrev one : Journey
  one = journey_of steady now train

  abbrev other : Journey
  other = journey_of steady before train

  limit_same : limit_here train one ≡ limit_here train other
  limit_same =
      let count = count_between train.rear train.max_front in
      let static = gathered_same (speeds_at one.track.static steady.bounds.category train) (speeds_at other.track.static steady.bounds.category train) train.rear count
      (λ place above i. listed (limiting_value steady.bounds.category train.min_front place (same.speeds place above i))) in
      let restricted = gathered_same (restrictions.speeds_at one.track.restrictions train) (restrictions.speeds_at other.track.restrictions train) train.rear count
      (λ place above i. map (λ r. r.speed) (same.restrictions place above (λ r. not (int_lt place (train_start train.rear train.min_front r.delay))) i)) in
      λ i. least_in_areas steady.national train (least (least (bound_speed train.max_front steady.bounds) (static i)) (restricted i)) (same.areas i)

  targets_same : targets_ahead train.max_front steady.bounds one.track ≡ targets_ahead train.max_front steady.bounds other.track
  targets_same =
      gathered_same (targets_at steady.bounds one.track) (targets_at steady.bounds other.track) (train.max_front +ℤ pos 1)
      (count_between (train.max_front +ℤ pos 1) greatest_place)
      (λ place ahead.
      let above : train.rear ≤ℤ place = omega (arith, ints) in
      let covered = sym (whole one.track.restrictions place) ∙ same.restrictions place above (λ r. true) ∙ whole other.track.restrictions place in
      λ i. listed (static_target steady.bounds place (same.speeds place above i))
      ++ map (λ r. record { place = place; speed = r.speed }) (covered i)
      ++ map (λ area. record { place = place; speed = speed_in steady.national area }) (filter (is_inside place) (same.areas i)))

  permitted_same : (last : Option Target) → permitted_to train one last ≡ permitted_to train other last
  permitted_same last =
      let way = reaction_way steady.brakes.reaction in
      let from = train.max_front in
      let slowed = λ (target : Target) (speed : ℕ).
      braked_same one.gradient other.gradient steady.brakes.deceleration (from +ℤ pos (way speed)) (distance_to from target - way speed)
      (λ place above. same.gradients place (omega (arith, ints))) in
      λ i. greatest
      (λ speed. list_all
      (λ target. nat_le speed target.speed
      || (nat_lt (way speed) (distance_to from target)
      && nat_le (speed * speed) (target.speed * target.speed + slowed target speed i)))
      (targets_same i ++ listed last))
      (limit_same i)

steady_after : (now before : Life) (steady : SteadyLimit) → steady.narrowest.rear ≤ℤ steady.narrowest.max_front →
    ((train : Span) → steady.widest.rear ≤ℤ train.rear → Alike train.rear (tracks now.entries) (tracks before.entries)) → IsSteady steady before → IsSteady steady now
steady_after now before steady ordered same was train national within =
    (λ i. released_by (λ last. permitted_same now before steady train (same train within.0.0) (omega (arith, ints, within.1.0, within.1.2)) last i) steady.bounds.end national)
    ∙ was train national within

-- ---- a calm event

unentered : (old new : Mode) (same : Bool) → is_mode old new ≡ same → is_mode old (unwrap_or (cond same None (Some new)) old) ≡ true →
    cond same None (Some new) ≡ None
unentered old new true is kept = refl
unentered old new false is kept = absurd (let no : true ≡ false = sym kept ∙ is in cc)

pub stays_ahead : (life : Life) (input : Input) → (entry_of life input).track.used.groups ≡ [] →
    is_mode (mode_of life.entries) (mode_of (grown life (entry_of life input)).entries) ≡ true →
    (carried : Carried) → IsCarried carried life → IsCarriedAhead carried (grown life (entry_of life input))
stays_ahead life input closed kept carried was =
    let entry = entry_of life input in
    let after = grown life entry in
    let seen = grown life (seen_by life input) in
    let old = mode_of life.entries in
    let new = next_mode old (conditions seen (train_in seen (seen_by life input))) in
    let entered = unentered old new (is_mode old new) refl kept in
    IfSome_then carried.steady {P = λ steady. IsSteady steady life} {Q = λ steady. IsSteadyAhead steady after} was
    (λ steady is ordered near. steady_after after life steady ordered
    (λ train above. alike entry.track (tracks life.entries) (forgetting_mark (span_of after)) closed entered refl train.rear (omega (arith, ints)))
    is)

-- ---- what is carried gives the limit

pub still_given : (limit : ℕ) (steady : SteadyLimit) (life : Life) (found : Option ℕ) → steady.narrowest.rear ≤ℤ steady.narrowest.max_front →
    IsSteadyAhead steady life → (IsSteady steady life → IfSome found (λ speed. speed ≡ limit)) → IfSome found (λ speed. forgetting_mark (span_of life) ≤ℤ steady.widest.rear) →
    IfSome found (λ speed. (speed ≡ limit) × IsSteady steady life)
still_given limit steady life None ordered ahead given near = tt
still_given limit steady life (Some speed) ordered ahead given near = let is = ahead ordered near in (given is, is)
