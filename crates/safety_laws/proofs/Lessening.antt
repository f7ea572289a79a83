-- More to keep to asks for no higher speed.
use Rattle.std.proofs.Common.{◌≡◌, ℕ, zero, suc, ◌≤◌, ◌<◌, ◌+◌, ◌*◌, ℤ, pos, ◌+ℤ◌, ◌-ℤ◌, ◌≤ℤ◌, ◌<ℤ◌, List, [], ◌∷◌, ◌++◌, ◌⊎◌, inl, inr, Bool, true, false, min, max, refl, ap, sym, ◌∙◌, subst, arith}
use Rattle.std.specs.Prelude.{Option, Some, None, filter, map}
use Rattle.std.proofs.lemmas.Bool.{both_ways, cases_lt, cond_both, le-leb, leb-true}
use Rattle.std.proofs.lemmas.Int.{ints, by_lt_z}
use Rattle.areas.specs.Areas as areas
use Rattle.authority.specs.declared.answers.End.{End}
use Rattle.authority.specs.Laws.{IsAmong}
use Rattle.brakes.specs.declared.brakes.Brakes.{Brakes}
use Rattle.brakes.specs.Brakes.{reaction_way}
use Rattle.braking.specs.declared.target.Target.{Target}
use Rattle.braking.specs.Braking.{braked, fits, fits_all, greatest}
use Rattle.braking.proofs.Braked.{braked_over}
use Rattle.braking.proofs.Greatest.{greatest_within}
use Rattle.braking.proofs.Slower.{slow_fits, braking_fits, late_fails}
use Rattle.track_store.specs.declared.restriction.Restriction.{Restriction}
use Rattle.track_store.specs.Covering.{covers, limits_at}
use Rattle.speed_profile.proofs.Asking.{fit_all}
use Rattle.speed_profile.proofs.Members.{in_left, in_right, in_either, one_passed, passes}
use Rattle.speed_profile.specs.Ahead.{targets_ahead, targets_at, static_targets, restriction_targets, area_targets, permitted_ahead, greatest_place}
use Rattle.speed_profile.specs.Limit.{limit_on, least_static, bound_speed}
use Rattle.speed_profile.specs.Track.{TrackSpeeds}
use Rattle.track_store.specs.Profiles.{listed}
use Rattle.track_store.specs.Restrictions.{least_speed, speeds_at}
use Rattle.track_store.proofs.Jumps.{least_below}
use Rattle.units.proofs.Gathering.{IsIn, over_at, in_over}
use Rattle.units.specs.Stretches.{over, least, natural}
use Rattle.speed_supervision.specs.Limit.{release_speed, released_by}
use Rattle.safety_laws.specs.Limits.{Setting, permitted_on, IsMoreRestricted}
use Rattle.safety_laws.proofs.Meeting.{to_in, to_among, permitted_fits}

-- ---- the least of more speeds is no greater

pub least_of : (otherwise : ℕ) (vs : List ℕ) (v : ℕ) → IsIn v vs → least otherwise vs ≤ v
least_of otherwise [] v there = absurd there
least_of otherwise (w ∷ vs) v (inl same) = omega (arith, same)
least_of otherwise (w ∷ vs) v (inr later) = omega (arith, least_of otherwise vs v later)

least_of_more : (less otherwise : ℕ) (more vs : List ℕ) → less ≤ otherwise → ((v : ℕ) → IsIn v vs → IsIn v more) → least less more ≤ least otherwise vs
least_of_more less otherwise more [] h each = omega (arith, h, least_below less more)
least_of_more less otherwise more (v ∷ vs) h each =
    let here = least_of less more v (each v (inl refl)) in
    let rest = least_of_more less otherwise more vs h (λ w there. each w (inr there)) in
    omega (arith, here, rest)

-- ---- a number that passes a test is at most the greatest one that does

pub greatest_least : (test : ℕ → Bool) (n k : ℕ) → k ≤ n → test k ≡ true → k ≤ greatest test n
unfolding greatest
greatest_least test zero k h e = h
greatest_least test (suc n) k h e =
    cond_both (test (suc n)) (suc n) (greatest test n) (λ m. k ≤ m) (λ f. h)
    (λ f. (let either : (k ≡ suc n) ⊎ (k ≤ n) = grind arith in
    elim either [
      | inl same ↦ absurd (let no : false ≡ true = sym f ∙ sym (ap test same) ∙ e in cc)
      | inr below ↦ greatest_least test n k below e
    ]))

-- ---- restrictions

-- what restrictions that pass a test give, more of them give too
module _ {B : Type 0} (give : Restriction → B) (test : Restriction → Bool) (fewer more : List Restriction)
    (each : (r : Restriction) → IsAmong r fewer → IsAmong r more) where
  given_too : (x : B) → IsIn x (map give (filter test fewer)) → IsIn x (map give (filter test more))
  given_too x there =
      let one = one_passed give test fewer x there in
      let more_so : IsIn (give one.0) (map give (filter test more)) = passes give test more one.0 (to_in one.0 more (each one.0 (to_among one.0 fewer one.1))) one.2 in
      subst (λ (y : B). IsIn y (map give (filter test more))) (sym one.3) more_so

over_more : {A : Type 0} (f g : ℤ → List A) (from to : ℤ) → ((place : ℤ) (v : A) → IsIn v (f place) → IsIn v (g place)) → (v : A) → IsIn v (over f from to) → IsIn v (over g from to)
over_more f g from to each v there =
    let at = over_at f from to v there in
    in_over g from to v at.0 at.1 at.2 (each at.0 v at.3)

-- a track with these restrictions in place of its own
abbrev with : TrackSpeeds → List Restriction → TrackSpeeds
with track restrictions = record track { restrictions = record { mark = track.restrictions.mark; restrictions = restrictions } }

module _ (setting : Setting) (track : TrackSpeeds) (more : List Restriction)
    (each : (r : Restriction) → IsAmong r track.restrictions.restrictions → IsAmong r more) where
  abbrev fewer : List Restriction
  fewer = track.restrictions.restrictions

  abbrev mark : ℤ
  mark = track.restrictions.mark

  limit_less : limit_on setting.train setting.bounds (with track more) ≤ limit_on setting.train setting.bounds track
  limit_less =
      let static = least_static track.static setting.bounds.category setting.train (bound_speed setting.train.max_front setting.bounds) in
      let one = least_of_more static static
      (over (speeds_at (record { mark = mark; restrictions = more }) setting.train) setting.train.rear setting.train.max_front)
      (over (speeds_at track.restrictions setting.train) setting.train.rear setting.train.max_front) (omega arith)
      (over_more (speeds_at track.restrictions setting.train) (speeds_at (record { mark = mark; restrictions = more }) setting.train) setting.train.rear setting.train.max_front
      (λ place v there. given_too (λ (r : Restriction). r.speed) (limits_at mark setting.train place) fewer more each v there)) in
      let in_areas = map (areas.speed_in track.national) (filter (areas.is_met setting.train) track.areas) in
      least_of_more (least_speed (record { mark = mark; restrictions = more }) setting.train static) (least_speed track.restrictions setting.train static) in_areas in_areas one (λ v there. there)

  requested_too : (place : ℤ) (t : Target) → IsIn t (targets_at setting.bounds track place) → IsIn t (targets_at setting.bounds (with track more) place)
  requested_too place t there =
      let static = static_targets setting.bounds track.static place in
      let in_areas = area_targets track.national track.areas place in
      let theirs = restriction_targets mark fewer place in
      let all = restriction_targets mark more place in
      elim (in_either t (static ++ theirs) in_areas there) [
        | inl first ↦ in_left t (static ++ all) in_areas (elim (in_either t static theirs first) [
          | inl here ↦ in_left t static all here
          | inr here ↦ in_right t static all (given_too (λ (r : Restriction). record { place = place; speed = r.speed }) (covers mark place) fewer more each t here)
        ])
        | inr here ↦ in_right t (static ++ all) in_areas here
      ]

  ahead_too : (last : List Target) (t : Target) → IsIn t (targets_ahead setting.train.max_front setting.bounds track ++ last) →
      IsIn t (targets_ahead setting.train.max_front setting.bounds (with track more) ++ last)
  ahead_too last t there =
      let some = targets_ahead setting.train.max_front setting.bounds track in
      let all = targets_ahead setting.train.max_front setting.bounds (with track more) in
      elim (in_either t some last there) [
        | inl here ↦ in_left t all last (over_more (targets_at setting.bounds track) (targets_at setting.bounds (with track more)) (setting.train.max_front +ℤ pos 1) greatest_place requested_too t here)
        | inr here ↦ in_right t all last here
      ]

  abbrev permitted : TrackSpeeds → Option Target → ℕ
  permitted t last = permitted_ahead setting.train.max_front (limit_on setting.train setting.bounds t) last setting.bounds t setting.gradient setting.brakes

  permitted_less : (last : Option Target) → permitted (with track more) last ≤ permitted track last
  permitted_less last =
      let front = setting.train.max_front in
      let some = targets_ahead front setting.bounds track ++ listed last in
      let all = targets_ahead front setting.bounds (with track more) ++ listed last in
      let limit : ℕ = limit_on setting.train setting.bounds (with track more) in
      greatest_least (fits_all front setting.gradient setting.brakes some) (limit_on setting.train setting.bounds track) (permitted (with track more) last)
      (omega (arith, limit_less, greatest_within (fits_all front setting.gradient setting.brakes all) limit))
      (fit_all front setting.gradient setting.brakes some (permitted (with track more) last)
      (λ t there. permitted_fits front setting.gradient setting.brakes all limit t (ahead_too (listed last) t there)))

  rule_less : (end : Option End) → released_by (permitted (with track more)) end setting.release ≤ released_by (permitted track) end setting.release
  rule_less None = permitted_less None
  rule_less (Some end) =
      let one = permitted_less (Some (record { place = end.place; speed = end.speed })) in
      let other = permitted_less (Some (record { place = end.location; speed = 0 })) in
      greater (release_speed end.release setting.release) (permitted (with track more) (Some (record { place = end.place; speed = end.speed })))
      (permitted track (Some (record { place = end.place; speed = end.speed }))) (permitted (with track more) (Some (record { place = end.location; speed = 0 })))
      (permitted track (Some (record { place = end.location; speed = 0 }))) one other
    where
      greater : (r a b c d : ℕ) → a ≤ b → c ≤ d → max a (min r c) ≤ max b (min r d)
      greater r a b c d h k = grind arith

  pub with_more : permitted_on setting (with track more) ≤ permitted_on setting track
  with_more = rule_less setting.bounds.end

-- a track with more restrictions that is else the same
is_with : (fewer more : TrackSpeeds) → IsMoreRestricted fewer more → more ≡ with fewer more.restrictions.restrictions
is_with less more m = λ i. record {
  static = m.same_static i;
  restrictions = record { mark = m.same_mark i; restrictions = more.restrictions.restrictions };
  areas = m.same_areas i;
  national = m.same_national i;
}

pub never_raise : (setting : Setting) (fewer more : TrackSpeeds) → IsMoreRestricted fewer more → permitted_on setting more ≤ permitted_on setting fewer
never_raise setting fewer more m =
    subst (λ (t : TrackSpeeds). permitted_on setting t ≤ permitted_on setting fewer) (sym (is_with fewer more m))
    (with_more setting fewer more.restrictions.restrictions m.each)

-- ---- places

module _ (gradient : ℤ → Option ℤ) (brakes : Brakes) (target : Target) (speed : ℕ) (far near : ℤ) (beyond : far ≤ℤ near) where
  abbrev acts : ℤ → ℤ
  acts front = front +ℤ pos (reaction_way brakes.reaction speed)

  abbrev off : ℤ → ℕ
  off from = braked gradient brakes.deceleration from (natural (target.place -ℤ from))

  -- the brakes that act farther back take off no less
  braking_farther : target.speed < speed → acts near <ℤ target.place → fits near gradient brakes target speed ≡ true →
      fits far gradient brakes target speed ≡ true
  braking_farther fast early fit =
      let enough = leb-true (speed * speed) (target.speed * target.speed + off (acts near)) (braking_fits near gradient brakes target speed (acts near) fast refl early ∙ fit) in
      let more = braked_over gradient brakes.deceleration (acts far) (acts near) target.place (omega (arith, ints, beyond)) (omega (arith, ints, early)) in
      sym (braking_fits far gradient brakes target speed (acts far) fast refl (omega (arith, ints, beyond, early)))
      ∙ le-leb (speed * speed) (target.speed * target.speed + off (acts far)) (omega (arith, enough, more))

  pub fits_farther : fits near gradient brakes target speed ≡ true → fits far gradient brakes target speed ≡ true
  fits_farther fit =
      elim (cases_lt target.speed speed) [
        | inl fast ↦ by_lt_z (acts near) target.place (λ early. braking_farther fast early fit)
            (λ late. absurd (both_ways (fits near gradient brakes target speed) (late_fails near gradient brakes target speed fast late) fit))
        | inr slow ↦ slow_fits far gradient brakes target speed slow
      ]
