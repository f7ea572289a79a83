-- What lies ahead, kind by kind, asks what each centimetre does.
use Rattle.std.proofs.Common.{◌≡◌, ℤ, pos, ◌+ℤ◌, List, ◌++◌, inl, inr, Bool, true, false, refl, ap, sym, ◌∙◌}
use Rattle.std.specs.Prelude.{Option, ◌&&◌}
use Rattle.units.specs.Stretches.{over}
use Rattle.units.proofs.Gathering.{over_at, in_over}
use Rattle.track_store.specs.Profiles.{listed}
use Rattle.braking.specs.declared.target.Target.{Target}
use Rattle.braking.specs.Braking.{fits_all}
use Rattle.speed_profile.specs.declared.limit.Bounds.{Bounds}
use Rattle.speed_profile.specs.Ahead.{greatest_place, over_ahead, static_targets, restriction_targets, area_targets, targets_ahead}
use Rattle.speed_profile.specs.Targets.{AskTheSame}
use Rattle.speed_profile.specs.Track.{TrackSpeeds}
use Rattle.speed_profile.proofs.Asking.{covered_ask, back, through, joined, same, fit_both}
use Rattle.speed_profile.proofs.Starting.{itself}
use Rattle.speed_profile.proofs.Members.{in_left, in_right, in_either}

-- two kinds at each centimetre, or one kind after the other
both_ask : (f g : ℤ → List Target) (from to : ℤ) → AskTheSame (over (λ c. f c ++ g c) from to) (over f from to ++ over g from to)
both_ask f g from to = covered_ask (over f from to) (over g from to) (over (λ c. f c ++ g c) from to) (record {
  first_in = λ t h. let at = over_at f from to t h in
      in_over (λ c. f c ++ g c) from to t at.0 at.1 at.2 (in_left t (f at.0) (g at.0) at.3);
  second_in = λ t h. let at = over_at g from to t h in
      in_over (λ c. f c ++ g c) from to t at.0 at.1 at.2 (in_right t (f at.0) (g at.0) at.3);
  nearer = λ t h. let at = over_at (λ c. f c ++ g c) from to t h in
      elim (in_either t (f at.0) (g at.0) at.3) [
        | inl a ↦ (t, inl (in_over f from to t at.0 at.1 at.2 a), itself t)
        | inr b ↦ (t, inr (in_over g from to t at.0 at.1 at.2 b), itself t)
      ];
})

in_turn_test : (s r i e : Bool) → (s && (r && (i && e))) ≡ (((s && r) && i) && e)
in_turn_test false r i e = refl
in_turn_test true false i e = refl
in_turn_test true true i e = refl

in_turn : (s r i e : List Target) → AskTheSame (s ++ (r ++ (i ++ e))) (s ++ r ++ i ++ e)
in_turn s r i e front gradient brakes v =
    let fit = λ (ts : List Target). fits_all front gradient brakes ts v in
    let fit_two = λ (some others : List Target). fit_both front gradient brakes some others v in
    let here : fit (s ++ (r ++ (i ++ e))) ≡ (fit s && (fit r && (fit i && fit e))) =
    fit_two s (r ++ (i ++ e)) ∙ ap (λ (b : Bool). fit s && b) (fit_two r (i ++ e) ∙ ap (λ (b : Bool). fit r && b) (fit_two i e)) in
    let there : fit (s ++ r ++ i ++ e) ≡ (((fit s && fit r) && fit i) && fit e) =
    fit_two (s ++ r ++ i) e ∙ ap (λ (b : Bool). b && fit e) (fit_two (s ++ r) i ∙ ap (λ (b : Bool). b && fit i) (fit_two s r)) in
    here ∙ in_turn_test (fit s) (fit r) (fit i) (fit e) ∙ sym there

module _ (front : ℤ) (bounds : Bounds) (track : TrackSpeeds) where
  abbrev speeds : List Target
  speeds = over_ahead front (static_targets bounds track.static)

  abbrev restricted : List Target
  restricted = over_ahead front (restriction_targets track.restrictions.mark track.restrictions.restrictions)

  abbrev inside : List Target
  inside = over_ahead front (area_targets track.national track.areas)

  kinds_ask : AskTheSame (targets_ahead front bounds track) (speeds ++ restricted ++ inside)
  kinds_ask =
      let static = static_targets bounds track.static in
      let restrictions = restriction_targets track.restrictions.mark track.restrictions.restrictions in
      let areas = area_targets track.national track.areas in
      let first : ℤ = front +ℤ pos 1 in
      let fit_two = over (λ c. static c ++ restrictions c) first greatest_place in
      through (targets_ahead front bounds track) (fit_two ++ inside) (speeds ++ restricted ++ inside)
      (both_ask (λ c. static c ++ restrictions c) areas first greatest_place)
      (joined fit_two inside (speeds ++ restricted) inside (both_ask static restrictions first greatest_place) (same inside))

  -- as they are reported
  pub reported_ask : (last : Option Target) →
      AskTheSame (speeds ++ (restricted ++ (inside ++ listed last))) (targets_ahead front bounds track ++ listed last)
  reported_ask last =
      let ends = listed last in
      let kinds = speeds ++ restricted ++ inside in
      through (speeds ++ (restricted ++ (inside ++ ends))) (kinds ++ ends) (targets_ahead front bounds track ++ ends)
      (in_turn speeds restricted inside ends)
      (joined kinds ends (targets_ahead front bounds track) ends (back (targets_ahead front bounds track) kinds kinds_ask) (same ends))
