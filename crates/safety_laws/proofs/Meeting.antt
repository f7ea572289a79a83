-- The limit fits the end of the authority, and all that lies ahead.
use Rattle.std.proofs.Common.{◌≡◌, ℕ, zero, suc, ℤ, pos, ◌+ℤ◌, ◌≤ℤ◌, ◌<ℤ◌, ◌≤◌, ◌*◌, Bool, true, false, List, [], ◌∷◌, ◌++◌, min, max, cond, refl, ap, sym, ◌∙◌, subst, arith, inl, inr, ◌⊎◌}
use Rattle.std.specs.Prelude.{Option, Some, None, unwrap_or, int_lt}
use Rattle.std.specs.Option.{option_map, option_or}
use Rattle.std.proofs.lemmas.Bool.{and_from, and_parts, cond_both}
use Rattle.std.proofs.lemmas.Int.{ints}
use Rattle.areas.specs.declared.area.Area.{Area}
use Rattle.areas.specs.Areas.{speed_in}
use Rattle.authority.specs.Authority.{end_of, end_now, end_by, taken_back, overlap_in_force, overlap_has_run_out, overlap_point_of, danger_point_of, bare_end}
use Rattle.authority.specs.Entries.{AuthorityEntry, Fact, Sight, accepted, now_of, sights}
use Rattle.authority.specs.Laws.{IsAmong}
use Rattle.authority.specs.Track.{reported_end}
use Rattle.authority.specs.declared.answers.End.{End}
use Rattle.brakes.specs.declared.brakes.Brakes.{Brakes}
use Rattle.braking.specs.declared.target.Target.{Target}
use Rattle.braking.specs.Braking.{fits, fits_all, greatest}
use Rattle.braking.proofs.Slower.{slower_fits, slow_fits}
use Rattle.packets.specs.declared.authority.DangerPoint.{DangerPoint}
use Rattle.packets.specs.declared.authority.Overlap.{Overlap}
use Rattle.track_store.specs.declared.restriction.Restriction.{Restriction}
use Rattle.track_store.specs.Covering.{covers}
use Rattle.vars.specs.declared.scale.Scale.{Scale}
use Rattle.speed_profile.proofs.Farther.{IsNoNearer, farther_fits}
use Rattle.speed_profile.proofs.Members.{in_left, in_right, passes}
use Rattle.speed_profile.specs.Ahead.{targets_ahead, targets_at, static_targets, static_target, unknown_target, restriction_targets, area_targets, is_inside, greatest_place}
use Rattle.speed_profile.specs.declared.limit.Bounds.{Bounds}
use Rattle.speed_profile.specs.declared.reported.CategorySpeeds.{CategorySpeeds}
use Rattle.speed_profile.specs.Reported.{speed_of}
use Rattle.speed_profile.specs.Track.{TrackSpeeds}
use Rattle.track_store.specs.Profiles.{listed}
use Rattle.driver.specs.Limits.{Train}
use Rattle.mode_table.specs.declared.mode.Mode.{Mode}
use Rattle.mode_table.specs.declared.mode.Mode.TheVariants.{FullSupervision, OnSight}
use Rattle.mode_table.specs.Modes.{is_one_of}
use Rattle.track_picture.specs.History.{authorities}
use Rattle.units.proofs.Gathering.{IsIn, in_over}
use Rattle.mode_control.specs.History.{tracks, mode_of}
use Rattle.mode_control.specs.Life.{Life, driver_of}
use Rattle.mode_control.specs.Sentences.{values_of}
use Rattle.speed_supervision.specs.Limit.{bounds_of, along, supervised_limit, permitted_to, release_speed, with_release_speed, released_by, permitted_for, limit_in, limit}
use Rattle.safety_laws.specs.Running.{modes_by_authority}
use Rattle.safety_laws.specs.Stopping.{front_of, gradient_along, square_at, IsSupervised, BrakesFromLimit, KeepsTrackSpeeds}
use Rattle.safety_laws.proofs.Courses.{slows}

-- ---- what is among some, in both words

pub to_in : {A : Type 0} (x : A) (xs : List A) → IsAmong x xs → IsIn x xs
to_in x [] there = absurd there
to_in x (y ∷ ys) there = elim there [ inl same ↦ inl same | inr later ↦ inr (to_in x ys later) ]

pub to_among : {A : Type 0} (x : A) (xs : List A) → IsIn x xs → IsAmong x xs
to_among x [] there = absurd there
to_among x (y ∷ ys) there = elim there [ inl same ↦ inl same | inr later ↦ inr (to_among x ys later) ]

-- ---- the greatest number that passes a test passes it

greatest_fits : (test : ℕ → Bool) (n : ℕ) → test 0 ≡ true → test (greatest test n) ≡ true
unfolding greatest
greatest_fits test zero h = h
greatest_fits test (suc n) h =
    cond_both (test (suc n)) (suc n) (greatest test n) (λ k. test k ≡ true) (λ e. e) (λ e. greatest_fits test n h)

is_less : (one other : ℤ) → one <ℤ other → int_lt one other ≡ true
is_less one other h = grind (arith, ints)

-- ---- the supervised location isn't before the end

bare : (end : ℤ) (scale : Scale) (danger : Option DangerPoint) →
    end ≤ℤ (unwrap_or (option_map (danger_point_of end scale) danger) (bare_end end)).location
bare end scale None = omega (arith, ints)
bare end scale (Some point) = omega (arith, ints)

within : (end : ℤ) (scale : Scale) (now : ℕ) (seen : List Sight) (overlap : Option Overlap) (danger : Option DangerPoint) →
    end ≤ℤ (unwrap_or (option_or (overlap_in_force end scale now seen overlap) (option_map (danger_point_of end scale) danger)) (bare_end end)).location
within end scale now seen None danger = bare end scale danger
within end scale now seen (Some overlap) danger =
    let cases : (b : Bool) → end ≤ℤ (unwrap_or (option_or (cond b None (Some (overlap_point_of end scale overlap))) (option_map (danger_point_of end scale) danger)) (bare_end end)).location =
    elim [ true ↦ bare end scale danger | false ↦ omega (arith, ints) ] in
    cases (overlap_has_run_out end scale now seen overlap)

by_place : (fact : Fact) (now : ℕ) (seen : List Sight) (taken : Option ℤ) → (end_by fact now seen taken).place ≤ℤ (end_by fact now seen taken).location
by_place fact now seen None = within (reported_end fact) fact.packet.scale now seen fact.packet.overlap fact.packet.danger_point
by_place fact now seen (Some place) = omega (arith, ints)

abbrev located : Option End → Type 0
located None = Unit {0}
located (Some end) = end.place ≤ℤ end.location

by_fact : (now : ℕ) (seen : List Sight) (fact : Option Fact) (end : End) → option_map (λ f. end_now f now seen) fact ≡ Some end → end.place ≤ℤ end.location
by_fact now seen None end h = absurd (let no : None ≡ Some end = h in cc)
by_fact now seen (Some fact) end h = subst located h (by_place fact now seen (taken_back fact now seen))

end_located : (entries : List AuthorityEntry) (end : End) → end_of entries ≡ Some end → end.place ≤ℤ end.location
end_located entries end h = by_fact (now_of entries) (sights entries) (accepted entries) end h

-- ---- a speed that fits a list with a last target fits that one, and each before it

module _ (front : ℤ) (gradient : ℤ → Option ℤ) (brakes : Brakes) where
  pub stopped_fits : (targets : List Target) → fits_all front gradient brakes targets 0 ≡ true
  stopped_fits [] = refl
  stopped_fits (t ∷ targets) =
      and_from (fits front gradient brakes t 0) (fits_all front gradient brakes targets 0) (slow_fits front gradient brakes t 0 (omega arith)) (stopped_fits targets)

  fit_each : (targets : List Target) (v : ℕ) → fits_all front gradient brakes targets v ≡ true → (t : Target) → IsIn t targets →
      fits front gradient brakes t v ≡ true
  fit_each [] v h t there = absurd there
  fit_each (target ∷ targets) v h t there =
      let parts = and_parts (fits front gradient brakes target v) (fits_all front gradient brakes targets v) h in
      elim there [
        | inl same ↦ ap (λ (x : Target). fits front gradient brakes x v) same ∙ parts.0
        | inr k ↦ fit_each targets v parts.1 t k
      ]

  -- the greatest speed that fits a list fits each of it
  pub permitted_fits : (targets : List Target) (limit : ℕ) (t : Target) → IsIn t targets →
      fits front gradient brakes t (greatest (fits_all front gradient brakes targets) limit) ≡ true
  permitted_fits targets limit t there =
      let test : ℕ → Bool = fits_all front gradient brakes targets in
      fit_each targets (greatest test limit) (greatest_fits test limit (stopped_fits targets)) t there

  -- the greater of a speed that fits, and of one up to which one fits, fits
  pub either_fits : (t : Target) (v w r : ℕ) → fits front gradient brakes t v ≡ true → fits front gradient brakes t w ≡ true →
      fits front gradient brakes t (max v (min r w)) ≡ true
  either_fits t v w r fit other =
      let order : (max v (min r w) ≤ v) ⊎ (max v (min r w) ≤ w) = grind arith in
      elim order [
        | inl less ↦ slower_fits front gradient brakes t v (max v (min r w)) less fit
        | inr less ↦ slower_fits front gradient brakes t w (max v (min r w)) less other
      ]

-- ---- a life

module _ (life : Life) (train : Train) where
  abbrev can_meet : Target → ℕ → Type 0
  can_meet t v = fits (front_of life) (gradient_along life) train.brakes t v ≡ true

  abbrev ahead : List Target
  ahead = targets_ahead (front_of life) (bounds_of life train) (along life)

  by_last : (last : Target) → can_meet last (permitted_to life train (Some last))
  by_last last =
      permitted_fits (front_of life) (gradient_along life) train.brakes (ahead ++ last ∷ []) (supervised_limit life train) last
      (in_right last ahead (last ∷ []) (inl refl))

  by_each : (last t : Target) → IsIn t ahead → can_meet t (permitted_to life train (Some last))
  by_each last t there =
      permitted_fits (front_of life) (gradient_along life) train.brakes (ahead ++ last ∷ []) (supervised_limit life train) t
      (in_left t ahead (last ∷ []) there)

  module _ (end : End) where
    abbrev to_end : Target
    to_end = record { place = end.place; speed = end.speed }

    abbrev stop : Target
    stop = record { place = end.location; speed = 0 }

    abbrev by_rule : ℕ
    by_rule = with_release_speed (permitted_to life train) end (values_of life).release

    at_location : end.place ≤ℤ end.location → end.speed ≡ 0 → can_meet stop by_rule
    at_location beyond none =
        let near : IsNoNearer to_end stop = record { place = beyond; speed = omega (arith, none) } in
        either_fits (front_of life) (gradient_along life) train.brakes stop (permitted_to life train (Some to_end)) (permitted_to life train (Some stop))
        (release_speed end.release (values_of life).release)
        (farther_fits (front_of life) (gradient_along life) train.brakes to_end stop (permitted_to life train (Some to_end)) near (by_last to_end))
        (by_last stop)

    at_end : release_speed end.release (values_of life).release ≡ 0 → can_meet to_end by_rule
    at_end none =
        slower_fits (front_of life) (gradient_along life) train.brakes to_end (permitted_to life train (Some to_end)) by_rule
        (omega (arith, none)) (by_last to_end)

    at_each : (t : Target) → IsIn t ahead → can_meet t by_rule
    at_each t there =
        either_fits (front_of life) (gradient_along life) train.brakes t (permitted_to life train (Some to_end)) (permitted_to life train (Some stop))
        (release_speed end.release (values_of life).release) (by_each to_end t there) (by_each stop t there)

    -- what the rule answers is the limit
    by_mode : (mode : Mode) → is_one_of modes_by_authority mode ≡ true → limit_in mode life ≡ permitted_for life (driver_of life).train_data
    by_mode FullSupervision h = refl
    by_mode OnSight h = refl
    by_mode other h = absurd (let no : false ≡ true = h in cc)

    module _ (supervised : IsSupervised life train end) where
      pub limit_is : limit life ≡ by_rule
      limit_is =
          by_mode (mode_of life.entries) supervised.in_mode ∙ ap (permitted_for life) supervised.by_data
          ∙ ap (λ (e : Option End). released_by (permitted_to life train) e (values_of life).release) supervised.by_authority

      pub stops : end.speed ≡ 0 → can_meet stop (limit life)
      stops none = subst (can_meet stop) (sym limit_is) (at_location (end_located (authorities (tracks life.entries)) end supervised.by_authority) none)

      pub ends : release_speed end.release (values_of life).release ≡ 0 → can_meet to_end (limit life)
      ends none = subst (can_meet to_end) (sym limit_is) (at_end none)

      each : (t : Target) → IsIn t ahead → can_meet t (limit life)
      each t there = subst (can_meet t) (sym limit_is) (at_each t there)

      module _ (square : ℕ → ℕ) (braking : BrakesFromLimit life train square) where
        pub meets : (t : Target) → can_meet t (limit life) → square_at life square t.place ≤ t.speed * t.speed
        meets t fit =
            slows (front_of life) (gradient_along life) train.brakes braking.speed square braking.run t
            (slower_fits (front_of life) (gradient_along life) train.brakes t (limit life) braking.speed braking.within fit)

        -- ---- what a centimetre ahead asks for

        module _ (place : ℤ) (after : front_of life <ℤ place) (before : place ≤ℤ greatest_place) where
          abbrev bounds : Bounds
          bounds = bounds_of life train

          abbrev track : TrackSpeeds
          track = along life

          abbrev at : ℕ → Target
          at speed = record { place = place; speed = speed }

          here : (speed : ℕ) → IsIn (at speed) (targets_at bounds track place) → square_at life square place ≤ speed * speed
          here speed there =
              meets (at speed) (each (at speed) (in_over (targets_at bounds track) (front_of life +ℤ pos 1) greatest_place (at speed) place
              (omega (arith, ints, after)) before there))

          by_static : (speeds : CategorySpeeds) → track.static place ≡ Some speeds → IsIn (at (speed_of speeds train.category)) (static_targets bounds track.static place)
          by_static speeds is =
              subst (λ (known : Option CategorySpeeds). IsIn (at (speed_of speeds train.category)) (listed (static_target bounds place known))) (sym is) (inl refl)

          by_unknown : (e : End) → end_of (authorities (tracks life.entries)) ≡ Some e → place <ℤ e.place → track.static place ≡ None →
              IsIn (at 0) (static_targets bounds track.static place)
          by_unknown e known short is =
              let within : int_lt place e.place ≡ true = is_less place e.place short in
              let inside : IsIn (at 0) (listed (cond (int_lt place e.place) (Some (at 0)) None)) =
              subst (λ (b : Bool). IsIn (at 0) (listed (cond b (Some (at 0)) None))) (sym within) (inl refl) in
              let requested : IsIn (at 0) (listed (unknown_target (end_of (authorities (tracks life.entries))) place)) =
              subst (λ (o : Option End). IsIn (at 0) (listed (unknown_target o place))) (sym known) inside in
              subst (λ (known : Option CategorySpeeds). IsIn (at 0) (listed (static_target bounds place known))) (sym is) requested

          abbrev static : List Target
          static = static_targets bounds track.static place

          abbrev restricted : List Target
          restricted = restriction_targets track.restrictions.mark track.restrictions.restrictions place

          abbrev in_areas : List Target
          in_areas = area_targets track.national track.areas place

          of_track : (t : Target) → IsIn t static → IsIn t (targets_at bounds track place)
          of_track t there = in_left t (static ++ restricted) in_areas (in_left t static restricted there)

          of_restriction : (t : Target) → IsIn t restricted → IsIn t (targets_at bounds track place)
          of_restriction t there = in_left t (static ++ restricted) in_areas (in_right t static restricted there)

          of_area : (t : Target) → IsIn t in_areas → IsIn t (targets_at bounds track place)
          of_area t there = in_right t (static ++ restricted) in_areas there

          pub keeps : KeepsTrackSpeeds life train square place
          keeps = record {
            static = λ speeds is. here (speed_of speeds train.category) (of_track (at (speed_of speeds train.category)) (by_static speeds is));
            unknown = λ e known short is. (let none = here 0 (of_track (at 0) (by_unknown e known short is)) in omega (arith, none));
            restricted = λ restriction there covered. here restriction.speed (of_restriction (at restriction.speed)
                (passes (λ (r : Restriction). at r.speed) (covers track.restrictions.mark place) track.restrictions.restrictions restriction
                (to_in restriction track.restrictions.restrictions there) covered));
            in_area = λ area there inside. here (speed_in track.national area) (of_area (at (speed_in track.national area))
                (passes (λ (a : Area). at (speed_in track.national a)) (is_inside place) track.areas area (to_in area track.areas there) inside));
          }
