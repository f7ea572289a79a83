-- Of which kinds a target is that a speed doesn't fit, where the speed fits all of the kinds before.
use Rattle.std.proofs.Common.{◌≡◌, ℕ, pos, ◌+ℤ◌, ◌<ℤ◌, ◌≤◌, List, [], ◌∷◌, inl, inr, true, false, ap, sym, subst, ◌∙◌, arith}
use Rattle.std.specs.Prelude.{Option, None, Some, IsSomeAnd, int_lt}
use Rattle.std.proofs.lemmas.Bool.{and_parts}
use Rattle.std.proofs.lemmas.Int.{ints}
use Rattle.units.proofs.Gathering.{IsIn, in_over}
use Rattle.track_store.specs.declared.restriction.Restriction.{Restriction}
use Rattle.track_store.specs.Covering.{covers}
use Rattle.areas.specs.Areas.{speed_in}
use Rattle.authority.specs.declared.answers.End.{End}
use Rattle.braking.specs.declared.target.Target.{Target}
use Rattle.speed_profile.specs.declared.reported.CategorySpeeds.{CategorySpeeds}
use Rattle.speed_profile.specs.Reported.{speed_of}
use Rattle.speed_profile.specs.Ahead.{greatest_place, over_ahead, static_targets, restriction_targets, unknown_target, static_target}
use Rattle.speed_profile.proofs.Members.{passes}
use Rattle.speed_supervision.specs.declared.cause.TargetKind.{TargetKind}
use Rattle.speed_supervision.specs.declared.cause.TargetKind.TheVariants as kind
use Rattle.speed_supervision.specs.Targets.{Journey, IsAhead, IsOfKind, along_track, fits_on, fits_all_on}
use Rattle.speed_supervision.specs.Supervised.{order_of}
use Rattle.speed_supervision.proofs.Finding.{in_from_contains, listed_in}
use Rattle.speed_supervision.proofs.Hindering.{static_ahead, restriction_ahead, area_ahead, at_its_place}

module _ (journey : Journey) where
  pub fit_each : (targets : List Target) (v : ℕ) → fits_all_on journey targets v ≡ true → (t : Target) → IsIn t targets → fits_on journey t v ≡ true
  fit_each [] v h t there = absurd there
  fit_each (target ∷ targets) v h t there =
      let parts = and_parts (fits_on journey target v) (fits_all_on journey targets v) h in
      elim there [
        | inl same ↦ ap (λ (x : Target). fits_on journey x v) same ∙ parts.0
        | inr k ↦ fit_each targets v parts.1 t k
      ]

  -- ---- what a kind asks for

  known_is : (value : Option CategorySpeeds) (target : Target) → IsSomeAnd value (λ s. target.speed ≡ speed_of s journey.bounds.category) →
      static_target journey.bounds target.place value ≡ Some target
  known_is None target h = absurd h
  known_is (Some speeds) target h = ap Some (at_its_place target (speed_of speeds journey.bounds.category) h)

  stop_is : (end : Option End) (target : Target) → target.speed ≡ 0 → IsSomeAnd end (λ e. target.place <ℤ e.place) →
      unknown_target end target.place ≡ Some target
  stop_is None target stop h = absurd h
  stop_is (Some end) target stop h =
      let before : int_lt target.place end.place ≡ true = grind (arith, ints, h) in
      rw before (ap Some (at_its_place target 0 stop))

  unknown_is : (value : Option CategorySpeeds) (target : Target) → value ≡ None → target.speed ≡ 0 →
      IsSomeAnd journey.bounds.end (λ e. target.place <ℤ e.place) → static_target journey.bounds target.place value ≡ Some target
  unknown_is value target none stop h =
      ap (static_target journey.bounds target.place) none ∙ stop_is journey.bounds.end target stop h

  static_in : (target : Target) → IsAhead journey target.place →
      static_target journey.bounds target.place (journey.track.static target.place) ≡ Some target →
      IsIn target (over_ahead journey.front (static_targets journey.bounds journey.track.static))
  static_in target ahead is =
      in_over (static_targets journey.bounds journey.track.static) (journey.front +ℤ pos 1) greatest_place target target.place
      (omega (arith, ints, ahead.0)) ahead.1 (listed_in (static_target journey.bounds target.place (journey.track.static target.place)) target is)

  module _ (speed : ℕ) (target : Target) (unfit : fits_on journey target speed ≡ false) where
    unlike : (targets : List Target) → fits_all_on journey targets speed ≡ true → IsIn target targets → ⊥
    unlike targets fit there =
        let no : true ≡ false = sym (fit_each targets speed fit target there) ∙ unfit in cc

    pub past_static : fits_all_on journey (over_ahead journey.front (static_targets journey.bounds journey.track.static)) speed ≡ true →
        (k : TargetKind) → IsOfKind journey target k → 1 ≤ order_of k
    past_static fit kind.StaticSpeed is =
        absurd (unlike (over_ahead journey.front (static_targets journey.bounds journey.track.static)) fit
        (static_in target is.0 (known_is (journey.track.static target.place) target is.1)))
    past_static fit kind.UnknownSpeed is =
        absurd (unlike (over_ahead journey.front (static_targets journey.bounds journey.track.static)) fit
        (static_in target is.0 (unknown_is (journey.track.static target.place) target is.1 is.2 is.3)))
    past_static fit (kind.Restriction r) is = omega arith
    past_static fit (kind.Area a) is = omega arith
    past_static fit kind.EndOfAuthority is = omega arith
    past_static fit kind.SupervisedLocation is = omega arith

    pub past_restrictions : fits_all_on journey (over_ahead journey.front (static_targets journey.bounds journey.track.static)) speed ≡ true →
        fits_all_on journey (over_ahead journey.front (restriction_targets journey.track.restrictions.mark journey.track.restrictions.restrictions)) speed ≡ true →
        (k : TargetKind) → IsOfKind journey target k → 2 ≤ order_of k
    past_restrictions fit others kind.StaticSpeed is = absurd (let no : 1 ≤ 0 = past_static fit kind.StaticSpeed is in omega arith)
    past_restrictions fit others kind.UnknownSpeed is = absurd (let no : 1 ≤ 0 = past_static fit kind.UnknownSpeed is in omega arith)
    past_restrictions fit others (kind.Restriction r) is =
        let mark = journey.track.restrictions.mark in
        let all = journey.track.restrictions.restrictions in
        let here : IsIn target (restriction_targets mark all target.place) =
        subst (λ (t : Target). IsIn t (restriction_targets mark all target.place)) (at_its_place target r.speed is.3)
        (passes (λ (x : Restriction). record { place = target.place; speed = x.speed }) (covers mark target.place) all r
        (in_from_contains all r is.1) is.2) in
        absurd (unlike (over_ahead journey.front (restriction_targets mark all)) others
        (in_over (restriction_targets mark all) (journey.front +ℤ pos 1) greatest_place target target.place
        (omega (arith, ints, is.0.0)) is.0.1 here))
    past_restrictions fit others (kind.Area a) is = omega arith
    past_restrictions fit others kind.EndOfAuthority is = omega arith
    past_restrictions fit others kind.SupervisedLocation is = omega arith

    pub past_along : fits_all_on journey (along_track journey) speed ≡ true → (k : TargetKind) → IsOfKind journey target k → 3 ≤ order_of k
    past_along fit kind.StaticSpeed is =
        absurd (unlike (along_track journey) fit (in_from_contains (along_track journey) target
        (static_ahead journey target target.place is.0 (known_is (journey.track.static target.place) target is.1))))
    past_along fit kind.UnknownSpeed is =
        absurd (unlike (along_track journey) fit (in_from_contains (along_track journey) target
        (static_ahead journey target target.place is.0 (unknown_is (journey.track.static target.place) target is.1 is.2 is.3))))
    past_along fit (kind.Restriction r) is =
        absurd (unlike (along_track journey) fit (in_from_contains (along_track journey) target
        (restriction_ahead journey target target.place is.0 r is.1 is.2 (at_its_place target r.speed is.3))))
    past_along fit (kind.Area a) is =
        absurd (unlike (along_track journey) fit (in_from_contains (along_track journey) target
        (area_ahead journey target target.place is.0 a is.1 is.2 (at_its_place target (speed_in journey.track.national a) is.3))))
    past_along fit kind.EndOfAuthority is = omega arith
    past_along fit kind.SupervisedLocation is = omega arith
