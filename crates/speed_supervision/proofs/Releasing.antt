-- Which part of the release rule gives the permitted speed.
use Rattle.std.proofs.Common.{◌≡◌, ℕ, ◌<◌, ◌≤◌, min, max, refl, ap, sym, ◌∙◌, subst, arith}
use Rattle.std.specs.Prelude.{Option, None, Some, IsSomeAnd}
use Rattle.units.specs.Stretches.{Span}
use Rattle.authority.specs.declared.answers.End.{End}
use Rattle.braking.specs.declared.target.Target.{Target}
use Rattle.braking.specs.Braking.{greatest}
use Rattle.speed_supervision.specs.Limit.{release_speed, released_by, the_end, the_supervised_location}
use Rattle.speed_supervision.specs.declared.cause.SpeedCause.{SpeedCause}
use Rattle.speed_supervision.specs.declared.cause.TargetAhead.{TargetAhead}
use Rattle.speed_supervision.specs.declared.cause.TargetKind.TheVariants.{EndOfAuthority, SupervisedLocation}
use Rattle.speed_supervision.specs.declared.cause.TargetKind.{TargetKind}
use Rattle.speed_supervision.specs.declared.cause.TargetKind.TheVariants as kind
use Rattle.speed_supervision.specs.Targets.{Journey, IsOfKind, IsTarget, along_track, fits_on}
use Rattle.speed_supervision.specs.Supervised.{limit_here, permitted_to, permitted_on, order_of, IsLast, IsReleasing, IsCause}
use Rattle.speed_supervision.proofs.Deciding.{other_gives_less}

module _ (journey : Journey) (end : End) (is : journey.bounds.end ≡ Some end) where
  pub end_is_target : (ahead : TargetAhead) → ahead ≡ record { target = the_end end; kind = EndOfAuthority } → IsTarget journey ahead
  end_is_target ahead same =
      let P : Option End → Type 0 = λ o. IsSomeAnd o (λ e. (end.place ≡ e.place) × (end.speed ≡ e.speed)) in
      subst (IsTarget journey) (sym same) (subst P (sym is) (refl, refl))

  pub location_is_target : (ahead : TargetAhead) → ahead ≡ record { target = the_supervised_location end; kind = SupervisedLocation } → IsTarget journey ahead
  location_is_target ahead same =
      let P : Option End → Type 0 = λ o. IsSomeAnd o (λ e. (end.location ≡ e.location) × ((the_supervised_location end).speed ≡ 0)) in
      subst (IsTarget journey) (sym same) (subst P (sym is) (refl, refl))

  pub end_is_last : (ahead : TargetAhead) (limit speed : ℕ) → ahead ≡ record { target = the_end end; kind = EndOfAuthority } → IsLast journey limit speed ahead
  end_is_last ahead limit speed same =
      (end_is_target ahead same, λ other lowers order. subst (λ (a : TargetAhead). order_of a.kind ≤ order_of other.kind) (sym same) order)

  -- a target that isn't the end of authority
  beyond : (target : Target) (k : TargetKind) → IsOfKind journey target k → 3 ≤ order_of k → (target ≡ the_end end → ⊥) → 4 ≤ order_of k
  beyond target kind.StaticSpeed of order other = absurd (omega (arith, order))
  beyond target kind.UnknownSpeed of order other = absurd (omega (arith, order))
  beyond target (kind.Restriction r) of order other = absurd (omega (arith, order))
  beyond target (kind.Area a) of order other = absurd (omega (arith, order))
  beyond target kind.EndOfAuthority of order other =
      let P : Option End → Type 0 = λ o. IsSomeAnd o (λ e. (target.place ≡ e.place) × (target.speed ≡ e.speed)) in
      let at : (target.place ≡ end.place) × (target.speed ≡ end.speed) = subst P is of in
      absurd (other (λ i. record { place = at.0 i; speed = at.1 i }))
  beyond target kind.SupervisedLocation of order other = omega arith

  pub location_is_last : (train : Span) (ahead : TargetAhead) → ahead ≡ record { target = the_supervised_location end; kind = SupervisedLocation } →
      permitted_to train journey (Some (the_end end)) < permitted_to train journey (Some (the_supervised_location end)) →
      IsLast journey (limit_here train journey) (permitted_to train journey (Some ahead.target)) ahead
  location_is_last train ahead same less =
      let limit : ℕ = limit_here train journey in
      let location : TargetAhead = record { target = the_supervised_location end; kind = SupervisedLocation } in
      let here : IsLast journey limit (permitted_to train journey (Some location.target)) location = (
        location_is_target location refl,
        λ other lowers order. beyond other.target other.kind lowers.0 order
            (λ at. other_gives_less journey limit (along_track journey) (the_supervised_location end) (the_end end) less
            (ap (λ (t : Target). greatest (fits_on journey t) limit) (sym at) ∙ lowers.2)),
      ) in
      subst (λ (a : TargetAhead). IsLast journey limit (permitted_to train journey (Some a.target)) a) (sym same) here

module _ (train : Span) (journey : Journey) (national : ℕ) where
  -- what decides an equal speed
  pub of_equal : (speed other : ℕ) (cause : SpeedCause) → speed ≡ other → IsCause train journey national speed cause →
      IsCause train journey national other cause
  of_equal speed other cause same decides = subst (λ (v : ℕ). IsCause train journey national v cause) same decides

  pub without_end : (cause : SpeedCause) → journey.bounds.end ≡ None → IsCause train journey national (permitted_to train journey None) cause →
      IsCause train journey national (permitted_on train journey national) cause
  without_end cause is decides =
      of_equal (permitted_to train journey None) (permitted_on train journey national) cause
      (ap (λ (o : Option End). released_by (permitted_to train journey) o national) (sym is)) decides

module _ (train : Span) (journey : Journey) (national : ℕ) (end : End) (is : journey.bounds.end ≡ Some end) where
  by_end : max (permitted_to train journey (Some (the_end end)))
      (min (release_speed end.release national) (permitted_to train journey (Some (the_supervised_location end)))) ≡ permitted_on train journey national
  by_end = ap (λ (o : Option End). released_by (permitted_to train journey) o national) (sym is)

  pub at_the_end : (cause : SpeedCause) →
      min (release_speed end.release national) (permitted_to train journey (Some (the_supervised_location end))) ≤ permitted_to train journey (Some (the_end end)) →
      IsCause train journey national (permitted_to train journey (Some (the_end end))) cause →
      IsCause train journey national (permitted_on train journey national) cause
  at_the_end cause below decides =
      of_equal train journey national (permitted_to train journey (Some (the_end end))) (permitted_on train journey national) cause
      ((let m : permitted_to train journey (Some (the_end end)) ≡ max (permitted_to train journey (Some (the_end end)))
      (min (release_speed end.release national) (permitted_to train journey (Some (the_supervised_location end)))) = omega arith in m) ∙ by_end) decides

  pub at_the_location : (cause : SpeedCause) →
      permitted_to train journey (Some (the_end end)) < permitted_to train journey (Some (the_supervised_location end)) →
      permitted_to train journey (Some (the_supervised_location end)) ≤ release_speed end.release national →
      IsCause train journey national (permitted_to train journey (Some (the_supervised_location end))) cause →
      IsCause train journey national (permitted_on train journey national) cause
  at_the_location cause above below decides =
      of_equal train journey national (permitted_to train journey (Some (the_supervised_location end))) (permitted_on train journey national) cause
      ((let m : permitted_to train journey (Some (the_supervised_location end)) ≡ max (permitted_to train journey (Some (the_end end)))
      (min (release_speed end.release national) (permitted_to train journey (Some (the_supervised_location end)))) = omega arith in m) ∙ by_end) decides

  pub by_release : permitted_to train journey (Some (the_end end)) < release_speed end.release national →
      release_speed end.release national < permitted_to train journey (Some (the_supervised_location end)) →
      IsSomeAnd journey.bounds.end (IsReleasing train journey national (permitted_on train journey national) end.release)
  by_release above below =
      let m : release_speed end.release national ≡ max (permitted_to train journey (Some (the_end end)))
      (min (release_speed end.release national) (permitted_to train journey (Some (the_supervised_location end)))) = omega arith in
      let speed : release_speed end.release national ≡ permitted_on train journey national = m ∙ by_end in
      let less : permitted_to train journey (Some (the_end end)) < permitted_on train journey national =
      subst (λ (v : ℕ). permitted_to train journey (Some (the_end end)) < v) speed above in
      let more : permitted_on train journey national < permitted_to train journey (Some (the_supervised_location end)) =
      subst (λ (v : ℕ). v < permitted_to train journey (Some (the_supervised_location end))) speed below in
      subst (λ (o : Option End). IsSomeAnd o (IsReleasing train journey national (permitted_on train journey national) end.release)) (sym is)
      (refl, speed, less, more)
