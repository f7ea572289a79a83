-- The starts of lower speeds ask what each centimetre does.
use Rattle.std.proofs.Common.{◌≡◌, ℕ, zero, suc, ◌≤◌, ℤ, pos, ◌+ℤ◌, ◌-ℤ◌, ◌≤ℤ◌, ◌<ℤ◌, List, [], ◌∷◌, ◌++◌, ◌⊎◌, inl, inr, Bool, true, false, cond, refl, ap, sym, ◌∙◌, subst, arith, append_assoc}
use Rattle.std.specs.Prelude.{Option, None, Some, int_lt, nat_lt, map}
use Rattle.std.specs.List.{filter_map, cons_option}
use Rattle.std.proofs.lemmas.Bool.Decides.{nat_tests}
use Rattle.std.proofs.lemmas.Option.{same_Some}
use Rattle.std.proofs.lemmas.Int.{ints}
use Rattle.areas.specs.declared.area.Area.{Area}
use Rattle.areas.specs.Areas.{speed_in}
use Rattle.authority.specs.declared.answers.End.{End}
use Rattle.brakes.specs.declared.brakes.Brakes.{Brakes}
use Rattle.braking.specs.declared.target.Target.{Target}
use Rattle.braking.specs.Braking.{greatest}
use Rattle.track_store.specs.declared.restriction.Restriction.{Restriction}
use Rattle.track_store.specs.Covering.{covers}
use Rattle.speed_profile.proofs.Asking.{covered_ask, nothing_more, through, joined, back, equal, same}
use Rattle.speed_profile.proofs.Farther.{IsNoNearer}
use Rattle.speed_profile.proofs.Members.{one_passed, in_either}
use Rattle.speed_profile.proofs.Reaching.{restriction_asks, no_restriction_asks, area_asks, no_area_asks}
use Rattle.speed_profile.proofs.Together.{reported_ask}
use Rattle.speed_profile.specs.Ahead.{greatest_place, over_ahead, targets_ahead, targets_at, static_target, static_targets, unknown_target, restriction_targets, area_targets, is_inside, permitted_by, permitted_ahead}
use Rattle.speed_profile.specs.declared.limit.Bounds.{Bounds}
use Rattle.speed_profile.specs.declared.reported.CategorySpeeds.{CategorySpeeds}
use Rattle.speed_profile.specs.Starts.{first_target, first_in_area}
use Rattle.speed_profile.specs.Targets.{AskTheSame}
use Rattle.speed_profile.specs.Track.{TrackSpeeds}
use Rattle.speed_profile.proofs.There.{at_place}
use Rattle.track_store.specs.Profiles.{listed}
use Rattle.track_store.proofs.Jumps.{least_below, least_one_of, natural_is}
use Rattle.units.proofs.Gathering.{IsIn, over_at, in_over}
use Rattle.units.specs.Stretches.{natural, least}
use Rattle.safety_laws.specs.Starts.{least_requested, requested_before, is_lower, lower_start, lower_starts, starts_by_kind}
use Rattle.safety_laws.proofs.Lessening.{least_of}

abbrev speeds : List Target → List ℕ
speeds targets = map (λ (t : Target). t.speed) targets

-- ---- the least of some is one of them, and above none

of_speeds : (targets : List Target) (v : ℕ) → IsIn v (speeds targets) → (t : Target) × IsIn t targets × (v ≡ t.speed)
of_speeds [] v there = absurd there
of_speeds (t ∷ targets) v (inl is) = (t, inl refl, is)
of_speeds (t ∷ targets) v (inr later) = let of = of_speeds targets v later in (of.0, inr of.1, of.2)

in_speeds : (t : Target) (targets : List Target) → IsIn t targets → IsIn t.speed (speeds targets)
in_speeds t [] there = absurd there
in_speeds t (x ∷ targets) there = elim there [ inl is ↦ inl (ap (λ (y : Target). y.speed) is) | inr later ↦ inr (in_speeds t targets later) ]

attained : (targets : List Target) (speed : ℕ) → least_requested targets ≡ Some speed → (t : Target) × IsIn t targets × (t.speed ≡ speed)
attained [] speed is = absurd (let no : None ≡ Some speed = is in cc)
attained (t ∷ targets) speed is =
    let least_is = same_Some (least t.speed (speeds targets)) speed is in
    elim (least_one_of t.speed (speeds targets)) [
      | inl first ↦ (t, inl refl, sym first ∙ least_is)
      | inr there ↦ (let of = of_speeds targets (least t.speed (speeds targets)) there in (of.0, inr of.1, sym of.2 ∙ least_is))
    ]

no_lower_one : (targets : List Target) (t : Target) → IsIn t targets → (speed : ℕ) × (least_requested targets ≡ Some speed) × (speed ≤ t.speed)
no_lower_one [] t there = absurd there
no_lower_one (x ∷ targets) t there = (
  least x.speed (speeds targets),
  refl,
  elim there [
    | inl first ↦ (let same : t.speed ≡ x.speed = ap (λ (y : Target). y.speed) first in omega (arith, same, least_below x.speed (speeds targets)))
    | inr later ↦ least_of x.speed (speeds targets) t.speed (in_speeds t targets later)
  ],
)

one_listed : {A : Type 0} (b : Bool) (x t : A) → IsIn t (listed (cond b (Some x) None)) → t ≡ x
one_listed true x t there = elim there [ inl is ↦ is | inr never ↦ absurd never ]
one_listed false x t there = absurd there

-- ---- each centimetre asks at its own place

module _ (front : ℤ) (requested : ℤ → List Target) (own : (c : ℤ) (t : Target) → IsIn t (requested c) → t.place ≡ c) where
  abbrev start_at : ℤ → Option Target
  start_at c = lower_start c (requested_before front requested c) (least_requested (requested c))

  abbrev start_listed : ℤ → List Target
  start_listed c = listed (start_at c)

  one_of : (c : ℤ) (speed : ℕ) → least_requested (requested c) ≡ Some speed → IsIn (at_place c speed) (requested c)
  one_of c speed is =
      let of = attained (requested c) speed is in
      let same : of.0 ≡ at_place c speed = λ i. record { place = own c of.0 of.1 i; speed = of.2 i } in
      subst (λ (x : Target). IsIn x (requested c)) same of.1

  of_start : (c : ℤ) (t : Target) → IsIn t (start_listed c) → IsIn t (requested c)
  of_start c t there =
      let cases : (known : Option ℕ) → least_requested (requested c) ≡ known → IsIn t (listed (lower_start c (requested_before front requested c) known)) → IsIn t (requested c) = elim [
        | None ↦ λ is k. absurd k
        | Some speed ↦ λ is k.
            subst (λ (x : Target). IsIn x (requested c)) (sym (one_listed (is_lower (requested_before front requested c) speed) (at_place c speed) t k)) (one_of c speed is)
      ] in
      cases (least_requested (requested c)) refl there

  start_here : (c : ℤ) (speed : ℕ) → front <ℤ c → c ≤ℤ greatest_place → least_requested (requested c) ≡ Some speed →
      is_lower (requested_before front requested c) speed ≡ true → IsIn (at_place c speed) (lower_starts front requested)
  start_here c speed ahead within is lower =
      let there : IsIn (at_place c speed) (listed (cond (is_lower (requested_before front requested c) speed) (Some (at_place c speed)) None)) =
      subst (λ (b : Bool). IsIn (at_place c speed) (listed (cond b (Some (at_place c speed)) None))) (sym lower) (inl refl) in
      let here : IsIn (at_place c speed) (start_listed c) =
      subst (λ (known : Option ℕ). IsIn (at_place c speed) (listed (lower_start c (requested_before front requested c) known))) (sym is) there in
      in_over start_listed (front +ℤ pos 1) greatest_place (at_place c speed) c (omega (arith, ints, ahead)) within here

  -- what is asked for before lies ahead of the front
  before_is : (c : ℤ) (before : ℕ) → requested_before front requested c ≡ Some before →
      (front <ℤ (c -ℤ pos 1)) × (least_requested (requested (c -ℤ pos 1)) ≡ Some before)
  before_is c before is =
      let cases : (b : Bool) → int_lt front (c -ℤ pos 1) ≡ b → cond b (least_requested (requested (c -ℤ pos 1))) None ≡ Some before →
      (front <ℤ (c -ℤ pos 1)) × (least_requested (requested (c -ℤ pos 1)) ≡ Some before) = elim [
        | true ↦ λ e k. (grind (arith, ints), k)
        | false ↦ λ e k. absurd (let no : None ≡ Some before = k in cc)
      ] in
      cases (int_lt front (c -ℤ pos 1)) refl is

  abbrev HasStart : ℤ → ℕ → Type 0
  HasStart c speed = (near : Target) × IsIn near (lower_starts front requested) × IsNoNearer near (at_place c speed)

  -- a centimetre ahead is a start, or the one before asks for no greater speed
  start_or_before : (c : ℤ) (speed : ℕ) → front <ℤ c → c ≤ℤ greatest_place → least_requested (requested c) ≡ Some speed →
      ((before : ℕ) → front <ℤ (c -ℤ pos 1) → least_requested (requested (c -ℤ pos 1)) ≡ Some before → before ≤ speed → HasStart c speed) → HasStart c speed
  start_or_before c speed ahead within is earlier =
      let itself : is_lower (requested_before front requested c) speed ≡ true → HasStart c speed = λ lower.
      (at_place c speed, start_here c speed ahead within is lower, record { place = omega (arith, ints); speed = omega arith }) in
      let compared : (before : ℕ) → requested_before front requested c ≡ Some before → (b : Bool) → nat_lt speed before ≡ b → HasStart c speed = λ before e. elim [
        | true ↦ λ f. itself (ap (λ (o : Option ℕ). is_lower o speed) e ∙ f)
        | false ↦ λ f. earlier before (before_is c before e).0 (before_is c before e).1 (grind (arith, nat_tests))
      ] in
      let cases : (known : Option ℕ) → requested_before front requested c ≡ known → HasStart c speed = elim [
        | None ↦ λ e. itself (ap (λ (o : Option ℕ). is_lower o speed) e)
        | Some before ↦ λ e. compared before e (nat_lt speed before) refl
      ] in
      cases (requested_before front requested c) refl

  -- so at or before each centimetre ahead lies a start that asks for no greater speed
  reached : (n : ℕ) (c : ℤ) (speed : ℕ) → c ≡ front +ℤ pos (suc n) → c ≤ℤ greatest_place → least_requested (requested c) ≡ Some speed → HasStart c speed
  reached zero c speed at within is =
      start_or_before c speed (omega (arith, ints, at)) within is (λ before ahead asks lower. absurd (omega (arith, ints, at, ahead)))
  reached (suc n) c speed at within is =
      start_or_before c speed (omega (arith, ints, at)) within is
      (λ before ahead asks lower. let near = reached n (c -ℤ pos 1) before (omega (arith, ints, at)) (omega (arith, ints, within)) asks in
      let place : near.0.place ≤ℤ (c -ℤ pos 1) = near.2.place in
      (near.0, near.1, record { place = omega (arith, ints, place); speed = omega (arith, near.2.speed, lower) }))

  nearer : (t : Target) → IsIn t (over_ahead front requested) → (near : Target) × (IsIn near (lower_starts front requested) ⊎ IsIn near []) × IsNoNearer near t
  nearer t there =
      let at = over_at requested (front +ℤ pos 1) greatest_place t there in
      let c : ℤ = at.0 in
      let least_there = no_lower_one (requested c) t at.3 in
      let ahead : (front +ℤ pos 1) ≤ℤ c = at.1 in
      let count : pos (natural (c -ℤ (front +ℤ pos 1))) ≡ c -ℤ (front +ℤ pos 1) = natural_is (c -ℤ (front +ℤ pos 1)) (omega (arith, ints, ahead)) in
      let near = reached (natural (c -ℤ (front +ℤ pos 1))) c least_there.0 (omega (arith, ints, count)) at.2 least_there.1 in
      let place : near.0.place ≤ℤ c = near.2.place in
      let here : t.place ≡ c = own c t at.3 in
      (near.0, inl near.1, record { place = omega (arith, ints, place, here); speed = omega (arith, near.2.speed, least_there.2) })

  pub starts_ask : AskTheSame (over_ahead front requested) (lower_starts front requested)
  starts_ask =
      let all = over_ahead front requested in
      let starts = lower_starts front requested in
      through all (starts ++ []) starts
      (covered_ask starts [] all (record {
        first_in = λ t there. let at = over_at start_listed (front +ℤ pos 1) greatest_place t there in
            in_over requested (front +ℤ pos 1) greatest_place t at.0 at.1 at.2 (of_start at.0 t at.3);
        second_in = λ t never. absurd never;
        nearer = nearer;
      }))
      (nothing_more starts)

-- ---- each target of a centimetre lies there

of_unknown : (end : Option End) (c : ℤ) (t : Target) → IsIn t (listed (unknown_target end c)) → t.place ≡ c
of_unknown None c t there = absurd there
of_unknown (Some end) c t there = ap (λ (x : Target). x.place) (one_listed (int_lt c end.place) (at_place c 0) t there)

of_static : (bounds : Bounds) (c : ℤ) (t : Target) (value : Option CategorySpeeds) → IsIn t (listed (static_target bounds c value)) → t.place ≡ c
of_static bounds c t None there = of_unknown bounds.end c t there
of_static bounds c t (Some speeds) there = elim there [ inl is ↦ ap (λ (x : Target). x.place) is | inr never ↦ absurd never ]

of_any : (bounds : Bounds) (track : TrackSpeeds) (c : ℤ) (t : Target) → IsIn t (targets_at bounds track c) → t.place ≡ c
of_any bounds track c t there =
    let static = static_targets bounds track.static c in
    let restricted = restriction_targets track.restrictions.mark track.restrictions.restrictions c in
    let inside = area_targets track.national track.areas c in
    elim (in_either t (static ++ restricted) inside there) [
      | inl first ↦ elim (in_either t static restricted first) [
        | inl here ↦ of_static bounds c t (track.static c) here
        | inr here ↦ ap (λ (x : Target). x.place)
            (one_passed (λ (r : Restriction). at_place c r.speed) (covers track.restrictions.mark c) track.restrictions.restrictions t here).3
      ]
      | inr here ↦ ap (λ (x : Target). x.place)
          (one_passed (λ (a : Area). at_place c (speed_in track.national a)) (is_inside c) track.areas t here).3
    ]

-- ---- kind by kind

each_reported : {A : Type 0} (first : A → Option Target) (ahead : List A → List Target) →
    ((a : A) (rest : List A) → AskTheSame (ahead (a ∷ rest)) (listed (first a) ++ ahead rest)) → AskTheSame (ahead []) [] →
    (all : List A) → AskTheSame (ahead all) (filter_map first all)
each_reported first ahead one none [] = none
each_reported first ahead one none (a ∷ rest) =
    let later = each_reported first ahead one none rest in
    let reported = listed (first a) in
    let put : (o : Option Target) → listed o ++ filter_map first rest ≡ cons_option o (filter_map first rest) = elim [ None ↦ refl | Some t ↦ refl ] in
    through (ahead (a ∷ rest)) (reported ++ ahead rest) (filter_map first (a ∷ rest)) (one a rest)
    (through (reported ++ ahead rest) (reported ++ filter_map first rest) (filter_map first (a ∷ rest))
    (joined reported (ahead rest) reported (filter_map first rest) (same reported) later)
    (equal (reported ++ filter_map first rest) (filter_map first (a ∷ rest)) (put (first a))))

module _ (front : ℤ) (bounds : Bounds) (track : TrackSpeeds) where
  abbrev static : ℤ → List Target
  static = static_targets bounds track.static

  abbrev mark : ℤ
  mark = track.restrictions.mark

  abbrev first_of : Restriction → Option Target
  first_of = first_target front mark

  abbrev first_inside : Area → Option Target
  first_inside = first_in_area front track.national

  abbrev of_restrictions : List Restriction → List Target
  of_restrictions all = over_ahead front (restriction_targets mark all)

  abbrev of_areas : List Area → List Target
  of_areas all = over_ahead front (area_targets track.national all)

  abbrev reported_restrictions : List Target
  reported_restrictions = filter_map first_of track.restrictions.restrictions

  abbrev reported_areas : List Target
  reported_areas = filter_map first_inside track.areas

  kinds_ask : (last : Option Target) → AskTheSame (targets_ahead front bounds track ++ listed last) (starts_by_kind front bounds track ++ listed last)
  kinds_ask last =
      let ends = listed last in
      let speeds_ahead = over_ahead front static in
      let restricted = of_restrictions track.restrictions.restrictions in
      let inside = of_areas track.areas in
      let starts = lower_starts front static in
      let by_kind = speeds_ahead ++ (restricted ++ (inside ++ ends)) in
      let reported = starts ++ (reported_restrictions ++ (reported_areas ++ ends)) in
      through (targets_ahead front bounds track ++ ends) by_kind (starts_by_kind front bounds track ++ ends)
      (back by_kind (targets_ahead front bounds track ++ ends) (reported_ask front bounds track last))
      (through by_kind reported (starts_by_kind front bounds track ++ ends)
      (joined speeds_ahead (restricted ++ (inside ++ ends)) starts (reported_restrictions ++ (reported_areas ++ ends))
      (starts_ask front static (λ c t there. of_static bounds c t (track.static c) there))
      (joined restricted (inside ++ ends) reported_restrictions (reported_areas ++ ends)
      (each_reported first_of of_restrictions (restriction_asks front mark) (no_restriction_asks front mark) track.restrictions.restrictions)
      (joined inside ends reported_areas ends
      (each_reported first_inside of_areas (area_asks front track.national) (no_area_asks front track.national) track.areas)
      (same ends))))
      (equal reported (starts_by_kind front bounds track ++ ends) (in_turn starts reported_restrictions reported_areas ends)))
    where
      in_turn : (a b c d : List Target) → a ++ (b ++ (c ++ d)) ≡ ((a ++ b) ++ c) ++ d
      in_turn a b c d = sym (append_assoc (a ++ b) c d ∙ append_assoc a b (c ++ d))

  all_ask : (last : Option Target) → AskTheSame (targets_ahead front bounds track ++ listed last) (lower_starts front (targets_at bounds track) ++ listed last)
  all_ask last =
      let requested = targets_at bounds track in
      joined (targets_ahead front bounds track) (listed last) (lower_starts front requested) (listed last)
      (starts_ask front requested (of_any bounds track)) (same (listed last))

  -- ---- so the same speed is permitted

  permitted_same : (some others : List Target) (bound : ℕ) (gradient : ℤ → Option ℤ) (brakes : Brakes) → AskTheSame some others →
      permitted_by front gradient brakes some bound ≡ permitted_by front gradient brakes others bound
  permitted_same some others bound gradient brakes ask = ap (λ (test : ℕ → Bool). greatest test bound) (λ i v. ask front gradient brakes v i)

  pub together : (bound : ℕ) (last : Option Target) (gradient : ℤ → Option ℤ) (brakes : Brakes) →
      permitted_ahead front bound last bounds track gradient brakes
      ≡ permitted_by front gradient brakes (lower_starts front (targets_at bounds track) ++ listed last) bound
  together bound last gradient brakes =
      permitted_same (targets_ahead front bounds track ++ listed last) (lower_starts front (targets_at bounds track) ++ listed last)
      bound gradient brakes (all_ask last)

  pub kind_by_kind : (bound : ℕ) (last : Option Target) (gradient : ℤ → Option ℤ) (brakes : Brakes) →
      permitted_ahead front bound last bounds track gradient brakes
      ≡ permitted_by front gradient brakes (starts_by_kind front bounds track ++ listed last) bound
  kind_by_kind bound last gradient brakes =
      permitted_same (targets_ahead front bounds track ++ listed last) (starts_by_kind front bounds track ++ listed last)
      bound gradient brakes (kinds_ask last)
