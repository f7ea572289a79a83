-- What targets ask of a train, and fewer ones that ask the same.
use Rattle.std.proofs.Common.{◌≡◌, ℕ, zero, suc, ◌≤◌, ℤ, List, [], ◌∷◌, ◌++◌, ◌⊎◌, inl, inr, Bool, true, false, cond, refl, ap, sym, ◌∙◌, arith}
use Rattle.std.specs.Prelude.{Option, None, Some, is_some, ◌&&◌}
use Rattle.std.specs.Iterator.{Drains}
use Rattle.std.proofs.lemmas.Option.{same_Some}
use Rattle.std.proofs.lemmas.Bool.{and_parts}
use Rattle.units.proofs.Gathering.{IsIn}
use Rattle.track_store.specs.Profiles.{listed}
use Rattle.brakes.specs.declared.brakes.Brakes.{Brakes}
use Rattle.braking.specs.declared.target.Target.{Target}
use Rattle.braking.specs.Braking.{fits, fits_all, greatest}
use Rattle.braking.specs.Approaches.{Course, at_speed, lowered, lowered_by}
use Rattle.braking.proofs.Approaching.{lowered_by_none, lowered_by_one, lowered_by_more}
use Rattle.braking.proofs.Greatest.{greatest_is}
use Rattle.braking.proofs.Slower.{slower_fits}
use Rattle.speed_profile.specs.Ahead.{permitted_by}
use Rattle.speed_profile.specs.Targets.{AskTheSame, AskTheSameOf, AskNothing, AskTheSameBeyond, Left, Describes}
use Rattle.speed_profile.proofs.Farther.{IsNoNearer, farther_fits}
use Rattle.speed_profile.proofs.Members.{in_left, in_right, in_either}

-- the targets of both lists are among all, and each of all is no nearer than one of theirs
pub record AreCovered (first second all : List Target) : Type 0 where
  pub first_in : (t : Target) → IsIn t first → IsIn t all
  pub second_in : (t : Target) → IsIn t second → IsIn t all
  pub nearer : (t : Target) → IsIn t all → (near : Target) × (IsIn near first ⊎ IsIn near second) × IsNoNearer near t

same_test : (a b : Bool) → (a ≡ true → b ≡ true) → (b ≡ true → a ≡ true) → a ≡ b
same_test true b there back = sym (there refl)
same_test false true there back = back refl
same_test false false there back = refl

module _ (front : ℤ) (gradient : ℤ → Option ℤ) (brakes : Brakes) where
  fit_each : (targets : List Target) (v : ℕ) → fits_all front gradient brakes targets v ≡ true → (t : Target) → IsIn t targets →
      fits front gradient brakes t v ≡ true
  fit_each [] v h t there = absurd there
  fit_each (target ∷ targets) v h t there =
      let parts = and_parts (fits front gradient brakes target v) (fits_all front gradient brakes targets v) h in
      elim there [
        | inl same ↦ ap (λ (x : Target). fits front gradient brakes x v) same ∙ parts.0
        | inr k ↦ fit_each targets v parts.1 t k
      ]

  pub fit_all : (targets : List Target) (v : ℕ) → ((t : Target) → IsIn t targets → fits front gradient brakes t v ≡ true) →
      fits_all front gradient brakes targets v ≡ true
  fit_all [] v h = refl
  fit_all (target ∷ targets) v h =
      rw (h target (inl refl)) (fit_all targets v (λ t there. h t (inr there)))

  pub fit_both : (some others : List Target) (v : ℕ) →
      fits_all front gradient brakes (some ++ others) v ≡ (fits_all front gradient brakes some v && fits_all front gradient brakes others v)
  fit_both [] others v = refl
  fit_both (t ∷ some) others v =
      let cases : (b : Bool) → (b && fits_all front gradient brakes (some ++ others) v)
      ≡ ((b && fits_all front gradient brakes some v) && fits_all front gradient brakes others v) =
      elim [ true ↦ fit_both some others v | false ↦ refl ] in
      cases (fits front gradient brakes t v)

-- fewer targets that cover all ask the same
pub covered_ask : (first second all : List Target) → AreCovered first second all → AskTheSame all (first ++ second)
covered_ask first second all covered front gradient brakes v =
    let fewer = first ++ second in
    same_test (fits_all front gradient brakes all v) (fits_all front gradient brakes fewer v)
    (λ h. fit_all front gradient brakes fewer v (λ t there. elim (in_either t first second there) [
      | inl a ↦ fit_each front gradient brakes all v h t (covered.first_in t a)
      | inr b ↦ fit_each front gradient brakes all v h t (covered.second_in t b)
    ]))
    (λ h. fit_all front gradient brakes all v (λ t there.
    let near = covered.nearer t there in
    let here : IsIn near.0 fewer = elim near.1 [ inl a ↦ in_left near.0 first second a | inr b ↦ in_right near.0 first second b ] in
    farther_fits front gradient brakes near.0 t v near.2 (fit_each front gradient brakes fewer v h near.0 here)))

-- ---- to ask the same

pub same : (targets : List Target) → AskTheSame targets targets
same targets front gradient brakes v = refl

pub equal : (some others : List Target) → some ≡ others → AskTheSame some others
equal some others is front gradient brakes v = ap (λ (ts : List Target). fits_all front gradient brakes ts v) is

pub back : (some others : List Target) → AskTheSame some others → AskTheSame others some
back some others h front gradient brakes v = sym (h front gradient brakes v)

pub through : (some middle others : List Target) → AskTheSame some middle → AskTheSame middle others → AskTheSame some others
through some middle others h k front gradient brakes v = h front gradient brakes v ∙ k front gradient brakes v

pub joined : (some others some' others' : List Target) → AskTheSame some some' → AskTheSame others others' →
    AskTheSame (some ++ others) (some' ++ others')
joined some others some' others' h k front gradient brakes v =
    fit_both front gradient brakes some others v
    ∙ (λ i. h front gradient brakes v i && k front gradient brakes v i)
    ∙ sym (fit_both front gradient brakes some' others' v)

pub one_more : (t : Target) (some others : List Target) → AskTheSame some others → AskTheSame (t ∷ some) (t ∷ others)
one_more t some others h = joined (t ∷ []) some (t ∷ []) others (same (t ∷ [])) h

swapped : (a b c : Bool) → (a && (b && c)) ≡ (b && (a && c))
swapped true b c = refl
swapped false true c = refl
swapped false false c = refl

-- one among others may as well come first
pub moved : (t : Target) (some others : List Target) → AskTheSame (some ++ (t ∷ others)) (t ∷ (some ++ others))
moved t [] others front gradient brakes v = refl
moved t (x ∷ some) others front gradient brakes v =
    one_more x (some ++ (t ∷ others)) (t ∷ (some ++ others)) (moved t some others) front gradient brakes v
    ∙ swapped (fits front gradient brakes x v) (fits front gradient brakes t v) (fits_all front gradient brakes (some ++ others) v)

-- some may as well come before others
pub turned : (some others : List Target) → AskTheSame (some ++ others) (others ++ some)
turned some others front gradient brakes v =
    let cases : (a b : Bool) → (a && b) ≡ (b && a) = elim [ true ↦ elim [ true ↦ refl | false ↦ refl ] | false ↦ elim [ true ↦ refl | false ↦ refl ] ] in
    fit_both front gradient brakes some others v
    ∙ cases (fits_all front gradient brakes some v) (fits_all front gradient brakes others v)
    ∙ sym (fit_both front gradient brakes others some v)

pub nothing_more : (targets : List Target) → AskTheSame (targets ++ []) targets
nothing_more targets front gradient brakes v =
    let cases : (b : Bool) → (b && true) ≡ b = elim [ true ↦ refl | false ↦ refl ] in
    fit_both front gradient brakes targets [] v ∙ cases (fits_all front gradient brakes targets v)

pub nothing_by : (targets others : List Target) → targets ≡ others → AskNothing others → AskNothing targets
nothing_by targets others is none = through targets others [] (equal targets others is) none

pub requested_at : (all all' others : List Target) (reported reported' : Option Target) → all ≡ all' → reported ≡ reported' →
    AskTheSame all' (listed reported' ++ others) → AskTheSame all (listed reported ++ others)
requested_at all all' others reported reported' a t h =
    through all all' (listed reported ++ others) (equal all all' a)
    (through all' (listed reported' ++ others) (listed reported ++ others) h
    (equal (listed reported' ++ others) (listed reported ++ others) (ap (λ (x : Option Target). listed x ++ others) (sym t))))

-- where all that is left asks what one and the others after it do, that one is reported or passed over
pub one_reported : (before after : Left) (all : List Target) (target : Option Target) → AskTheSame before.targets all →
    AskTheSame all (listed target ++ after.targets) → is_some target ≡ true → Describes before target after
one_reported before after all None h k some = absurd (let no : false ≡ true = some in cc)
one_reported before after all (Some t) h k some = through before.targets all (t ∷ after.targets) h k

pub passed_over : (before all after : List Target) (target : Option Target) → AskTheSame before all →
    AskTheSame all (listed target ++ after) → is_some target ≡ false → AskTheSame before after
passed_over before all after None h k none = through before all after h k
passed_over before all after (Some t) h k none = absurd (let no : true ≡ false = none in cc)

-- what is reported up to the end asks what was left at first
pub reported_in_all : (left : Left) (reported : List Target) → Drains Describes left reported → AskTheSame reported left.targets
reported_in_all left [] drains =
    back left.targets [] (through left.targets drains.1.0.targets [] (equal left.targets drains.1.0.targets (ap (λ (l : Left). l.targets) drains.1.1)) drains.1.2.0)
reported_in_all left (t ∷ reported) drains =
    let turn = drains.1.1 in
    let after : Left = turn.0 in
    let others = reported_in_all after reported (drains.0, (drains.1.0, turn.2, drains.1.2)) in
    through (t ∷ reported) (t ∷ after.targets) left.targets (one_more t reported after.targets others) (back left.targets (t ∷ after.targets) turn.1)

-- ---- a train that is reported of them

-- the same tests up to a number have the same greatest one
greatest_same : (p q : ℕ → Bool) (n : ℕ) → ((v : ℕ) → v ≤ n → p v ≡ q v) → greatest p n ≡ greatest q n
unfolding greatest
greatest_same p q zero h = refl
greatest_same p q (suc n) h =
    let below = greatest_same p q n (λ v less. h v (omega arith)) in
    λ i. cond (h (suc n) (omega arith) i) (suc n) (below i)

module _ {G : Type 0} (value : G → ℤ → Option ℤ) where
  pub lowered_same : (some others : List Target) (course : Course G) → AskTheSame some others →
      lowered_by (value course.gradient) some course ≡ lowered_by (value course.gradient) others course
  lowered_same some others course h =
      ap (λ (test : ℕ → Bool). at_speed course (greatest test course.speed)) (λ i v. h course.front (value course.gradient) course.brakes v i)

  pub lowered_of : (some others : List Target) (course : Course G) → AskTheSameOf (value course.gradient) course some others →
      lowered_by (value course.gradient) some course ≡ lowered_by (value course.gradient) others course
  lowered_of some others course h =
      ap (at_speed course) (greatest_same (fits_all course.front (value course.gradient) course.brakes some)
      (fits_all course.front (value course.gradient) course.brakes others) course.speed h)

  -- one whose speed fits them all keeps it
  pub lowered_fitting : (targets : List Target) (course : Course G) →
      fits_all course.front (value course.gradient) course.brakes targets course.speed ≡ true →
      lowered_by (value course.gradient) targets course ≡ course
  lowered_fitting targets course fit =
      ap (at_speed course) (greatest_is (fits_all course.front (value course.gradient) course.brakes targets) course.speed course.speed (omega arith)
      (inr fit) (λ k above below. absurd (omega arith)))

  pub lowered_nothing : (targets : List Target) (course : Course G) → AskNothing targets →
      lowered_by (value course.gradient) targets course ≡ course
  lowered_nothing targets course none =
      lowered_fitting targets course (none course.front (value course.gradient) course.brakes course.speed)

  -- one that can stop where they ask the same
  pub lowered_beyond : (place : Option ℤ) (at : ℤ) (some others : List Target) (course : Course G) → AskTheSameBeyond place some others →
      place ≡ Some at → fits course.front (value course.gradient) course.brakes (record { place = at; speed = 0 }) course.speed ≡ true →
      lowered_by (value course.gradient) some course ≡ lowered_by (value course.gradient) others course
  lowered_beyond None at some others course h is stops = lowered_same some others course h
  lowered_beyond (Some place) at some others course h is stops =
      let there : Target = record { place = place; speed = 0 } in
      let stop : fits course.front (value course.gradient) course.brakes there course.speed ≡ true = rw (same_Some place at is) stops in
      ap (at_speed course) (greatest_same (fits_all course.front (value course.gradient) course.brakes some)
      (fits_all course.front (value course.gradient) course.brakes others) course.speed
      (λ v below. h course.front (value course.gradient) course.brakes v
      (slower_fits course.front (value course.gradient) course.brakes there course.speed v below stop)))

  -- some, and others after them
  pub lowered_both : (some others : List Target) (old : Course G) →
      lowered_by (value old.gradient) others (lowered_by (value old.gradient) some old) ≡ lowered_by (value old.gradient) (some ++ others) old
  lowered_both [] others old = ap (λ (c : Course G). lowered_by (value old.gradient) others c) (lowered_by_none value old)
  lowered_both (x ∷ some) others old =
      let new : Course G = lowered (value old.gradient) x old in
      sym (ap (λ (c : Course G). lowered_by (value old.gradient) others c) (lowered_by_more value x some old new refl))
      ∙ lowered_both some others new
      ∙ lowered_by_more value x (some ++ others) old new refl

  -- what is left makes of the speed so far what all makes of the first one: so it does with others after
  pub lowered_before : (left all others : List Target) (old new : Course G) →
      lowered_by (value new.gradient) left new ≡ lowered_by (value old.gradient) all old →
      lowered_by (value new.gradient) (left ++ others) new ≡ lowered_by (value old.gradient) (all ++ others) old
  lowered_before left all others old new is =
      sym (lowered_both left others new)
      ∙ ap (λ (c : Course G). lowered_by (value c.gradient) others c) is
      ∙ lowered_both all others old

  -- .. and with one more, which comes before what is left
  pub lowered_between : (left all others : List Target) (t : Target) (old middle new : Course G) →
      lowered_by (value middle.gradient) left middle ≡ lowered_by (value old.gradient) all old → new ≡ lowered (value middle.gradient) t middle →
      lowered_by (value new.gradient) (left ++ others) new ≡ lowered_by (value old.gradient) (all ++ (t ∷ others)) old
  lowered_between left all others t old middle new so_far is =
      lowered_by_more value t (left ++ others) middle new is
      ∙ sym (lowered_same (left ++ (t ∷ others)) (t ∷ (left ++ others)) middle (moved t left others))
      ∙ lowered_before left all (t ∷ others) old middle so_far

  -- some, and one more after them
  pub lowered_then : (targets : List Target) (t : Target) (old : Course G) →
      lowered (value old.gradient) t (lowered_by (value old.gradient) targets old) ≡ lowered_by (value old.gradient) (targets ++ (t ∷ [])) old
  lowered_then targets t old =
      let middle : Course G = lowered_by (value old.gradient) targets old in
      lowered_by_one value t middle (lowered (value old.gradient) t middle) refl ∙ lowered_both targets (t ∷ []) old

  -- a last one
  pub lowered_last : (ahead : List Target) (t : Target) (start middle end : Course G) →
      middle ≡ lowered_by (value start.gradient) (ahead ++ []) start → end ≡ lowered (value middle.gradient) t middle →
      end.speed ≡ permitted_by start.front (value start.gradient) start.brakes (ahead ++ (t ∷ [])) start.speed
  lowered_last ahead t start middle end first second =
      let one = t ∷ [] in
      let all : end ≡ lowered_by (value start.gradient) (ahead ++ one) start =
      second ∙ ap (λ (c : Course G). lowered (value c.gradient) t c) first
      ∙ lowered_then (ahead ++ []) t start
      ∙ lowered_same (ahead ++ [] ++ one) (ahead ++ one) start (joined (ahead ++ []) one ahead one (nothing_more ahead) (same one)) in
      ap (λ (c : Course G). c.speed) all
