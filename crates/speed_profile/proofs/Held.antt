-- The targets that are held, and what they ask.
use Rattle.std.proofs.Common.{◌≡◌, ℕ, zero, suc, ◌+◌, ◌<◌, ℤ, List, [], ◌∷◌, ◌++◌, length, take, drop, Bool, true, false, refl, ap, sym, ◌∙◌, arith}
use Rattle.std.specs.Prelude.{Option, None, Some, IfSome, ◌&&◌, slice_index_or, slice_set}
use Rattle.std.proofs.lemmas.List.{append_assoc, append-nil, take_more, drop_more}
use Rattle.track_store.specs.Profiles.{listed}
use Rattle.braking.specs.declared.target.Target.{Target}
use Rattle.braking.specs.Braking.{fits, fits_all}
use Rattle.braking.specs.Approaches.{Course, lowered, lowered_by}
use Rattle.braking.proofs.Slower.{slower_fits}
use Rattle.speed_profile.specs.Ahead.{permitted_by}
use Rattle.speed_profile.specs.Targets.{AskTheSame, AskTheSameOf, AskNothing, held}
use Rattle.speed_profile.proofs.Asking.{same, equal, back, through, joined, moved, nothing_more, fit_both, lowered_same, lowered_of, lowered_then}
use Rattle.speed_profile.proofs.Farther.{IsNoNearer, farther_fits}

-- one in the place of another that asks for less, with one more
pub held_set : (places : List (Option Target)) (i : ℕ) (other : Option Target) (kept t : Target) → i < length places →
    AskTheSame (kept ∷ []) (listed (slice_index_or places i other) ++ (t ∷ [])) →
    AskTheSame (held (slice_set places i (Some kept))) (t ∷ held places)
held_set [] i other kept t within h = absurd (omega (arith, within))
held_set (place ∷ places) zero other kept t within h =
    let here = listed place in
    let rest = held places in
    through ((kept ∷ []) ++ rest) ((here ++ (t ∷ [])) ++ rest) (t ∷ (here ++ rest)) (joined (kept ∷ []) rest (here ++ (t ∷ [])) rest h (same rest))
    (joined (here ++ (t ∷ [])) rest (t ∷ here) rest (through (here ++ (t ∷ [])) (t ∷ (here ++ [])) (t ∷ here) (moved t here [])
    (joined (t ∷ []) (here ++ []) (t ∷ []) here (same (t ∷ [])) (nothing_more here))) (same rest))
held_set (place ∷ places) (suc i) other kept t within h =
    let here = listed place in
    let rest = held places in
    let more = held (slice_set places i (Some kept)) in
    through (here ++ more) (here ++ (t ∷ rest)) (t ∷ (here ++ rest))
    (joined here more here (t ∷ rest) (same here) (held_set places i other kept t (omega (arith, within)) h))
    (moved t here rest)

-- one that is no nearer and asks for no lower speed asks nothing more
both_fit : (a b : Bool) → (a ≡ true → b ≡ true) → (a && true) ≡ (a && (b && true))
both_fit false b h = refl
both_fit true b h = sym (ap (λ (x : Bool). x && true) (h refl))

pub farther_asks : (near far : Target) → IsNoNearer near far → AskTheSame (near ∷ []) (near ∷ far ∷ [])
farther_asks near far h front gradient brakes v =
    both_fit (fits front gradient brakes near v) (fits front gradient brakes far v) (farther_fits front gradient brakes near far v h)

pub nearer_asks : (near far : Target) → IsNoNearer near far → AskTheSame (near ∷ []) (far ∷ near ∷ [])
nearer_asks near far h =
    through (near ∷ []) (near ∷ far ∷ []) (far ∷ near ∷ []) (farther_asks near far h) (moved far (near ∷ []) [])

-- of one that is held, if there is one, and another one
with_known : (known : Option Target) (requested : List Target) (t kept : Target) → requested ≡ listed known → AskTheSame (kept ∷ []) (requested ++ (t ∷ [])) →
    AskTheSame (kept ∷ []) (listed known ++ (t ∷ []))
with_known known requested t kept is h =
    through (kept ∷ []) (requested ++ (t ∷ [])) (listed known ++ (t ∷ [])) h
    (equal (requested ++ (t ∷ [])) (listed known ++ (t ∷ [])) (ap (λ (some : List Target). some ++ (t ∷ [])) is))

pub single_asks : (known : Option Target) (t : Target) → known ≡ None → AskTheSame (t ∷ []) (listed known ++ (t ∷ []))
single_asks known t is = with_known known [] t t (sym (ap listed is)) (same (t ∷ []))

pub known_asks : (known : Option Target) (k t : Target) → known ≡ Some k → IsNoNearer k t → AskTheSame (k ∷ []) (listed known ++ (t ∷ []))
known_asks known k t is h = with_known known (k ∷ []) t k (sym (ap listed is)) (farther_asks k t h)

pub reported_asks : (known : Option Target) (k t : Target) → known ≡ Some k → IsNoNearer t k → AskTheSame (t ∷ []) (listed known ++ (t ∷ []))
reported_asks known k t is h = with_known known (k ∷ []) t t (sym (ap listed is)) (nearer_asks t k h)

-- ---- those that decide

held_both : (some others : List (Option Target)) → held (some ++ others) ≡ held some ++ held others
held_both [] others = refl
held_both (place ∷ some) others =
    ap (λ (rest : List Target). listed place ++ rest) (held_both some others) ∙ sym (append_assoc (listed place) (held some) (held others))

held_more : (places : List (Option Target)) (i : ℕ) (other : Option Target) → i < length places →
    held (take (i + 1) places) ≡ held (take i places) ++ listed (slice_index_or places i other)
held_more places i other within =
    let place = slice_index_or places i other in
    ap held (take_more places i other within)
    ∙ held_both (take i places) (place ∷ [])
    ∙ ap (λ (more : List Target). held (take i places) ++ more) (append-nil (listed place))

-- one that is held comes to those that decide
gathered : (places : List (Option Target)) (i n : ℕ) (other : Option Target) (rest now all : List Target) → i < length places → n ≡ i + 1 →
    AskTheSame (held (take n places) ++ rest) all → AskTheSame now (listed (slice_index_or places i other) ++ rest) →
    AskTheSame (held (take i places) ++ now) all
gathered places i n other rest now all within next h requested =
    let before = held (take i places) in
    let here = listed (slice_index_or places i other) in
    let left = held (take n places) in
    through (before ++ now) (before ++ (here ++ rest)) all (joined before now before (here ++ rest) (same before) requested)
    (through (before ++ (here ++ rest)) (left ++ rest) all
    (equal (before ++ (here ++ rest)) (left ++ rest)
    (sym (append_assoc before here rest)
    ∙ ap (λ (some : List Target). some ++ rest) (sym (held_more places i other within))
    ∙ ap (λ (count : ℕ). held (take count places) ++ rest) (sym next))) h)

pub gathered_none : (places : List (Option Target)) (i n : ℕ) (other : Option Target) (rest all : List Target) →
    i < length places → n ≡ i + 1 → slice_index_or places i other ≡ None → AskTheSame (held (take n places) ++ rest) all →
    AskTheSame (held (take i places) ++ rest) all
gathered_none places i n other rest all within next is h =
    gathered places i n other rest rest all within next h
    (equal rest (listed (slice_index_or places i other) ++ rest) (ap (λ (place : Option Target). listed place ++ rest) (sym is)))

pub gathered_one : (places after : List (Option Target)) (i n : ℕ) (other : Option Target) (t : Target) (rest now all : List Target) →
    i < length places → n ≡ i + 1 → slice_index_or places i other ≡ Some t → take i after ≡ take i places →
    AskTheSame now (t ∷ rest) → AskTheSame (held (take n places) ++ rest) all → AskTheSame (held (take i after) ++ now) all
gathered_one places after i n other t rest now all within next is left requested h =
    through (held (take i after) ++ now) (held (take i places) ++ now) all
    (equal (held (take i after) ++ now) (held (take i places) ++ now) (ap (λ (some : List (Option Target)). held some ++ now) left))
    (gathered places i n other rest now all within next h
    (through now (t ∷ rest) (listed (slice_index_or places i other) ++ rest) requested
    (equal (t ∷ rest) (listed (slice_index_or places i other) ++ rest) (ap (λ (place : Option Target). listed place ++ rest) (sym is)))))

-- of one that is held, if there is one
pub near_asks : (known : Option Target) (k t : Target) → known ≡ Some k → IsNoNearer k t →
    AskTheSame (listed known) (listed known ++ (t ∷ []))
near_asks known k t is h =
    through (listed known) (k ∷ []) (listed known ++ (t ∷ [])) (equal (listed known) (k ∷ []) (ap listed is)) (known_asks known k t is h)

-- from a place on
pub held_from : (places : List (Option Target)) (i : ℕ) (place : Option Target) → i < length places → place ≡ slice_index_or places i place →
    listed place ++ held (drop (i + 1) places) ≡ held (drop i places)
held_from places i place within at =
    ap (λ (first : Option Target). listed first ++ held (drop (i + 1) places)) at ∙ ap held (sym (drop_more places i place within))

module _ {G : Type 0} (value : G → ℤ → Option ℤ) where
  -- what is held with one more, and others after it
  pub lowered_held : (now old others : List Target) (t : Target) (course : Course G) → AskTheSame now (t ∷ old) →
      lowered_by (value course.gradient) (now ++ others) course ≡ lowered_by (value course.gradient) (t ∷ (old ++ others)) course
  lowered_held now old others t course h =
      lowered_same value (now ++ others) (t ∷ (old ++ others)) course (joined now others (t ∷ old) others h (same others))

  -- one more after what is held
  pub lowered_among : (old before after : List Target) (t : Target) (course : Course G) → AskTheSame before (t ∷ after) →
      lowered_by (value course.gradient) (t ∷ (old ++ after)) course ≡ lowered_by (value course.gradient) (old ++ before) course
  lowered_among old before after t course h =
      lowered_same value (t ∷ (old ++ after)) (old ++ before) course
      (through (t ∷ (old ++ after)) (old ++ (t ∷ after)) (old ++ before)
      (back (old ++ (t ∷ after)) (t ∷ (old ++ after)) (moved t old after))
      (joined old (t ∷ after) old before (same old) (back before (t ∷ after) h)))

  -- .. where nothing is left
  pub lowered_at_end : (old left : List Target) (course : Course G) → AskNothing left →
      lowered_by (value course.gradient) old course ≡ lowered_by (value course.gradient) (old ++ left) course
  lowered_at_end old left course none =
      lowered_same value old (old ++ left) course
      (through old (old ++ []) (old ++ left) (back (old ++ []) old (nothing_more old))
      (joined old [] old left (same old) (back left [] none)))

  -- ---- of a train on its way

  pub of_all : (some others : List Target) (course : Course G) → AskTheSame some others → AskTheSameOf (value course.gradient) course some others
  of_all some others course h v below = h course.front (value course.gradient) course.brakes v

  pub of_through : (some middle others : List Target) (course : Course G) → AskTheSameOf (value course.gradient) course some middle →
      AskTheSameOf (value course.gradient) course middle others → AskTheSameOf (value course.gradient) course some others
  of_through some middle others course h k v below = h v below ∙ k v below

  pub of_more : (t : Target) (some others : List Target) (course : Course G) → AskTheSameOf (value course.gradient) course some others →
      AskTheSameOf (value course.gradient) course (t ∷ some) (t ∷ others)
  of_more t some others course h v below = λ i. fits course.front (value course.gradient) course.brakes t v && h v below i

  -- one that its speed fits asks nothing of it
  pub of_passed : (t : Target) (before after : List Target) (course : Course G) → AskTheSame before (t ∷ after) →
      fits course.front (value course.gradient) course.brakes t course.speed ≡ true → AskTheSameOf (value course.gradient) course before after
  of_passed t before after course h fit v below =
      let all : Bool = fits_all course.front (value course.gradient) course.brakes after v in
      let here = slower_fits course.front (value course.gradient) course.brakes t course.speed v below fit in
      h course.front (value course.gradient) course.brakes v ∙ ap (λ (b : Bool). b && all) here

  -- .. nor does one, if there is one, that is no nearer than such a one
  pub of_no_nearer : (near : Target) (reported : Option Target) (before after : List Target) (course : Course G) →
      AskTheSame before (listed reported ++ after) → IfSome reported (IsNoNearer near) →
      fits course.front (value course.gradient) course.brakes near course.speed ≡ true → AskTheSameOf (value course.gradient) course before after
  of_no_nearer near None before after course h beyond fit = of_all before after course h
  of_no_nearer near (Some t) before after course h beyond fit =
      of_passed t before after course h (farther_fits course.front (value course.gradient) course.brakes near t course.speed beyond fit)

  pub of_before : (some some' others : List Target) (course : Course G) → AskTheSameOf (value course.gradient) course some some' →
      AskTheSameOf (value course.gradient) course (some ++ others) (some' ++ others)
  of_before some some' others course h v below =
      let fit = fits_all course.front (value course.gradient) course.brakes in
      fit_both course.front (value course.gradient) course.brakes some others v
      ∙ ap (λ (b : Bool). b && fit others v) (h v below)
      ∙ sym (fit_both course.front (value course.gradient) course.brakes some' others v)

  of_beyond : (some others others' : List Target) (course : Course G) → AskTheSameOf (value course.gradient) course others others' →
      AskTheSameOf (value course.gradient) course (some ++ others) (some ++ others')
  of_beyond some others others' course h v below =
      let fit = fits_all course.front (value course.gradient) course.brakes in
      fit_both course.front (value course.gradient) course.brakes some others v
      ∙ ap (λ (b : Bool). fit some v && b) (h v below)
      ∙ sym (fit_both course.front (value course.gradient) course.brakes some others' v)

  -- where only one asks something
  pub of_single : (t : Target) (all beyond left : List Target) (course : Course G) →
      AskTheSameOf (value course.gradient) course all (t ∷ beyond) → AskTheSameOf (value course.gradient) course beyond left → AskNothing left →
      AskTheSameOf (value course.gradient) course all (t ∷ [])
  of_single t all beyond left course h k none =
      of_through all (t ∷ beyond) (t ∷ []) course h
      (of_more t beyond [] course (of_through beyond left [] course k (of_all left [] course none)))

  -- some of those that come after do for all of them
  pub lowered_ahead : (before all others : List Target) (course : Course G) → AskTheSameOf (value course.gradient) course all others →
      lowered_by (value course.gradient) (before ++ others) course ≡ lowered_by (value course.gradient) (before ++ all) course
  lowered_ahead before all others course h =
      sym (lowered_of value (before ++ all) (before ++ others) course (of_beyond before all others course h))

  -- a last one that asks for all that the one before it does
  pub lowered_near : (ahead : List Target) (near far : Target) (start middle end : Course G) → IsNoNearer near far →
      middle ≡ lowered_by (value start.gradient) (ahead ++ (far ∷ [])) start → end ≡ lowered (value middle.gradient) near middle →
      end.speed ≡ permitted_by start.front (value start.gradient) start.brakes (ahead ++ (near ∷ [])) start.speed
  lowered_near ahead near far start middle end h first second =
      let all : end ≡ lowered_by (value start.gradient) (ahead ++ (near ∷ [])) start =
      second ∙ ap (λ (c : Course G). lowered (value c.gradient) near c) first
      ∙ lowered_then value (ahead ++ (far ∷ [])) near start
      ∙ lowered_same value (ahead ++ (far ∷ []) ++ (near ∷ [])) (ahead ++ (near ∷ [])) start
      (through (ahead ++ (far ∷ []) ++ (near ∷ [])) (ahead ++ (far ∷ near ∷ [])) (ahead ++ (near ∷ []))
      (equal (ahead ++ (far ∷ []) ++ (near ∷ [])) (ahead ++ (far ∷ near ∷ [])) (append_assoc ahead (far ∷ []) (near ∷ [])))
      (joined ahead (far ∷ near ∷ []) ahead (near ∷ []) (same ahead) (back (near ∷ []) (far ∷ near ∷ []) (nearer_asks near far h)))) in
      ap (λ (c : Course G). c.speed) all
