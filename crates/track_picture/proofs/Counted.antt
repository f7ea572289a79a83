-- The facts that count are those that came and that nothing later has ended.
use Rattle.std.proofs.Common.{◌≡◌, List, [], ◌∷◌, ◌++◌, Bool, true, false, cond, refl, ap, sym, subst, ◌∙◌, ◌⊎◌, inl, inr}
use Rattle.std.specs.Prelude.{not, filter}
use Rattle.std.proofs.lemmas.Bool.{not-true}
use Rattle.authority.specs.Laws.{IsAmong}
use Rattle.track_picture.specs.Live.{Happening, TrackFact, brought, ends, live}
use Rattle.track_picture.specs.Ending.{CameAndStays, CountsWhileNotEnded, CameAnew, EndedCountsNoMore}

-- ---- elements of lists

abbrev Split : {X : Type 0} → X → List X → List X → Type 0
Split x xs ys = (IsAmong x xs) ⊎ (IsAmong x ys)

split_more : {X : Type 0} (x y : X) (xs ys : List X) → Split x xs ys → Split x (y ∷ xs) ys
split_more x y xs ys (inl h) = inl (inr h)
split_more x y xs ys (inr h) = inr h

split : {X : Type 0} (x : X) (xs ys : List X) → IsAmong x (xs ++ ys) → Split x xs ys
split x [] ys h = inr h
split x (y ∷ xs) ys (inl e) = inl (inl e)
split x (y ∷ xs) ys (inr h) = split_more x y xs ys (split x xs ys h)

left_among : {X : Type 0} (x : X) (xs ys : List X) → IsAmong x xs → IsAmong x (xs ++ ys)
left_among x [] ys h = absurd h
left_among x (y ∷ xs) ys (inl e) = inl e
left_among x (y ∷ xs) ys (inr h) = inr (left_among x xs ys h)

right_among : {X : Type 0} (x : X) (xs ys : List X) → IsAmong x ys → IsAmong x (xs ++ ys)
right_among x [] ys h = h
right_among x (y ∷ xs) ys h = inr (right_among x xs ys h)

-- one that passes a test stays, and one that stays passes it
stays_one : {X : Type 0} (b : Bool) (x y : X) (xs : List X) → b ≡ true → x ≡ y → IsAmong x (cond b (y ∷ xs) xs)
stays_one true x y xs p e = inl e
stays_one false x y xs p e = absurd cc

more_one : {X : Type 0} (b : Bool) (x y : X) (xs : List X) → IsAmong x xs → IsAmong x (cond b (y ∷ xs) xs)
more_one true x y xs h = inr h
more_one false x y xs h = h

stays : {X : Type 0} (p : X → Bool) (x : X) (xs : List X) → p x ≡ true → IsAmong x xs → IsAmong x (filter p xs)
stays p x [] q h = absurd h
stays p x (y ∷ xs) q (inl e) = stays_one (p y) x y (filter p xs) (ap p (sym e) ∙ q) e
stays p x (y ∷ xs) q (inr h) = more_one (p y) x y (filter p xs) (stays p x xs q h)

abbrev Passes : {X : Type 0} → (X → Bool) → X → List X → Type 0
Passes p x xs = IsAmong x xs × (p x ≡ true)

passes_one : {X : Type 0} (p : X → Bool) (b : Bool) (x y : X) (xs ys : List X) → p y ≡ b → (IsAmong x ys → Passes p x xs) →
    IsAmong x (cond b (y ∷ ys) ys) → Passes p x (y ∷ xs)
passes_one p true x y xs ys q more (inl e) = (inl e, ap p e ∙ q)
passes_one p true x y xs ys q more (inr h) = let m = more h in (inr m.0, m.1)
passes_one p false x y xs ys q more h = let m = more h in (inr m.0, m.1)

passes : {X : Type 0} (p : X → Bool) (x : X) (xs : List X) → IsAmong x (filter p xs) → Passes p x xs
passes p x [] h = absurd h
passes p x (y ∷ xs) h = passes_one p (p y) x y xs (filter p xs) refl (passes p x xs) h

-- ---- a fact that counts came, and nothing later has ended it

ends_none : (happening cause : Happening) (later : List Happening) (fact : TrackFact) → ends happening fact ≡ false →
    ((h : Happening) → IsAmong h later → ends h fact ≡ false) → (h : Happening) → IsAmong h (happening ∷ later) → ends h fact ≡ false
ends_none happening cause later fact e rest h (inl is) = ap (λ g. ends g fact) is ∙ e
ends_none happening cause later fact e rest h (inr among) = rest h among

one_more : (happening : Happening) (earlier : List Happening) (fact : TrackFact) → ends happening fact ≡ false → CameAndStays fact earlier →
    CameAndStays fact (happening ∷ earlier)
one_more happening earlier fact e s = record {
  later = happening ∷ s.later;
  cause = s.cause;
  earlier = s.earlier;
  in_turn = ap (λ hs. happening ∷ hs) s.in_turn;
  came = s.came;
  not_ended = ends_none happening s.cause s.later fact e s.not_ended;
}

came : (all : List Happening) (fact : TrackFact) → IsAmong fact (live all) → CameAndStays fact all
came [] fact h = absurd h
came (happening ∷ earlier) fact h =
    elim (split fact (brought happening) (filter (λ f. not (ends happening f)) (live earlier)) h) [
      | inl new ↦ record { later = []; cause = happening; earlier = earlier; in_turn = refl; came = new; not_ended = λ g among. absurd among }
      | inr old ↦
          (let kept = passes (λ f. not (ends happening f)) fact (live earlier) old in
          one_more happening earlier fact (not-true (ends happening fact) kept.1) (came earlier fact kept.0))
    ]

counts_after : (later : List Happening) (cause : Happening) (earlier : List Happening) (fact : TrackFact) → IsAmong fact (brought cause) →
    ((h : Happening) → IsAmong h later → ends h fact ≡ false) → IsAmong fact (live (later ++ (cause ∷ earlier)))
counts_after [] cause earlier fact new rest =
    left_among fact (brought cause) (filter (λ f. not (ends cause f)) (live earlier)) new
counts_after (happening ∷ later) cause earlier fact new rest =
    let before = live (later ++ (cause ∷ earlier)) in
    right_among fact (brought happening) (filter (λ f. not (ends happening f)) before)
    (stays (λ f. not (ends happening f)) fact before (ap not (rest happening (inl refl)))
    (counts_after later cause earlier fact new (λ h among. rest h (inr among))))

counts : (all : List Happening) (fact : TrackFact) → CameAndStays fact all → IsAmong fact (live all)
counts all fact s =
    subst (λ (hs : List Happening). IsAmong fact (live hs)) (sym s.in_turn) (counts_after s.later s.cause s.earlier fact s.came s.not_ended)

pub counts_while_not_ended : CountsWhileNotEnded
counts_while_not_ended all fact = (came all fact, counts all fact)

-- ---- what was ended

came_later : (happening : Happening) (since : List Happening) (fact : TrackFact) → CameAnew fact since → CameAnew fact (happening ∷ since)
came_later happening since fact new = record { cause = new.cause; among = inr new.among; came = new.came }

ended_is_kept : (b : Bool) → b ≡ true → not b ≡ true → ⊥
ended_is_kept true e k = absurd cc
ended_is_kept false e k = absurd cc

pub ended_counts_no_more : EndedCountsNoMore
ended_counts_no_more [] happening earlier fact e h =
    elim (split fact (brought happening) (filter (λ f. not (ends happening f)) (live earlier)) h) [
      | inl new ↦ record { cause = happening; among = inl refl; came = new }
      | inr old ↦ absurd (ended_is_kept (ends happening fact) e (passes (λ f. not (ends happening f)) fact (live earlier) old).1)
    ]
ended_counts_no_more (g ∷ later) happening earlier fact e h =
    let before = live (later ++ (happening ∷ earlier)) in
    elim (split fact (brought g) (filter (λ f. not (ends g f)) before) h) [
      | inl new ↦ record { cause = g; among = inl refl; came = new }
      | inr old ↦
          came_later g (later ++ (happening ∷ [])) fact
          (ended_counts_no_more later happening earlier fact e (passes (λ f. not (ends g f)) fact before old).0)
    ]
