-- The tests of a group mean what the relation says.
use Rattle.std.proofs.Common.{◌≡◌, ℕ, zero, suc, ◌+◌, ◌<◌, List, [], ◌∷◌, Bool, true, false, cond, ◌⊎◌, inl, inr, refl, ap, sym, ◌∙◌, subst, arith, Some, None}
use Rattle.std.specs.Prelude.{◌||◌, ◌&&◌, ◌==◌, not}
use Rattle.std.specs.List.{list_any}
use Rattle.std.proofs.lemmas.Bool.Decides.{nat_tests}
use Rattle.std.proofs.lemmas.Option.{same_Some}
use Rattle.balise_groups.specs.declared.reading.Reading.{Reading}
use Rattle.balise_groups.specs.declared.message.Closed.{Closed}
use Rattle.balise_groups.specs.declared.message.Cause.TheVariants.{Missing, Counter, Mixed}
use Rattle.balise_groups.specs.Closing.{same_flag, differs, disagrees, is_refused, is_covered, is_read, is_at, covers, all_below, cause_of, closed_as, close_of}
use Rattle.balise_groups.specs.Relation.{Has, AreOfOneGroup, HaveOneCounter, Covers, CoverAll, Closes}
use Rattle.balise_groups.proofs.Places.{or_left, or_right}

-- one passes a test, or none does
some_passes : {X : Type 0} (p : X → Bool) (xs : List X) → list_any p xs ≡ true → (x : X) × Has xs x × (p x ≡ true)
some_passes p [] h = cc
some_passes p (x ∷ xs) h =
    let cases : (b : Bool) → p x ≡ b → (b || list_any p xs) ≡ true → (y : _) × Has (x ∷ xs) y × (p y ≡ true) =
    elim [
      | true ↦ λ e k. (x, inl refl, e)
      | false ↦ λ e k. (let w = some_passes p xs k in (w.0, inr w.1, w.2))
    ] in
    cases (p x) refl h

none_passes : {X : Type 0} (p : X → Bool) (xs : List X) → list_any p xs ≡ false → (x : X) → Has xs x → p x ≡ false
none_passes p [] h x c = absurd c
none_passes p (y ∷ xs) h x c =
    elim c [
      | inl same ↦ ap p same ∙ or_left (p y) (list_any p xs) h
      | inr there ↦ none_passes p xs (or_right (p y) (list_any p xs) h) x there
    ]

same_flag_is : (a b : Bool) → same_flag a b ≡ true → a ≡ b
same_flag_is true true h = refl
same_flag_is true false h = cc
same_flag_is false true h = cc
same_flag_is false false h = refl

same_flag_of : (a b : Bool) → a ≡ b → same_flag a b ≡ true
same_flag_of true true h = refl
same_flag_of true false h = cc
same_flag_of false true h = cc
same_flag_of false false h = refl

one_group : (first : Reading) (rs : List Reading) → list_any (differs first) rs ≡ false → AreOfOneGroup first rs
one_group first rs h = record {
  all = λ r c. (
      let no = none_passes (differs first) rs h r c in
      let are_true : (t l : Bool) → not (t && l) ≡ false → (t ≡ true) × (l ≡ true) =
      λ t l. elim t as (λ t. not (t && l) ≡ false → (t ≡ true) × (l ≡ true)) [
        | true ↦ elim l as (λ l. not (true && l) ≡ false → (true ≡ true) × (l ≡ true)) [ true ↦ λ k. (refl, refl) | false ↦ λ k. cc ]
        | false ↦ λ k. cc
      ] in
      let w = are_true (r.telegram.header.last_position == first.telegram.header.last_position) (same_flag r.telegram.header.linked first.telegram.header.linked) no in
      let total = w.0 in
      (grind (arith, nat_tests, total), same_flag_is r.telegram.header.linked first.telegram.header.linked w.1));
}

no_group : (first : Reading) (rs : List Reading) → list_any (differs first) rs ≡ true → ¬ AreOfOneGroup first rs
no_group first rs h one =
    let w = some_passes (differs first) rs h in
    let same = one.all w.0 w.1 in
    let total : (w.0.telegram.header.last_position == first.telegram.header.last_position) ≡ true = (let e = same.0 in grind (arith, nat_tests, e)) in
    let linked = same_flag_of w.0.telegram.header.linked first.telegram.header.linked same.1 in
    let no : differs first w.0 ≡ false = rw (total, linked) refl in
    let clash : true ≡ false = sym w.2 ∙ no in cc

one_counter : (rs : List Reading) → list_any (is_refused rs) rs ≡ false → HaveOneCounter rs
one_counter rs h = record {
  none_is_refused = λ r c e. (
      let no = or_left (r.telegram.header.counter == 254) (list_any (disagrees r) rs) (none_passes (is_refused rs) rs h r c) in
      grind (arith, nat_tests, no, e));
  equal = λ a b ca cb. (
      let no = none_passes (disagrees a) rs (or_right (a.telegram.header.counter == 254) (list_any (disagrees a) rs) (none_passes (is_refused rs) rs h a ca)) b cb in
      grind (arith, nat_tests, no));
}

no_counter : (rs : List Reading) → list_any (is_refused rs) rs ≡ true → ¬ HaveOneCounter rs
no_counter rs h one =
    let w = some_passes (is_refused rs) rs h in
    let not_254 = one.none_is_refused w.0 w.1 in
    let cases : (a b : Bool) → (w.0.telegram.header.counter == 254) ≡ a → list_any (disagrees w.0) rs ≡ b → (a || b) ≡ true → ⊥ =
    elim [
      | true ↦ λ b e f k. not_254 (grind (arith, nat_tests, e))
      | false ↦ elim [
        | true ↦ λ e f k. (let v = some_passes (disagrees w.0) rs f in let yes = v.2 in let agree = one.equal w.0 v.0 w.1 v.1 in grind (arith, nat_tests, yes, agree))
        | false ↦ λ e f k. cc
      ]
    ] in
    cases (w.0.telegram.header.counter == 254) (list_any (disagrees w.0) rs) refl refl w.2

each_passes : (n : ℕ) (test : ℕ → Bool) → all_below n test ≡ true → (k : ℕ) → k < n → test k ≡ true
each_passes zero test h k l = absurd (omega (arith, l))
each_passes (suc n) test h k l =
    let are_true : (a b : Bool) → (a && b) ≡ true → (a ≡ true) × (b ≡ true) =
    λ a b. elim a as (λ a. (a && b) ≡ true → (a ≡ true) × (b ≡ true)) [ true ↦ λ k. (refl, k) | false ↦ λ k. cc ] in
    let w = are_true (all_below n test) (test n) h in
    let cases : (k ≡ n) ⊎ (k < n) = grind (arith, l) in
    elim cases [ inl same ↦ ap test same ∙ w.1 | inr less ↦ each_passes n test w.0 k less ]

one_fails : (n : ℕ) (test : ℕ → Bool) → all_below n test ≡ false → (k : ℕ) × (k < n) × (test k ≡ false)
one_fails zero test h = cc
one_fails (suc n) test h =
    let cases : (b : Bool) → all_below n test ≡ b → (b && test n) ≡ false → (k : ℕ) × (k < suc n) × (test k ≡ false) =
    elim [
      | true ↦ λ e k. (n, omega arith, k)
      | false ↦ λ e k. (let w = one_fails n test e in let less = w.1 in (w.0, omega (arith, less), w.2))
    ] in
    cases (all_below n test) refl h

covers_is : (place : ℕ) (r : Reading) → (is_at place r || covers place r) ≡ true → Covers place r
covers_is place r h = grind (arith, nat_tests, h)

covers_of : (place : ℕ) (r : Reading) → Covers place r → (is_at place r ≡ true) ⊎ (covers place r ≡ true)
covers_of place r h = grind (arith, nat_tests, h)

covered_by : (rs : List Reading) (place : ℕ) → is_covered rs place ≡ true → (r : Reading) × Has rs r × Covers place r
covered_by rs place h =
    let cases : (b : Bool) → is_read rs place ≡ b → (b || list_any (covers place) rs) ≡ true → (r : Reading) × Has rs r × Covers place r =
    elim [
      | true ↦ λ e k. (let w = some_passes (is_at place) rs e in (w.0, w.1, covers_is place w.0 (ap (λ b. b || covers place w.0) w.2)))
      | false ↦ λ e k. (let w = some_passes (covers place) rs k in let yes = w.2 in
          let here : (b : Bool) → (b || covers place w.0) ≡ true = elim [ true ↦ refl | false ↦ yes ] in
          (w.0, w.1, covers_is place w.0 (here (is_at place w.0))))
    ] in
    cases (is_read rs place) refl h

cover_all : (first : Reading) (rs : List Reading) → all_below (first.telegram.header.last_position + 1) (is_covered rs) ≡ true → CoverAll first rs
cover_all first rs h = record {
  each = λ place l. covered_by rs place (each_passes (first.telegram.header.last_position + 1) (is_covered rs) h place (omega (arith, l)));
}

not_all : (first : Reading) (rs : List Reading) → all_below (first.telegram.header.last_position + 1) (is_covered rs) ≡ false → ¬ CoverAll first rs
not_all first rs h all =
    let w = one_fails (first.telegram.header.last_position + 1) (is_covered rs) h in
    let less = w.1 in
    let r = all.each w.0 (omega (arith, less)) in
    let unread = none_passes (is_at w.0) rs (or_left (is_read rs w.0) (list_any (covers w.0) rs) w.2) r.0 r.1 in
    let unreported = none_passes (covers w.0) rs (or_right (is_read rs w.0) (list_any (covers w.0) rs) w.2) r.0 r.1 in
    elim (covers_of w.0 r.0 r.2) [
      | inl reported ↦ (let clash : true ≡ false = sym reported ∙ unread in cc)
      | inr reported ↦ (let clash : true ≡ false = sym reported ∙ unreported in cc)
    ]

pub closes_so : (first : Reading) (rs : List Reading) → Closes first rs (closed_as first rs (cause_of first rs))
closes_so first rs =
    let cases : (a b c : Bool) → list_any (differs first) rs ≡ a → list_any (is_refused rs) rs ≡ b → all_below (first.telegram.header.last_position + 1) (is_covered rs) ≡ c →
    Closes first rs (closed_as first rs (cond a (Some Mixed) (cond b (Some Counter) (cond c None (Some Missing))))) =
    elim [
      | true ↦ λ b c e f g. (refl, no_group first rs e)
      | false ↦ elim [
        | true ↦ λ c e f g. (refl, (one_group first rs e, no_counter rs f))
        | false ↦ elim [
          | true ↦ λ e f g. (one_group first rs e, one_counter rs f, cover_all first rs g, refl)
          | false ↦ λ e f g. (refl, (one_group first rs e, one_counter rs f, not_all first rs g))
        ]
      ]
    ] in
    cases (list_any (differs first) rs) (list_any (is_refused rs) rs) (all_below (first.telegram.header.last_position + 1) (is_covered rs)) refl refl refl

pub closes : (first : Reading) (rs : List Reading) (c : Closed) → close_of (first ∷ rs) ≡ Some c → Closes first (first ∷ rs) c
closes first rs c h = let P : Closed → Type 0 = λ c. Closes first (first ∷ rs) c in subst P (same_Some _ c h) (closes_so first (first ∷ rs))
