-- What one more entry does to the restrictions in force.
use Rattle.std.proofs.Common.{◌≡◌, ℕ, ℤ, List, [], ◌∷◌, ◌++◌, Bool, true, false, cond, refl, ap, sym, subst, ◌∙◌, ◌≤ℤ◌, ◌<ℤ◌, arith}
use Rattle.std.specs.Prelude.{not, filter, ◌||◌, if◌then◌else◌}
use Rattle.std.specs.Int.{int_max}
use Rattle.std.specs.List.{list_any}
use Rattle.std.proofs.lemmas.Int.{ints}
use Rattle.std.proofs.lemmas.List.Folds.{list_any-append}
use Rattle.std.proofs.lemmas.List.Elements.{filter-append}
use Rattle.track_store.specs.declared.restriction.Restriction.{Restriction}
use Rattle.track_store.specs.Covering.{reaches_past}
use Rattle.track_store.specs.Restrictions.{RestrictionEntry, InForce, in_force, standing, standing_but_for, ends, mark_of}
use Rattle.track_store.specs.Restrictions.RestrictionEntry.{Restricted, Revoked, Forgotten}

one_ended : (p : Restriction → Bool) (a b : Bool) (r : Restriction) (xs ys : List Restriction) → p r ≡ not b → ys ≡ filter p xs →
    ys ++ cond (a || (b || false)) [] (r ∷ []) ≡ filter p (xs ++ cond a [] (r ∷ []))
one_ended p true b r xs ys e f = rw (filter-append, f) refl
one_ended p false true r xs ys e f = rw (filter-append, f) (ap (λ c. filter p xs ++ cond c (r ∷ []) []) (sym e))
one_ended p false false r xs ys e f = rw (filter-append, f) (ap (λ c. filter p xs ++ cond c (r ∷ []) []) (sym e))

-- one more later entry leaves those that it does not end
one_later : (entry : RestrictionEntry) (later entries : List RestrictionEntry) →
    standing_but_for (later ++ entry ∷ []) entries ≡ filter (λ r. not (ends entry r)) (standing_but_for later entries)
one_later entry later [] = refl
one_later entry later (Revoked number ∷ entries) = one_later entry (Revoked number ∷ later) entries
one_later entry later (Forgotten mark ∷ entries) = one_later entry (Forgotten mark ∷ later) entries
one_later entry later (Restricted r ∷ entries) =
    rw (list_any-append (λ f. ends f r) later (entry ∷ []))
    (one_ended (λ r. not (ends entry r)) (list_any (λ f. ends f r) later) (ends entry r) r _ _ refl (one_later entry (Restricted r ∷ later) entries))

pub filter-true : {X : Type 0} (xs : List X) → filter (λ x. true) xs ≡ xs
filter-true [] = refl
filter-true (x ∷ xs) = ap (λ ys. x ∷ ys) (filter-true xs)

-- two filters may change places
filter-swap : {X : Type 0} (p q : X → Bool) (xs : List X) → filter p (filter q xs) ≡ filter q (filter p xs)
filter-swap p q [] = refl
filter-swap p q (x ∷ xs) =
    let cases : (a b : Bool) → p x ≡ a → q x ≡ b → filter p (cond b (x ∷ filter q xs) (filter q xs)) ≡ filter q (cond a (x ∷ filter p xs) (filter p xs)) =
    elim [
      | true ↦ elim [ true ↦ λ d e. rw (d, e) (ap (λ ys. x ∷ ys) (filter-swap p q xs)) | false ↦ λ d e. rw e (filter-swap p q xs) ]
      | false ↦ elim [ true ↦ λ d e. rw d (filter-swap p q xs) | false ↦ λ d e. filter-swap p q xs ]
    ] in
    cases (p x) (q x) refl refl

-- the second of two filters is enough where it lets nothing through that the first doesn't
filter-within : {X : Type 0} (p q : X → Bool) (xs : List X) → ((x : X) → p x ≡ true → q x ≡ true) → filter p (filter q xs) ≡ filter p xs
filter-within p q [] h = refl
filter-within p q (x ∷ xs) h =
    let cases : (a b : Bool) → p x ≡ a → q x ≡ b → filter p (cond b (x ∷ filter q xs) (filter q xs)) ≡ cond a (x ∷ filter p xs) (filter p xs) =
    elim [
      | true ↦ elim [ true ↦ λ d e. rw d (ap (λ ys. x ∷ ys) (filter-within p q xs h)) | false ↦ λ d e. absurd (let k : true ≡ false = sym (h x d) ∙ e in cc) ]
      | false ↦ elim [ true ↦ λ d e. rw d (filter-within p q xs h) | false ↦ λ d e. filter-within p q xs h ]
    ] in
    cases (p x) (q x) refl refl

-- of the restrictions that reach past a mark: a restriction more, a number less, a mark more
after_restricted : (r : Restriction) (mark : ℤ) (entries : List RestrictionEntry) →
    filter (reaches_past mark) (standing (Restricted r ∷ entries))
    ≡ filter (λ q. not (ends (Restricted r) q)) (filter (reaches_past mark) (standing entries)) ++ (if reaches_past mark r then r ∷ [] else [])
after_restricted r mark entries =
    let one : standing (Restricted r ∷ entries) ≡ filter (λ q. not (ends (Restricted r) q)) (standing entries) ++ r ∷ [] =
    ap (λ rs. rs ++ r ∷ []) (one_later (Restricted r) [] entries) in
    ap (filter (reaches_past mark)) one ∙ filter-append (reaches_past mark) _ (r ∷ [])
    ∙ ap (λ rs. rs ++ (if reaches_past mark r then r ∷ [] else [])) (filter-swap (reaches_past mark) (λ q. not (ends (Restricted r) q)) (standing entries))

after_revoked : (number : ℕ) (mark : ℤ) (entries : List RestrictionEntry) →
    filter (reaches_past mark) (standing (Revoked number ∷ entries))
    ≡ filter (λ q. not (ends (Revoked number) q)) (filter (reaches_past mark) (standing entries))
after_revoked number mark entries =
    ap (filter (reaches_past mark)) (one_later (Revoked number) [] entries)
    ∙ filter-swap (reaches_past mark) (λ q. not (ends (Revoked number) q)) (standing entries)

standing_forgotten : (mark : ℤ) (entries : List RestrictionEntry) → standing (Forgotten mark ∷ entries) ≡ standing entries
standing_forgotten mark entries = one_later (Forgotten mark) [] entries ∙ filter-true (standing entries)

-- what stands for the entries stands for a restriction more
pub one_restriction : (mark : ℤ) (old new : List Restriction) (r : Restriction) (entries : List RestrictionEntry) (ahead : Bool) →
    record { mark = mark; restrictions = old } ≡ in_force entries → reaches_past mark r ≡ ahead →
    new ≡ filter (λ q. not (ends (Revoked r.number) q)) old ++ (if ahead then r ∷ [] else []) →
    record { mark = mark; restrictions = new } ≡ in_force (Restricted r ∷ entries)
one_restriction mark old new r entries ahead is reaches added =
    let m : mark ≡ mark_of entries = ap (λ (track : InForce). track.mark) is in
    let o : old ≡ filter (reaches_past (mark_of entries)) (standing entries) = ap (λ (track : InForce). track.restrictions) is in
    let b : ahead ≡ reaches_past (mark_of entries) r = sym reaches ∙ ap (λ (z : ℤ). reaches_past z r) m in
    let n : new ≡ filter (reaches_past (mark_of entries)) (standing (Restricted r ∷ entries)) =
    added ∙ (λ i. filter (λ q. not (ends (Revoked r.number) q)) (o i) ++ (if b i then r ∷ [] else [])) ∙ sym (after_restricted r (mark_of entries) entries) in
    λ i. record { mark = m i; restrictions = n i }

-- .. for a revocation more
pub one_revocation : (mark : ℤ) (old new : List Restriction) (number : ℕ) (entries : List RestrictionEntry) →
    record { mark = mark; restrictions = old } ≡ in_force entries → new ≡ filter (λ q. not (ends (Revoked number) q)) old →
    record { mark = mark; restrictions = new } ≡ in_force (Revoked number ∷ entries)
one_revocation mark old new number entries is kept =
    let m : mark ≡ mark_of entries = ap (λ (track : InForce). track.mark) is in
    let o : old ≡ filter (reaches_past (mark_of entries)) (standing entries) = ap (λ (track : InForce). track.restrictions) is in
    let n : new ≡ filter (reaches_past (mark_of entries)) (standing (Revoked number ∷ entries)) =
    kept ∙ ap (filter (λ q. not (ends (Revoked number) q))) o ∙ sym (after_revoked number (mark_of entries) entries) in
    λ i. record { mark = m i; restrictions = n i }

-- .. for a higher mark more
pub one_mark : (old_mark mark : ℤ) (old new : List Restriction) (entries : List RestrictionEntry) →
    record { mark = old_mark; restrictions = old } ≡ in_force entries → old_mark <ℤ mark → new ≡ filter (reaches_past mark) old →
    record { mark = mark; restrictions = new } ≡ in_force (Forgotten mark ∷ entries)
one_mark old_mark mark old new entries is higher kept =
    let k : old_mark ≡ mark_of entries = ap (λ (track : InForce). track.mark) is in
    let o : old ≡ filter (reaches_past (mark_of entries)) (standing entries) = ap (λ (track : InForce). track.restrictions) is in
    let above : mark_of entries <ℤ mark = subst (λ (z : ℤ). z <ℤ mark) k higher in
    let m : mark ≡ int_max mark (mark_of entries) = grind (arith, ints) in
    let n : new ≡ filter (reaches_past mark) (standing (Forgotten mark ∷ entries)) =
    kept ∙ ap (filter (reaches_past mark)) o
    ∙ filter-within (reaches_past mark) (reaches_past (mark_of entries)) (standing entries) (λ r past. grind (arith, ints))
    ∙ ap (filter (reaches_past mark)) (sym (standing_forgotten mark entries)) in
    λ i. record { mark = m i; restrictions = (n ∙ ap (λ (z : ℤ). filter (reaches_past z) (standing (Forgotten mark ∷ entries))) m) i }

-- a mark that isn't higher changes nothing
pub same_mark : (mark : ℤ) (track : InForce) (entries : List RestrictionEntry) → track ≡ in_force entries → mark ≤ℤ track.mark →
    track ≡ in_force (Forgotten mark ∷ entries)
same_mark mark track entries is lower =
    let below : mark ≤ℤ mark_of entries = subst (λ (z : ℤ). mark ≤ℤ z) (ap (λ (t : InForce). t.mark) is) lower in
    let m : mark_of entries ≡ int_max mark (mark_of entries) = grind (arith, ints) in
    let n : filter (reaches_past (mark_of entries)) (standing entries) ≡ filter (reaches_past (int_max mark (mark_of entries))) (standing (Forgotten mark ∷ entries)) =
    λ i. filter (reaches_past (m i)) (sym (standing_forgotten mark entries) i) in
    is ∙ (λ i. record { mark = m i; restrictions = n i })
