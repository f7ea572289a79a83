-- What a layout says of bits and what reading gives are one: what is read is spelled so, what is spelled so is read,
-- whatever follows, and a fault of reading is the first fault.
use Rattle.std.proofs.Common.{ℕ, zero, suc, ◌∷◌, ◌+◌, ◌-◌, nat_eq, subst, ◌≡◌, ◌≤◌, ◌⊎◌, inl, inr, Bool, true, false, cond, ltb, List, [], ◌++◌, length, take, drop, Some, None, Result, Ok, Err, refl, sym, ap, ◌∙◌, append_assoc, arith, length-take, length-append}
use Rattle.std.proofs.lemmas.Bool.{ltb-false, ltb-true, le-ltb, lt-ltb, eqb-true, eqb-false, eq-eqb, ne_eqb}
use Rattle.std.proofs.lemmas.List.{take_at, drop_at, take-append-drop, append_cancel_right, append-nil}
use Rattle.bits.specs.Bits.{number}
use Rattle.bits.specs.Layout.{Layout, done, unless, field, run, choice, kind, part, inner, measured, more, reported_as, map_fault, then_, Spells, Begins, Refuses, read, read_field, read_run, read_more, InTurn, InTurnTo, checked, after, alongside}

abbrev made : (F : Type 0) {X : Type 0} → X → Result X F
made F x = Ok x

ok_same : (F : Type 0) {X : Type 0} (x y : X) → made F x ≡ made F y → x ≡ y
ok_same F x y e = cc

abbrev failed : (X : Type 0) {F : Type 0} → F → Result X F
failed X e = Err e

pub err_same : (X : Type 0) {F : Type 0} (d e : F) → failed X d ≡ failed X e → d ≡ e
err_same X d e same = cc

parts_same : {A : Type 0} (p q : A × List Bool) → p ≡ q → (p.0 ≡ q.0) × (p.1 ≡ q.1)
parts_same p q same = (ap (λ (r : _ × List Bool). r.0) same, ap (λ (r : _ × List Bool). r.1) same)

pub same_reading : (F : Type 0) {A : Type 0} (p q : A × List Bool) → made F p ≡ made F q → (p.0 ≡ q.0) × (p.1 ≡ q.1)
same_reading F p q e = parts_same p q (ok_same F p q e)

-- ---- results in steps

after_ok : {F A B : Type 0} (r : Result (A × List Bool) F) (f : A → List Bool → Result (B × List Bool) F) (y : B × List Bool) → after r f ≡ Ok y
    → (x : A) × (rest : List Bool) × (r ≡ Ok (x, rest)) × (f x rest ≡ Ok y)
after_ok (Ok x) f y e = (x.0, x.1, refl, e)
after_ok (Err d) f y e = absurd cc

after_err : {F A B : Type 0} (r : Result (A × List Bool) F) (f : A → List Bool → Result (B × List Bool) F) (d : F) → after r f ≡ Err d
    → (r ≡ Err d) ⊎ ((x : A) × (rest : List Bool) × (r ≡ Ok (x, rest)) × (f x rest ≡ Err d))
after_err (Ok x) f d e = inr (x.0, x.1, refl, e)
after_err {A = A} (Err c) f d e = inl (ap (failed (A × List Bool)) (err_same _ c d e))

guard_ok : {F A : Type 0} (b : Bool) (d : F) (r : Result A F) (y : A) → cond b (Err d) r ≡ Ok y → (b ≡ false) × (r ≡ Ok y)
guard_ok true d r y e = absurd cc
guard_ok false d r y e = (refl, e)

guard_err : {F A : Type 0} (b : Bool) (d e : F) (r : Result A F) → cond b (Err d) r ≡ Err e → ((b ≡ true) × (e ≡ d)) ⊎ ((b ≡ false) × (r ≡ Err e))
guard_err {A = A} true d e r same = inl (refl, sym (err_same A d e same))
guard_err false d e r same = inr (refl, same)

fault_ok : {G F X : Type 0} (g : G → F) (r : Result X G) (y : X) → map_fault g r ≡ Ok y → r ≡ Ok y
fault_ok g (Ok x) y e = cc
fault_ok g (Err d) y e = absurd cc

fault_err : {G F X : Type 0} (g : G → F) (r : Result X G) (e : F) → map_fault g r ≡ Err e → (d : G) × (r ≡ Err d) × (e ≡ g d)
fault_err g (Ok x) e same = absurd cc
fault_err {X = X} g (Err d) e same = (d, refl, sym (err_same X (g d) e same))

alongside_ok : {F A : Type 0} (r : Result A F) (left : List Bool) (y : A × List Bool) → alongside r left ≡ Ok y → (r ≡ Ok y.0) × (left ≡ y.1)
alongside_ok {F = F} (Ok x) left y e =
    let p = same_reading F (x, left) y e in
    (ap (made F) p.0, p.1)
alongside_ok (Err d) left y e = absurd cc

alongside_err : {F A : Type 0} (r : Result A F) (left : List Bool) (e : F) → alongside r left ≡ Err e → r ≡ Err e
alongside_err (Ok x) left e same = absurd cc
alongside_err {A = A} (Err d) left e same = ap (failed A) (err_same (A × List Bool) d e same)

-- ---- a length that is reported

-- the bits of a front, as those before it less those after it
front_length : (bits front rest : List Bool) → bits ≡ front ++ rest → length bits - length rest ≡ length front
front_length bits front rest e = omega (arith, ap length e, length-append front rest)

test_ok : {F A : Type 0} (b : Bool) (x y : A × List Bool) (f : F) → cond b (Ok x) (Err f) ≡ Ok y → (b ≡ true) × (x.0 ≡ y.0) × (x.1 ≡ y.1)
test_ok {F = F} true x y f e = let p = same_reading F x y e in (refl, p.0, p.1)
test_ok false x y f e = absurd cc

test_err : {F A : Type 0} (b : Bool) (x : A × List Bool) (f e : F) → cond b (Ok x) (Err f) ≡ Err e → (b ≡ false) × (e ≡ f)
test_err true x f e same = absurd cc
test_err {A = A} false x f e same = (refl, sym (err_same (A × List Bool) f e same))

-- ---- lists

found_more : {F D : Type 0} (m : Layout F D D) (n : ℕ) (before : List D) (bits : List Bool) (xs : List D) (rest : List Bool)
    → ((left : List Bool) (x : D) (last : List Bool) → read m left ≡ Ok (x, last) → Begins m x left last)
    → read_more (λ left. read m left) n before bits ≡ Ok (xs, rest)
    → (new : List D) × (xs ≡ before ++ new) × (front : List Bool) × (bits ≡ front ++ rest) × InTurn (λ x part. Spells m x part) n new front
unfolding read_more
found_more {F = F} m zero before bits xs rest finds e =
    let p = same_reading F (before, bits) (xs, rest) e in
    ([], sym p.0 ∙ sym (append-nil before), [], p.1, refl)
found_more m (suc n) before bits xs rest finds e =
    let a = after_ok (read m bits) (λ x left. read_more (λ t. read m t) n (before ++ x ∷ []) left) (xs, rest) e in
    let one = finds bits a.0 a.1 a.2 in
    let others = found_more m n (before ++ a.0 ∷ []) a.1 xs rest finds a.3 in (
      a.0 ∷ others.0,
      others.1 ∙ append_assoc before (a.0 ∷ []) others.0,
      one.front ++ others.2,
      one.parts ∙ ap (λ (t : List Bool). one.front ++ t) others.3 ∙ sym (append_assoc one.front others.2 rest),
      (one.front, others.2, refl, one.spelled, others.4),
    )

again_more : {F D : Type 0} (m : Layout F D D) (n : ℕ) (before new : List D) (front rest : List Bool)
    → ((x : D) (part left : List Bool) → Spells m x part → read m (part ++ left) ≡ Ok (x, left))
    → InTurn (λ x part. Spells m x part) n new front → read_more (λ left. read m left) n before (front ++ rest) ≡ Ok (before ++ new, rest)
unfolding read_more
again_more m zero before [] front rest agains s = rw (s, append-nil) refl
again_more m zero before (x ∷ xs) front rest agains s = absurd s
again_more m (suc n) before [] front rest agains s = absurd s
again_more m (suc n) before (x ∷ xs) front rest agains s =
    let one = agains x s.0 (s.1 ++ rest) s.3 in
    let others = again_more m n (before ++ x ∷ []) xs s.1 rest agains s.4 in
    rw (s.2, append_assoc, one) (others ∙ ap (λ (t : List _). Ok (t, rest)) (append_assoc before (x ∷ []) xs))

refused_more : {F D : Type 0} (m : Layout F D D) (n : ℕ) (before : List D) (bits : List Bool) (e : F)
    → ((left : List Bool) (x : D) (last : List Bool) → read m left ≡ Ok (x, last) → Begins m x left last)
    → ((left : List Bool) → read m left ≡ Err e → Refuses m e left)
    → read_more (λ left. read m left) n before bits ≡ Err e → InTurnTo (λ x part. Spells m x part) (λ left. Refuses m e left) n bits
unfolding read_more
refused_more m zero before bits e finds refuses same = absurd cc
refused_more m (suc n) before bits e finds refuses same =
    elim (after_err (read m bits) (λ x left. read_more (λ t. read m t) n (before ++ x ∷ []) left) e same) [
      | inl h ↦ inl (refuses bits h)
      | inr h ↦
          let one = finds bits h.0 h.1 h.2 in
          inr (h.0, one.front, h.1, one.parts, one.spelled, refused_more m n (before ++ h.0 ∷ []) h.1 e finds refuses h.3)
    ]

refused_more_again : {F D : Type 0} (m : Layout F D D) (n : ℕ) (before : List D) (bits : List Bool) (e : F)
    → ((x : D) (part left : List Bool) → Spells m x part → read m (part ++ left) ≡ Ok (x, left))
    → ((left : List Bool) → Refuses m e left → read m left ≡ Err e)
    → InTurnTo (λ x part. Spells m x part) (λ left. Refuses m e left) n bits → read_more (λ left. read m left) n before bits ≡ Err e
unfolding read_more
refused_more_again m zero before bits e agains refuses r = absurd r
refused_more_again m (suc n) before bits e agains refuses r =
    elim r [
      | inl h ↦ rw (refuses bits h) refl
      | inr h ↦
          let one = agains h.0 h.1 h.2 h.4 in
          rw (h.3, one) (refused_more_again m n (before ++ h.0 ∷ []) h.2 e agains refuses h.5)
    ]

-- ---- what is read is spelled so

pub found : {F C A : Type 0} (m : Layout F C A) (bits : List Bool) (x : A) (rest : List Bool) → read m bits ≡ Ok (x, rest) → Begins m x bits rest
unfolding read_field read_run
found {F = F} (done y) bits x rest e =
    let p = same_reading F (y, bits) (x, rest) e in
    record { front = []; parts = p.1; spelled = (sym p.0, refl) }
found {F = F} (unless b f) bits x rest e =
    let g = guard_ok b f (Ok (tt, bits)) (x, rest) e in
    let p = same_reading F (tt, bits) (x, rest) g.1 in
    record { front = []; parts = p.1; spelled = (g.0, refl) }
found (field name f g codes get) bits x rest e =
    let long = guard_ok (ltb (length bits) codes.width) f (map_fault g (alongside (codes.value (number (take codes.width bits))) (drop codes.width bits))) (x, rest) e in
    let b = alongside_ok (codes.value (number (take codes.width bits))) (drop codes.width bits) (x, rest) (fault_ok g _ (x, rest) long.1) in
    let le : codes.width ≤ length bits = ltb-false _ _ long.0 in
    record { front = take codes.width bits; parts = rw (← b.1) (sym (take-append-drop codes.width bits)); spelled = (omega (arith, length-take codes.width bits), b.0) }
found {F = F} (run n f get) bits x rest e =
    let g = guard_ok (ltb (length bits) n) f (Ok (take n bits, drop n bits)) (x, rest) e in
    let p = same_reading F (take n bits, drop n bits) (x, rest) g.1 in
    let long : n ≤ length bits = ltb-false _ _ g.0 in
    record { front = take n bits; parts = rw (← p.1) (sym (take-append-drop n bits)); spelled = (omega (arith, length-take n bits), p.0) }
found (choice true m n) bits x rest e =
    let a = found m bits x rest e in record { front = a.front; parts = a.parts; spelled = a.spelled }
found (choice false m n) bits x rest e =
    let a = found n bits x rest e in record { front = a.front; parts = a.parts; spelled = a.spelled }
found {F = F} (kind make get m) bits x rest e =
    let a = after_ok (read m bits) (λ y left. Ok (make y, left)) (x, rest) e in
    let p = same_reading F (make a.0, a.1) (x, rest) a.3 in
    let b = found m bits a.0 a.1 a.2 in
    record { front = b.front; parts = b.parts ∙ ap (λ (t : List Bool). b.front ++ t) p.1; spelled = (a.0, sym p.0, b.spelled) }
found {F = F} (part true m get) bits x rest e =
    let a = after_ok (read m bits) (λ y left. Ok (Some y, left)) (x, rest) e in
    let p = same_reading F (Some a.0, a.1) (x, rest) a.3 in
    let b = found m bits a.0 a.1 a.2 in
    record { front = b.front; parts = b.parts ∙ ap (λ (t : List Bool). b.front ++ t) p.1; spelled = (a.0, sym p.0, b.spelled) }
found {F = F} (part false m get) bits x rest e =
    let p = same_reading F (None, bits) (x, rest) e in
    record { front = []; parts = p.1; spelled = (sym p.0, refl) }
found (inner m get) bits x rest e =
    let a = found m bits x rest e in record { front = a.front; parts = a.parts; spelled = a.spelled }
found (measured f before m) bits x rest e =
    let a = after_ok (read m bits) (λ p left. checked f before bits p left) (x, rest) e in
    let t = test_ok (nat_eq a.0.0 (before + (length bits - length a.1))) (a.0.1, a.1) (x, rest) f a.3 in
    let one = found m bits a.0 a.1 a.2 in
    let long = front_length bits one.front a.1 one.parts in
    let reported : a.0.0 ≡ before + length one.front = eqb-true _ _ t.0 ∙ ap (λ (n : ℕ). before + n) long in
    record {
      front = one.front;
      parts = one.parts ∙ ap (λ (r : List Bool). one.front ++ r) t.2;
      spelled = (a.0.0, subst (λ (y : _). Spells m (a.0.0, y) one.front) t.1 one.spelled, reported);
    }
found (more n m before get) bits xs rest e =
    let a = found_more m n before bits xs rest (λ left x last h. found m left x last h) e in
    record { front = a.2; parts = a.3; spelled = (a.0, a.1, a.4) }
found (reported_as g m) bits x rest e =
    let a = found m bits x rest (fault_ok g (read m bits) (x, rest) e) in record { front = a.front; parts = a.parts; spelled = a.spelled }
found (then_ m f) bits y rest e =
    let a = after_ok (read m bits) (λ x left. read (f x) left) (y, rest) e in
    let one = found m bits a.0 a.1 a.2 in
    let two = found (f a.0) a.1 y rest a.3 in
    record {
      front = one.front ++ two.front;
      parts = one.parts ∙ ap (λ (t : List Bool). one.front ++ t) two.parts ∙ sym (append_assoc one.front two.front rest);
      spelled = (a.0, one.front, two.front, refl, one.spelled, two.spelled);
    }

-- ---- what is spelled so is read, whatever follows

pub again : {F C A : Type 0} (m : Layout F C A) (x : A) (front rest : List Bool) → Spells m x front → read m (front ++ rest) ≡ Ok (x, rest)
unfolding read_field read_run
again (done y) x front rest s = rw (s.0, s.1) refl
again (unless b f) x front rest s = rw (s.0, s.1) refl
again (field name f g codes get) x front rest s =
    let long : ltb (length (front ++ rest)) codes.width ≡ false = le-ltb _ _ (omega (arith, length-append front rest)) in
    rw (long, take_at front rest codes.width s.0, drop_at front rest codes.width s.0, s.1) refl
again (run n f get) x front rest s =
    let long : ltb (length (front ++ rest)) n ≡ false = le-ltb _ _ (omega (arith, length-append front rest)) in
    rw (long, take_at front rest n s.0, drop_at front rest n s.0, s.1) refl
again (choice true m n) x front rest s = again m x front rest s
again (choice false m n) x front rest s = again n x front rest s
again (kind make get m) x front rest s = rw (again m s.0 front rest s.2, s.1) refl
again (part true m get) x front rest s = rw (again m s.0 front rest s.2, s.1) refl
again (part false m get) x front rest s = rw (s.0, s.1) refl
again (inner m get) x front rest s = again m x front rest s
again (measured f before m) x front rest s =
    let one = again m (s.0, x) front rest s.1 in
    let long = front_length (front ++ rest) front rest refl in
    let reported : nat_eq s.0 (before + (length (front ++ rest) - length rest)) ≡ true = eq-eqb _ _ (s.2 ∙ ap (λ (n : ℕ). before + n) (sym long)) in
    rw (one, reported) refl
again (more n m before get) xs front rest s =
    again_more m n before s.0 front rest (λ x part left h. again m x part left h) s.2 ∙ ap (λ (t : List _). Ok (t, rest)) (sym s.1)
again (reported_as g m) x front rest s = rw (again m x front rest s) refl
again (then_ m f) y front rest s =
    let one = again m s.0 s.1 (s.2 ++ rest) s.4 in
    let two = again (f s.0) y s.2 rest s.5 in
    rw (s.3, append_assoc, one) two

pub initial : {F C A : Type 0} (m : Layout F C A) (x : A) (bits rest : List Bool) → Begins m x bits rest → read m bits ≡ Ok (x, rest)
initial m x bits rest b = rw b.parts (again m x b.front rest b.spelled)

-- ---- a fault of reading is the first fault

pub refused : {F C A : Type 0} (m : Layout F C A) (bits : List Bool) (e : F) → read m bits ≡ Err e → Refuses m e bits
unfolding read_field read_run
refused (done y) bits e same = absurd cc
refused (unless b f) bits e same =
    elim (guard_err b f e (Ok (tt, bits)) same) [ inl h ↦ h | inr h ↦ absurd (let no = h.1 in cc) ]
refused {F = F} (field name f g codes get) bits e same =
    elim (guard_err (ltb (length bits) codes.width) f e (map_fault g (alongside (codes.value (number (take codes.width bits))) (drop codes.width bits))) same) [
      | inl h ↦ inl (ltb-true _ _ h.0, h.1)
      | inr h ↦
          let a = fault_err g (alongside (codes.value (number (take codes.width bits))) (drop codes.width bits)) e h.1 in
          inr (a.0, ltb-false _ _ h.0, alongside_err (codes.value (number (take codes.width bits))) (drop codes.width bits) a.0 a.1, a.2)
    ]
refused (run n f get) bits e same =
    elim (guard_err (ltb (length bits) n) f e (Ok (take n bits, drop n bits)) same) [ inl h ↦ (ltb-true _ _ h.0, h.1) | inr h ↦ absurd (let no = h.1 in cc) ]
refused (choice true m n) bits e same = refused m bits e same
refused (choice false m n) bits e same = refused n bits e same
refused (kind make get m) bits e same =
    elim (after_err (read m bits) (λ y left. Ok (make y, left)) e same) [ inl h ↦ refused m bits e h | inr h ↦ absurd (let no = h.3 in cc) ]
refused (part true m get) bits e same =
    elim (after_err (read m bits) (λ y left. Ok (Some y, left)) e same) [ inl h ↦ refused m bits e h | inr h ↦ absurd (let no = h.3 in cc) ]
refused (part false m get) bits e same = absurd cc
refused (inner m get) bits e same = refused m bits e same
refused (measured f before m) bits e same =
    elim (after_err (read m bits) (λ p left. checked f before bits p left) e same) [
      | inl h ↦ inl (refused m bits e h)
      | inr h ↦
          let t = test_err (nat_eq h.0.0 (before + (length bits - length h.1))) (h.0.1, h.1) f e h.3 in
          let one = found m bits h.0 h.1 h.2 in
          let long = front_length bits one.front h.1 one.parts in
          inr (h.0.0, h.0.1, one.front, h.1, one.parts, one.spelled, (λ reported. eqb-false _ _ t.0 (reported ∙ ap (λ (n : ℕ). before + n) (sym long))), t.1)
    ]
refused (more n m before get) bits e same =
    refused_more m n before bits e (λ left x last h. found m left x last h) (λ left h. refused m left e h) same
refused (reported_as g m) bits e same =
    let a = fault_err g (read m bits) e same in (a.0, refused m bits a.0 a.1, a.2)
refused (then_ m f) bits e same =
    elim (after_err (read m bits) (λ x left. read (f x) left) e same) [
      | inl h ↦ inl (refused m bits e h)
      | inr h ↦
          let one = found m bits h.0 h.1 h.2 in
          inr (h.0, one.front, h.1, one.parts, one.spelled, refused (f h.0) h.1 e h.3)
    ]

pub refused_again : {F C A : Type 0} (m : Layout F C A) (bits : List Bool) (e : F) → Refuses m e bits → read m bits ≡ Err e
unfolding read_field read_run
refused_again (done y) bits e r = absurd r
refused_again (unless b f) bits e r = rw (r.0, r.1) refl
refused_again (field name f g codes get) bits e r =
    elim r [
      | inl h ↦ let short : ltb (length bits) codes.width ≡ true = lt-ltb _ _ h.0 in rw (short, h.1) refl
      | inr h ↦ let long : ltb (length bits) codes.width ≡ false = le-ltb _ _ h.1 in rw (long, h.2, h.3) refl
    ]
refused_again (run n f get) bits e r =
    let short : ltb (length bits) n ≡ true = lt-ltb _ _ r.0 in rw (short, r.1) refl
refused_again (choice true m n) bits e r = refused_again m bits e r
refused_again (choice false m n) bits e r = refused_again n bits e r
refused_again (kind make get m) bits e r = rw (refused_again m bits e r) refl
refused_again (part true m get) bits e r = rw (refused_again m bits e r) refl
refused_again (part false m get) bits e r = absurd r
refused_again (inner m get) bits e r = refused_again m bits e r
refused_again (measured f before m) bits e r =
    elim r [
      | inl h ↦ rw (refused_again m bits e h) refl
      | inr h ↦
          let one = again m (h.0, h.1) h.2 h.3 h.5 in
          let long = front_length (h.2 ++ h.3) h.2 h.3 refl in
          let reported : nat_eq h.0 (before + (length (h.2 ++ h.3) - length h.3)) ≡ false = ne_eqb _ _ (λ same. h.6 (same ∙ ap (λ (n : ℕ). before + n) long)) in
          rw (h.4, one, reported, h.7) refl
    ]
refused_again (more n m before get) bits e r =
    refused_more_again m n before bits e (λ x part left h. again m x part left h) (λ left h. refused_again m left e h) r
refused_again (reported_as g m) bits e r = rw (refused_again m bits r.0 r.1, r.2) refl
refused_again (then_ m f) bits e r =
    elim r [
      | inl h ↦ rw (refused_again m bits e h) refl
      | inr h ↦
          let one = again m h.0 h.1 h.2 h.4 in
          rw (h.3, one) (refused_again (f h.0) h.2 e h.5)
    ]

-- ---- no spelling begins another, and no two values share one

pub one_spelling : {F C A : Type 0} (m : Layout F C A) (x y : A) (a b u v : List Bool) → Spells m x a → Spells m y b → a ++ u ≡ b ++ v → (x ≡ y) × (a ≡ b)
one_spelling m x y a b u v s t e =
    let one = again m x a u s in
    let two = again m y b v t in
    let same = same_reading _ (x, u) (y, v) (sym one ∙ ap (read m) e ∙ two) in
    (same.0, append_cancel_right a b u (e ∙ ap (λ (w : List Bool). b ++ w) (sym same.1)))

-- ---- bits begin with one value at most, or have one first fault

pub begins_once : {F C A : Type 0} (m : Layout F C A) (x y : A) (bits r s : List Bool) → Begins m x bits r → Begins m y bits s → (x ≡ y) × (r ≡ s)
begins_once {F = F} m x y bits r s b d = same_reading F (x, r) (y, s) (sym (initial m x bits r b) ∙ initial m y bits s d)

pub begins_not_refused : {F C A : Type 0} (m : Layout F C A) (x : A) (e : F) (bits rest : List Bool) → Begins m x bits rest → Refuses m e bits → ⊥
begins_not_refused m x e bits rest b r =
    let one = initial m x bits rest b in
    let two = refused_again m bits e r in
    absurd cc

pub refused_once : {F C A : Type 0} (m : Layout F C A) (d e : F) (bits : List Bool) → Refuses m d bits → Refuses m e bits → d ≡ e
refused_once {A = A} m d e bits r s = err_same (A × List Bool) d e (sym (refused_again m bits d r) ∙ refused_again m bits e s)
