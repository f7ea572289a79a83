-- What spells a value is what is appended for it, where the layout finds each value that is read in the whole again;
-- and then the value fits the layout.
use Rattle.std.proofs.Common.{ℕ, zero, suc, ◌∷◌, ◌<◌, ◌^◌, subst, ◌≡◌, Bool, true, false, List, [], ◌++◌, length, take, drop, ◌+◌, Option, Some, None, Ok, refl, sym, ap, ◌∙◌, arith}
use Rattle.std.specs.List.{AllByRecursion as Each}
use Rattle.std.specs.Prelude.{is_some, option_map, option_and_then, IfSome}
use Rattle.std.specs.Option.{option_map_or}
use Rattle.std.proofs.lemmas.List.{drop_at, take_at}
use Rattle.bits.specs.Bits.{number, number_bits}
use Rattle.bits.specs.Fitting.{HasNumber, Fits, Spellable}
use Rattle.bits.specs.Layout.{Codes, Layout, done, unless, field, run, choice, kind, part, inner, measured, more, reported_as, then_, Spells, InTurn}
use Rattle.bits.specs.Writing.{value, each_taken, size, appended}
use Rattle.bits.proofs.WritingLaws.{glue, glue_end, field_bits, number_below, length-appended}

-- the number of a value that a number stands for is that number
pub record Back {E A : Type 0} (codes : Codes E A) : Type 0 where
  pub back : (v : ℕ) (x : A) → v < 2 ^ codes.width → codes.value v ≡ Ok x → codes.number x ≡ v

-- each spelling of a value is what is appended for it, and the value fits the layout
pub record Appends {F D : Type 0} (m : Layout F D D) : Type 0 where
  pub is : (x : D) (front bits : List Bool) → Spells m x bits → front ++ bits ≡ appended m x front
  pub fits : (x : D) (bits : List Bool) → Spells m x bits → Spellable m x

-- Each value that is read is found in the whole again, and what is nested is appended. k says what the whole is.
abbrev pub Found : {F C A : Type 0} → Layout F C A → (A → (C → Type 0) → Type 0) → Type 0
Found (done y) k = k y (λ c. Unit {0})
Found (unless bad f) k = bad ≡ false → k tt (λ c. Unit {0})
Found {A = A} (field name f g codes get) k = Back codes × ((x : A) → HasNumber codes x → k x (λ c. get c ≡ x))
Found (run n f get) k = (x : List Bool) → k x (λ c. get c ≡ x)
Found (choice true m n) k = Found m k
Found (choice false m n) k = Found n k
Found (kind make get m) k = Found m (λ y Q. k (make y) (λ c. (d : _) × (get c ≡ Some d) × Q d))
Found (part {D = D} given m get) k = Appends m × ((x : Option D) → is_some x ≡ given → k x (λ c. get c ≡ x))
Found (inner {D = D} m get) k = Appends m × ((x : D) → k x (λ c. get c ≡ x))
Found (measured f before m) k = Found m (λ p Q. k p.1 Q)
Found (more {D = D} n m before get) k = Appends m × ((new : List D) → length new ≡ n → Each (λ d. Fits m d × (value m d ≡ Some d)) new → k (before ++ new) (λ c. get c ≡ before ++ new))
Found (reported_as g m) k = Found m k
Found (then_ m f) k = Found m (λ x P. Found (f x) (λ y Q. k y (λ c. P c × Q c)))

-- what a layout gives for one value
pub record At {F C A : Type 0} (m : Layout F C A) (k : A → (C → Type 0) → Type 0) (x : A) (bits : List Bool) : Type 1 where
  pub Chosen : C → Type 0
  pub holds : k x Chosen
  pub again : (c : C) → Chosen c → value m c ≡ Some x
  pub fits : (c : C) → Chosen c → Fits m c
  pub put : (c : C) (front : List Bool) → Chosen c → front ++ bits ≡ appended m c front

-- a part that is there where it is given
record PartBits {F D : Type 0} (m : Layout F D D) (given : Bool) (x : Option D) (front bits : List Bool) : Type 0 where
  there : is_some x ≡ given
  put : front ++ bits ≡ option_map_or (λ d. appended m d front) x front
  fits : IfSome x (λ d. Fits m d × (value m d ≡ Some d))

part_bits : {F C D : Type 0} (m : Layout F D D) (get : C → Option D) (given : Bool) (x : Option D) (front bits : List Bool) → Appends m → Spells (part given m get) x bits → PartBits m given x front bits
part_bits m get true x front bits one s =
    subst (λ (o : Option _). PartBits m true o front bits) (sym s.1) (record { there = refl; put = one.is s.0 front bits s.2; fits = one.fits s.0 bits s.2 })
part_bits m get false x front bits one s =
    subst (λ (o : Option _). PartBits m false o front bits) (sym s.0) (record { there = refl; put = glue_end front bits s.1; fits = tt })

-- elements one after another
record EachBits {F D : Type 0} (m : Layout F D D) (n : ℕ) (xs : List D) (front bits : List Bool) : Type 0 where
  long : length xs ≡ n
  put : front ++ bits ≡ each_taken (λ x left. appended m x left) xs front
  fits : Each (λ d. Fits m d × (value m d ≡ Some d)) xs

each_bits : {F D : Type 0} (m : Layout F D D) (n : ℕ) (xs : List D) (front bits : List Bool) → Appends m → InTurn (λ x left. Spells m x left) n xs bits → EachBits m n xs front bits
unfolding each_taken
each_bits m zero [] front bits one s = record { long = refl; put = glue_end front bits s; fits = tt }
each_bits m zero (x ∷ xs) front bits one s = absurd s
each_bits m (suc n) [] front bits one s = absurd s
each_bits m (suc n) (x ∷ xs) front bits one s =
    let others = each_bits m n xs (appended m x front) s.1 one s.4 in
    record {
      long = ap suc others.long;
      put = glue front bits s.0 s.1 (appended m x front) _ s.2 (one.is x front s.0 s.3) others.put;
      fits = (one.fits x s.0 s.3, others.fits);
    }

pub spelled : {F C A : Type 0} (m : Layout F C A) (k : A → (C → Type 0) → Type 0) (x : A) (bits : List Bool) → Found m k → Spells m x bits → At m k x bits
spelled (done y) k x bits h s = record {
  Chosen = λ c. Unit {0};
  holds = subst (λ (z : _). k z (λ c. Unit {0})) (sym s.0) h;
  again = λ c w. ap Some (sym s.0);
  fits = λ c w. tt;
  put = λ c front w. glue_end front bits s.1;
}
spelled (unless b f) k x bits h s = record {
  Chosen = λ c. Unit {0};
  holds = h s.0;
  again = λ c w. refl;
  fits = λ c w. s.0;
  put = λ c front w. glue_end front bits s.1;
}
spelled (field name f g codes get) k x bits h s =
    let small = number_below codes.width bits s.0 in
    let same : codes.number x ≡ number bits = h.0.back (number bits) x small s.1 in
    let has : HasNumber codes x = record { small = subst (λ (v : ℕ). v < 2 ^ codes.width) (sym same) small; own = ap codes.value same ∙ s.1 } in
    record {
      Chosen = λ c. get c ≡ x;
      holds = h.1 x has;
      again = λ c w. ap Some w;
      fits = λ c w. subst (λ (z : _). HasNumber codes z) (sym w) has;
      put = λ c front w. ap (λ (t : List Bool). front ++ t) (field_bits codes.width (codes.number x) bits s.0 same ∙ ap (λ (z : _). number_bits codes.width (codes.number z)) (sym w));
    }
spelled (run n f get) k x bits h s = record {
  Chosen = λ c. get c ≡ x;
  holds = h x;
  again = λ c w. ap Some w;
  fits = λ c w. ap length (w ∙ sym s.1) ∙ s.0;
  put = λ c front w. ap (λ (t : List Bool). front ++ t) (s.1 ∙ sym w);
}
spelled (choice true m n) k x bits h s =
    let a = spelled m k x bits h s in record { Chosen = a.Chosen; holds = a.holds; again = a.again; fits = a.fits; put = a.put }
spelled (choice false m n) k x bits h s =
    let a = spelled n k x bits h s in record { Chosen = a.Chosen; holds = a.holds; again = a.again; fits = a.fits; put = a.put }
spelled (kind make get m) k x bits h s =
    let a = spelled m (λ y Q. k (make y) (λ c. (d : _) × (get c ≡ Some d) × Q d)) s.0 bits h s.2 in
    record {
      Chosen = λ c. (d : _) × (get c ≡ Some d) × a.Chosen d;
      holds = subst (λ (z : _). k z (λ c. (d : _) × (get c ≡ Some d) × a.Chosen d)) (sym s.1) a.holds;
      again = λ c w. ap (λ (o : Option _). option_and_then (λ d. option_map make (value m d)) o) w.1 ∙ ap (λ (o : Option _). option_map make o) (a.again w.0 w.2) ∙ ap Some (sym s.1);
      fits = λ c w. (w.0, w.1, a.fits w.0 w.2);
      put = λ c front w. a.put w.0 front w.2 ∙ sym (ap (λ (o : Option _). option_map_or (λ d. appended m d front) o front) w.1);
    }
spelled (part given m get) k x bits h s = record {
  Chosen = λ c. get c ≡ x;
  holds = h.1 x (part_bits m get given x [] bits h.0 s).there;
  again = λ c w. ap Some w;
  fits = λ c w.
      let own = part_bits m get given x [] bits h.0 s in
      subst (λ (o : Option _). (is_some o ≡ given) × IfSome o (λ d. Fits m d × (value m d ≡ Some d))) (sym w) (own.there, own.fits);
  put = λ c front w. (part_bits m get given x front bits h.0 s).put ∙ ap (λ (o : Option _). option_map_or (λ d. appended m d front) o front) (sym w);
}
spelled (inner m get) k x bits h s = record {
  Chosen = λ c. get c ≡ x;
  holds = h.1 x;
  again = λ c w. ap Some w;
  fits = λ c w. subst (λ (z : _). Fits m z × (value m z ≡ Some z)) (sym w) (h.0.fits x bits s);
  put = λ c front w. h.0.is x front bits s ∙ ap (λ (z : _). appended m z front) (sym w);
}
spelled (measured f before m) k x bits h s =
    let a = spelled m (λ p Q. k p.1 Q) (s.0, x) bits h s.1 in
    record {
      Chosen = a.Chosen;
      holds = a.holds;
      again = λ c w. ap (λ (o : Option _). option_map (λ p. p.1) o) (a.again c w);
      fits = λ c w.
          let reported : s.0 ≡ before + size m c = omega (arith, s.2, ap length (a.put c [] w), length-appended m c []) in
          (a.fits c w, subst (λ (o : Option _). IfSome o (λ p. p.0 ≡ before + size m c)) (sym (a.again c w)) reported);
      put = a.put;
    }
spelled (more {D = D} n m before get) k x bits h s =
    let own = each_bits m n s.0 [] bits h.0 s.2 in
    let cut : (c : _) → get c ≡ before ++ s.0 → drop (length before) (get c) ≡ s.0 = λ c w. ap (drop (length before)) w ∙ drop_at before s.0 (length before) refl in
    record {
      Chosen = λ c. get c ≡ before ++ s.0;
      holds = subst (λ (z : List _). k z (λ c. get c ≡ before ++ s.0)) (sym s.1) (h.1 s.0 own.long own.fits);
      again = λ c w. ap Some (w ∙ sym s.1);
      fits = λ c w. (
        ap (take (length before)) w ∙ take_at before s.0 (length before) refl,
        ap length (cut c w) ∙ own.long,
        subst (λ (t : List D). Each (λ d. Fits m d × (value m d ≡ Some d)) t) (sym (cut c w)) own.fits,
      );
      put = λ c front w. (each_bits m n s.0 front bits h.0 s.2).put ∙ ap (λ (t : List _). each_taken (λ x left. appended m x left) t front) (sym (cut c w));
    }
spelled (reported_as g m) k x bits h s =
    let a = spelled m k x bits h s in record { Chosen = a.Chosen; holds = a.holds; again = a.again; fits = a.fits; put = a.put }
spelled (then_ m f) k y bits h s =
    let one = spelled m (λ x P. Found (f x) (λ z Q. k z (λ c. P c × Q c))) s.0 s.1 h s.4 in
    let two = spelled (f s.0) (λ z Q. k z (λ c. one.Chosen c × Q c)) y s.2 one.holds s.5 in
    record {
      Chosen = λ c. one.Chosen c × two.Chosen c;
      holds = two.holds;
      again = λ c w. ap (λ (o : Option _). option_and_then (λ x. value (f x) c) o) (one.again c w.0) ∙ two.again c w.1;
      fits = λ c w. (one.fits c w.0, subst (λ (o : Option _). IfSome o (λ z. Fits (f z) c)) (sym (one.again c w.0)) (two.fits c w.1));
      put = λ c front w.
          glue front bits s.1 s.2 (appended m c front) _ s.3 (one.put c front w.0) (two.put c (appended m c front) w.1)
          ∙ sym (ap (λ (o : Option _). option_map_or (λ x. appended (f x) c (appended m c front)) o (appended m c front)) (one.again c w.0));
    }

-- an element
pub element : {F D : Type 0} (m : Layout F D D) → Found m (λ x Q. Q x) → Appends m
element m h = record {
  is = λ x front bits s. let a = spelled m (λ x Q. Q x) x bits h s in a.put x front a.holds;
  fits = λ x bits s. let a = spelled m (λ x Q. Q x) x bits h s in (a.fits x a.holds, a.again x a.holds);
}

-- the bits of a spelling are as many as the value has
pub length-spelled : {F D : Type 0} (m : Layout F D D) → Appends m → (x : D) (bits : List Bool) → Spells m x bits → length bits ≡ size m x
length-spelled m one x bits s = omega (arith, ap length (one.is x [] bits s), length-appended m x [])
