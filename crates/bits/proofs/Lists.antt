-- Lists that a loop reads, element by element.
use Rattle.std.proofs.Common.{◌≡◌, ℕ, suc, ◌+◌, ◌-◌, ◌<◌, ◌≤◌, Bool, List, [], ◌∷◌, ◌++◌, Result, Ok, Err, refl, sym, ◌∙◌, arith}
use Rattle.bits.specs.Layout.{Layout, read, read_more, folded}

-- ---- more elements of a list

pub more_step : {F D : Type 0} (r : List Bool → Result (D × List Bool) F) (before : List D) (count i : ℕ) (bits next : List Bool) (x : D) (total : Result (List D × List Bool) F)
    → i < count → r bits ≡ Ok (x, next) → read_more r (count - i) before bits ≡ total → read_more r (count - (i + 1)) (before ++ x ∷ []) next ≡ total
unfolding read_more
more_step r before count i bits next x total lt e so_far =
    let k : count - i ≡ suc (count - (i + 1)) = omega arith in
    let one : read_more r (count - i) before bits ≡ read_more r (count - (i + 1)) (before ++ x ∷ []) next = rw (k, e) refl in
    sym one ∙ so_far

pub more_ends : {F D : Type 0} (r : List Bool → Result (D × List Bool) F) (before : List D) (count i : ℕ) (bits : List Bool) (d : F) (total : Result (List D × List Bool) F)
    → i < count → r bits ≡ Err d → read_more r (count - i) before bits ≡ total → total ≡ Err d
unfolding read_more
more_ends r before count i bits d total lt e so_far =
    let k : count - i ≡ suc (count - (i + 1)) = omega arith in
    let one : read_more r (count - i) before bits ≡ Err d = rw (k, e) refl in
    sym so_far ∙ one

pub more_done : {F D : Type 0} (r : List Bool → Result (D × List Bool) F) (before : List D) (count i : ℕ) (bits : List Bool) (total : Result (List D × List Bool) F)
    → count ≤ i → read_more r (count - i) before bits ≡ total → total ≡ Ok (before, bits)
unfolding read_more
more_done r before count i bits total le so_far =
    let k : count - i ≡ 0 = omega arith in
    let one : read_more r (count - i) before bits ≡ Ok (before, bits) = rw k refl in
    sym so_far ∙ one

-- ---- each from what the one before it came to

pub folded_step : {F C S : Type 0} (m : S → Layout F C S) (s next_s : S) (count i : ℕ) (bits next : List Bool) (total : Result (S × List Bool) F)
    → i < count → read (m s) bits ≡ Ok (next_s, next) → read (folded m (count - i) s) bits ≡ total → read (folded m (count - (i + 1)) next_s) next ≡ total
unfolding folded
folded_step m s next_s count i bits next total lt e so_far =
    let k : count - i ≡ suc (count - (i + 1)) = omega arith in
    let one : read (folded m (count - i) s) bits ≡ read (folded m (count - (i + 1)) next_s) next = rw (k, e) refl in
    sym one ∙ so_far

pub folded_ends : {F C S : Type 0} (m : S → Layout F C S) (s : S) (count i : ℕ) (bits : List Bool) (d : F) (total : Result (S × List Bool) F)
    → i < count → read (m s) bits ≡ Err d → read (folded m (count - i) s) bits ≡ total → total ≡ Err d
unfolding folded
folded_ends m s count i bits d total lt e so_far =
    let k : count - i ≡ suc (count - (i + 1)) = omega arith in
    let one : read (folded m (count - i) s) bits ≡ Err d = rw (k, e) refl in
    sym so_far ∙ one

pub folded_done : {F C S : Type 0} (m : S → Layout F C S) (s : S) (count i : ℕ) (bits : List Bool) (total : Result (S × List Bool) F)
    → count ≤ i → read (folded m (count - i) s) bits ≡ total → total ≡ Ok (s, bits)
unfolding folded
folded_done m s count i bits total le so_far =
    let k : count - i ≡ 0 = omega arith in
    let one : read (folded m (count - i) s) bits ≡ Ok (s, bits) = rw k refl in
    sym so_far ∙ one
