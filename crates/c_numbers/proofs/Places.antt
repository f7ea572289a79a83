-- Places that are written one after the other.
use Rattle.std.proofs.Common.{◌≡◌, ℕ, suc, ◌+◌, ◌<◌, ◌≤◌, List, [], ◌∷◌, ◌++◌, length, get_or, take, drop, sym, ◌∙◌, ap, arith, append_assoc, add-one, drop-cons}
use Rattle.std.proofs.lemmas.List.{take_all, take_more, length-take-le}
use Rattle.std.proofs.Math.ListN.{set}
use Rattle.std.proofs.Math.Seq.{set-append_seam}

-- the place at i is written after those before it, and the places after it stay
pub one_written : {X : Type 0} (before places : List X) (i : ℕ) (x d : X) → length before ≡ i → i < length places
    → set (before ++ drop i places) i x ≡ (before ++ x ∷ []) ++ drop (i + 1) places
one_written {X} before places i x d size less =
    ap (λ (l : List X). set (before ++ l) i x) (drop-cons places i d less)
    ∙ ap (λ (n : ℕ). set (before ++ get_or places i d ∷ drop (suc i) places) n x) (sym size)
    ∙ set-append_seam before (get_or places i d) (drop (suc i) places) x
    ∙ sym (append_assoc before (x ∷ []) (drop (suc i) places))
    ∙ ap (λ (n : ℕ). (before ++ x ∷ []) ++ drop n places) (sym (add-one i))

-- so one more of the items is in its place
pub one_placed : {X : Type 0} (items places before after : List X) (i : ℕ) (x d : X) → i < length items → length items ≤ length places
    → before ≡ take i items ++ drop i places → x ≡ get_or items i d → after ≡ set before i x → after ≡ take (i + 1) items ++ drop (i + 1) places
one_placed {X} items places before after i x d less most are is next =
    next
    ∙ ap (λ (l : List X). set l i x) are
    ∙ one_written (take i items) places i x d (length-take-le i items (omega (arith, less))) (omega (arith, less, most))
    ∙ ap (λ (a : X). (take i items ++ a ∷ []) ++ drop (i + 1) places) is
    ∙ sym (ap (λ (l : List X). l ++ drop (i + 1) places) (take_more items i d less))

-- all of them are
pub all_placed : {X : Type 0} (items places after : List X) (i : ℕ) → i ≡ length items → after ≡ take i items ++ drop i places → after ≡ items ++ drop (length items) places
all_placed {X} items places after i end are =
    are
    ∙ ap (λ (n : ℕ). take n items ++ drop n places) end
    ∙ ap (λ (l : List X). l ++ drop (length items) places) (take_all (length items) items (omega arith))
