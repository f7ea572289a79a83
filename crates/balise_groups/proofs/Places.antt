-- Readings of different places below n are at most n.
use Rattle.std.proofs.Common.{◌≡◌, ℕ, zero, suc, ◌+◌, ◌<◌, ◌≤◌, List, [], ◌∷◌, ◌++◌, length, Bool, true, false, cond, refl, ap, sym, ◌∙◌, arith, length-append}
use Rattle.std.specs.Prelude.{◌||◌}
use Rattle.std.proofs.lemmas.Bool.Decides.{nat_tests}
use Rattle.balise_groups.specs.declared.reading.Reading.{Reading}
use Rattle.balise_groups.specs.Closing.{is_at, is_read}
use Rattle.balise_groups.specs.Places.{Differ, AllBelow, HaveOwnPlaces}

pub or_left : (a b : Bool) → (a || b) ≡ false → a ≡ false
or_left true b h = cc
or_left false b h = refl

pub or_right : (a b : Bool) → (a || b) ≡ false → b ≡ false
or_right true b h = cc
or_right false b h = h

less : (r : Reading) (n : ℕ) → r.telegram.header.position < suc n → is_at n r ≡ false → r.telegram.header.position < n
less r n h e = grind (arith, nat_tests, h, e)

not_at : (r q : Reading) → is_at r.telegram.header.position q ≡ false → is_at q.telegram.header.position r ≡ false
not_at r q e = grind (arith, nat_tests, e)

-- without the first one of a place
drop_one : ℕ → List Reading → List Reading
drop_one n [] = []
drop_one n (r ∷ rs) = cond (is_at n r) rs (r ∷ drop_one n rs)

longer : (n : ℕ) (rs : List Reading) → length rs ≤ length (drop_one n rs) + 1
unfolding drop_one
longer n [] = omega arith
longer n (r ∷ rs) =
    let rest = longer n rs in
    let cases : (b : Bool) → length (r ∷ rs) ≤ length (cond b rs (r ∷ drop_one n rs)) + 1 =
    elim [ true ↦ omega arith | false ↦ omega (arith, rest) ] in
    cases (is_at n r)

still_unread : (n place : ℕ) (rs : List Reading) → is_read rs place ≡ false → is_read (drop_one n rs) place ≡ false
unfolding drop_one
still_unread n place [] h = refl
still_unread n place (r ∷ rs) h =
    let rest = or_right (is_at place r) (is_read rs place) h in
    let first = or_left (is_at place r) (is_read rs place) h in
    let cases : (b : Bool) → is_read (cond b rs (r ∷ drop_one n rs)) place ≡ false =
    elim [ true ↦ rest | false ↦ ap (λ b. b || is_read (drop_one n rs) place) first ∙ still_unread n place rs rest ] in
    cases (is_at n r)

all_less : (n : ℕ) (rs : List Reading) → AllBelow (suc n) rs → is_read rs n ≡ false → AllBelow n rs
all_less n [] b h = tt
all_less n (r ∷ rs) b h =
    (less r n b.0 (or_left (is_at n r) (is_read rs n) h), all_less n rs b.1 (or_right (is_at n r) (is_read rs n) h))

dropped_differ : (n : ℕ) (rs : List Reading) → Differ rs → Differ (drop_one n rs)
unfolding drop_one
dropped_differ n [] d = tt
dropped_differ n (r ∷ rs) d =
    let cases : (b : Bool) → Differ (cond b rs (r ∷ drop_one n rs)) =
    elim [ true ↦ d.1 | false ↦ (still_unread n r.telegram.header.position rs d.0, dropped_differ n rs d.1) ] in
    cases (is_at n r)

at_place : (place : ℕ) (r : Reading) → is_at place r ≡ true → r.telegram.header.position ≡ place
at_place place r h = grind (arith, nat_tests, h)

dropped_below : (n : ℕ) (rs : List Reading) → AllBelow (suc n) rs → Differ rs → AllBelow n (drop_one n rs)
unfolding drop_one
dropped_below n [] b d = tt
dropped_below n (r ∷ rs) b d =
    let cases : (t : Bool) → is_at n r ≡ t → AllBelow n (cond t rs (r ∷ drop_one n rs)) =
    elim [
      | true ↦ λ e. all_less n rs b.1 (sym (ap (is_read rs) (at_place n r e)) ∙ d.0)
      | false ↦ λ e. (less r n b.0 e, dropped_below n rs b.1 d.1)
    ] in
    cases (is_at n r) refl

pub at_most : (n : ℕ) (rs : List Reading) → AllBelow n rs → Differ rs → length rs ≤ n
at_most zero [] b d = omega arith
at_most zero (r ∷ rs) b d = let none = b.0 in absurd (omega (arith, none))
at_most (suc n) rs b d =
    let shorter = at_most n (drop_one n rs) (dropped_below n rs b d) (dropped_differ n rs d) in
    omega (arith, shorter, longer n rs)

-- a reading of another place leaves space
other_place : (rs : List Reading) (r q : Reading) → is_read rs q.telegram.header.position ≡ false → is_at q.telegram.header.position r ≡ false →
    is_read (rs ++ r ∷ []) q.telegram.header.position ≡ false
other_place [] r q h e = ap (λ b. b || false) e
other_place (x ∷ rs) r q h e =
    ap (λ b. b || is_read (rs ++ r ∷ []) q.telegram.header.position) (or_left (is_at q.telegram.header.position x) (is_read rs q.telegram.header.position) h)
    ∙ other_place rs r q (or_right (is_at q.telegram.header.position x) (is_read rs q.telegram.header.position) h) e

differ_more : (rs : List Reading) (r : Reading) → Differ rs → is_read rs r.telegram.header.position ≡ false → Differ (rs ++ r ∷ [])
differ_more [] r d h = (refl, tt)
differ_more (x ∷ rs) r d h =
    let first = or_left (is_at r.telegram.header.position x) (is_read rs r.telegram.header.position) h in
    let rest = or_right (is_at r.telegram.header.position x) (is_read rs r.telegram.header.position) h in
    (other_place rs r x d.0 (not_at r x first), differ_more rs r d.1 rest)

below_more : (n : ℕ) (rs : List Reading) (r : Reading) → AllBelow n rs → r.telegram.header.position < n → AllBelow n (rs ++ r ∷ [])
below_more n [] r b h = (h, tt)
below_more n (x ∷ rs) r b h = (b.0, below_more n rs r b.1 h)

pub fit_more : (rs : List Reading) (r : Reading) → HaveOwnPlaces rs → r.telegram.header.position < 8 → is_read rs r.telegram.header.position ≡ false → HaveOwnPlaces (rs ++ r ∷ [])
fit_more rs r f b h = record { differ = differ_more rs r f.differ h; below = below_more 8 rs r f.below b }

-- one more reading of another place: there were fewer than eight
pub has_space : (rs : List Reading) (r : Reading) → HaveOwnPlaces rs → r.telegram.header.position < 8 → is_read rs r.telegram.header.position ≡ false → length rs < 8
has_space rs r f b h =
    let more = fit_more rs r f b h in
    let short = at_most 8 (rs ++ r ∷ []) more.below more.differ in
    let one = length-append rs (r ∷ []) in
    omega (arith, short, one)
