-- All readings of a group have one name.
use Rattle.std.proofs.Common.{◌≡◌, ℕ, List, [], ◌∷◌, Bool, true, false, cond, refl, ap, sym, ◌∙◌, subst, arith}
use Rattle.std.specs.Prelude.{◌&&◌, ◌==◌}
use Rattle.std.proofs.lemmas.Bool.Decides.{nat_tests}
use Rattle.vars.specs.declared.group.GroupIdentity.{GroupIdentity}
use Rattle.balise_groups.specs.declared.reading.Reading.{Reading}
use Rattle.balise_groups.specs.Closing.{is_whole}
use Rattle.balise_groups.specs.Groups.{GroupEntry, Groups, counting, newest, seen_at, is_close, is_passed, goes_on, same_group, groups_of, ended, joined_by, last_after}
use Rattle.balise_groups.specs.Groups.GroupEntry.{Read, Went}
use Rattle.balise_groups.specs.Laws.{HaveName, HaveOneName}

first_of_two : (a b : Bool) → (a && b) ≡ true → a ≡ true
first_of_two true b k = refl
first_of_two false b k = cc

same_parts : (a b c d : ℕ) → ((a == b) && (c == d)) ≡ true → (a ≡ b) × (c ≡ d)
same_parts a b c d h = grind (arith, nat_tests, h)

same_then : (a b : GroupIdentity) → same_group a b ≡ true → a ≡ b
same_then a b h =
    let w = same_parts a.country b.country a.number b.number h in
    let made : ℕ → ℕ → GroupIdentity = λ c n. record { country = c; number = n } in
    ap (λ c. made c a.number) w.0 ∙ ap (λ n. made b.country n) w.1

joins : (r : Reading) (rs : List Reading) → goes_on r (newest rs) ≡ true → HaveOneName rs → HaveOneName (r ∷ rs)
joins r [] h one = cc
joins r (q ∷ rs) h one =
    let name = r.telegram.header.group in
    let same = same_then name q.telegram.header.group (first_of_two (same_group name q.telegram.header.group) (is_close r.sums.path (seen_at q)) h) in
    let P : GroupIdentity → Type 0 = λ n. HaveName n rs in
    (sym same, subst P (sym same) one)

last_one : (current last : List Reading) → HaveOneName current → HaveOneName last → HaveOneName (last_after current last)
last_one [] last c l = l
last_one (r ∷ rs) last c l = c

if_ended : (b : Bool) (gs : Groups) → HaveOneName gs.current → HaveOneName gs.last →
    HaveOneName (cond b (ended gs) gs).current × HaveOneName (cond b (ended gs) gs).last
if_ended true gs c l = (tt, last_one gs.current gs.last c l)
if_ended false gs c l = (c, l)

pub one_name : (es : List GroupEntry) → HaveOneName (groups_of es).current × HaveOneName (groups_of es).last
one_name [] = (tt, tt)
one_name (Went path ∷ es) =
    let before = one_name es in
    if_ended (is_passed path (newest (groups_of es).current)) (groups_of es) before.0 before.1
one_name (Read r ∷ es) =
    let gs = groups_of es in
    let before = one_name es in
    let HaveNames : Groups → Type 0 = λ gs. HaveOneName gs.current × HaveOneName gs.last in
    let cases : (a b : Bool) → goes_on r (newest gs.last) ≡ a → goes_on r (newest gs.current) ≡ b →
    HaveNames (cond a (record { current = gs.current; last = r ∷ gs.last }) (cond b (joined_by r gs) (joined_by r (ended gs)))) =
    elim [
      | true ↦ λ b e f. (before.0, joins r gs.last e before.1)
      | false ↦ elim [
        | true ↦ λ e f. if_ended (is_whole (counting (r ∷ gs.current))) (record { current = r ∷ gs.current; last = gs.last }) (joins r gs.current f before.0) before.1
        | false ↦ λ e f. if_ended (is_whole (counting (r ∷ []))) (record { current = r ∷ []; last = (ended gs).last }) tt (last_one gs.current gs.last before.0 before.1)
      ]
    ] in
    cases (goes_on r (newest gs.last)) (goes_on r (newest gs.current)) refl refl
