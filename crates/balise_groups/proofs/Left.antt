-- The group being read is never left where all movements are reported.
use Rattle.std.proofs.Common.{◌≡◌, ℕ, ◌+◌, List, [], ◌∷◌, Bool, true, false, cond, refl, arith}
use Rattle.std.specs.Prelude.{nat_le, not}
use Rattle.std.proofs.lemmas.Bool.Decides.{nat_tests}
use Rattle.balise_groups.specs.declared.reading.Reading.{Reading}
use Rattle.balise_groups.specs.Closing.{is_whole}
use Rattle.balise_groups.specs.Groups.{GroupEntry, counting, newest, is_passed, goes_on, groups_of, ended, joined_by}
use Rattle.balise_groups.specs.Groups.GroupEntry.{Read, Went}
use Rattle.balise_groups.specs.Laws.{path_of, DescribePaths}

here : (path : ℕ) (r : Reading) → r.sums.path ≡ path → not (nat_le path (r.sums.path + 1300)) ≡ false
here path r e = grind (arith, nat_tests)

if_whole : (path : ℕ) (r : Reading) (rs last : List Reading) (b : Bool) → r.sums.path ≡ path →
    is_passed path (newest (cond b (ended (record { current = r ∷ rs; last = last })) (record { current = r ∷ rs; last = last })).current) ≡ false
if_whole path r rs last true e = refl
if_whole path r rs last false e = here path r e

pub never_left : (es : List GroupEntry) → DescribePaths es → is_passed (path_of es) (newest (groups_of es).current) ≡ false
never_left [] t = refl
never_left (Went path ∷ es) t =
    let gs = groups_of es in
    let cases : (b : Bool) → is_passed path (newest gs.current) ≡ b → is_passed path (newest (cond b (ended gs) gs).current) ≡ false =
    elim [ true ↦ λ h. refl | false ↦ λ h. h ] in
    cases (is_passed path (newest gs.current)) refl
never_left (Read r ∷ es) t =
    let gs = groups_of es in
    let path = path_of es in
    let whole = λ (rs last : List Reading). if_whole path r rs last (is_whole (counting (r ∷ rs))) t.0 in
    let cases : (a b : Bool) →
    is_passed path (newest (cond a (record { current = gs.current; last = r ∷ gs.last }) (cond b (joined_by r gs) (joined_by r (ended gs)))).current) ≡ false =
    elim [ true ↦ λ b. never_left es t.1 | false ↦ elim [ true ↦ whole gs.current gs.last | false ↦ whole [] (ended gs).last ] ] in
    cases (goes_on r (newest gs.last)) (goes_on r (newest gs.current))
