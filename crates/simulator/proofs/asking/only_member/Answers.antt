use Rattle.std.proofs.Common.{◌≡◌, ◌==◌, List, [], ◌∷◌, length, slice_get, false, Some, String, string_bytes, sym, ap, ◌∙◌, arith}
use Rattle.std.specs.declared.alloc.Global.{Global}
use Rattle.std.proofs.lemmas.Option.{none-some, same_Some}
use Rattle.serde_json.specs.Data.{Data, null, boolean, number, string, array, object, Members, no_members, member}
use Rattle.serde_json.specs.Find.{as_object}
use Rattle.serde_json.specs.View.{view, members_view}
use Rattle.serde_json.specs.declared.value.Value.{Value}
use Rattle.serde_json.proofs.Views.{members_len-members_view}
use Rattle.simulator.specs.Shapes.{has_count, object_of_one}
use Rattle.simulator.proofs.asking.only_member.Goals as goal

-- the object that has these members
as_object_of : (d : Data) (ms : Members) → as_object d ≡ Some ms → d ≡ object ms
as_object_of null ms e = absurd (none-some ms e)
as_object_of (boolean b) ms e = absurd (none-some ms e)
as_object_of (number n) ms e = absurd (none-some ms e)
as_object_of (string s) ms e = absurd (none-some ms e)
as_object_of (array ds) ms e = absurd (none-some ms e)
as_object_of (object found) ms e = ap object (same_Some _ _ e)

-- the entries of a map of one
only_entry_of : (es : List (String Global × Value)) (k : String Global) (v : Value) → length es ≡ 1 → slice_get es 0 ≡ Some (k, v)
    → members_view es ≡ member (string_bytes k) (view v) no_members
only_entry_of [] k v one first = absurd (none-some _ first)
only_entry_of (e ∷ []) k v one first = ap (λ p. members_view (p ∷ [])) (same_Some _ _ first)
only_entry_of (e ∷ f ∷ es) k v one first = absurd (omega (arith, one))

pub returns-then-len-ne1 : goal.returns-then-len-ne1
returns-then-len-ne1 c =
    let other : (c.len.result == 1) ≡ false = grind arith in
    ap (has_count 1) (sym c.in_ok-map.ensures) ∙ ap (λ n. n == 1) (members_len-members_view _ ∙ sym c.len.ensures.len) ∙ other

pub returns : goal.returns
returns c =
    let one : c.len.result ≡ 1 = grind arith in
    let k = c.in_ok-name.name.now in
    let v = c.in_ok-name.value.now in
    let single = only_entry_of c.in_ok-map.map.now.entries k v (sym c.len.ensures.len ∙ one) c.in_ok-name.ensures.first in
    as_object_of _ _ (sym c.in_ok-map.ensures ∙ ap Some single) ∙ ap (λ n. object_of_one n (view v)) (sym c.as_str.ensures.value)
