use Rattle.std.proofs.Common.{◌≡◌, [], List, ◌||◌, ap, sym, ◌∙◌}
use Rattle.std.specs.Prelude.{filter}
use Rattle.std.specs.List.{list_any}
use Rattle.linking.specs.declared.announcement.Announcement.{Announcement}
use Rattle.linking.specs.Linking.{KnownLinks, known, misses, after_misses, is_passed_by}
use Rattle.linking.proofs.Leaving.{IsRising-filter, some_misses}
use Rattle.linking.proofs.Missing.{none_of, none_missed}
use Rattle.linking.proofs.links.Links.missed.Goals as goal

pub invariant_of-self : goal.invariant_of-self
invariant_of-self c = rw c.forget_passed.ensures (IsRising-filter _ _ c.self.invariant)

pub returns-clause-stands : goal.returns-clause-stands
returns-clause-stands c entries is =
    let view = c.self.view_is in
    some_misses (is_passed_by c.args.min_front) _ _ _ _ entries c.self.invariant (view ∙ is) c.forget_passed.ensures
    (c.has_missed_passed-self-inside.ensures ∙ (λ i. (sym view i).has_missed || list_any (is_passed_by c.args.min_front) (sym view i).left))
    ∙ (λ i. known (after_misses (filter (is_passed_by c.args.min_front) (view i).left) entries))

none : (c : goal.Then-not-is_any_passed) → filter (is_passed_by c.args.min_front) c.args.self.now.left ≡ []
none c =
    none_of (is_passed_by c.args.min_front) c.args.self.now.left
    (sym (ap (λ (k : KnownLinks). list_any (is_passed_by c.args.min_front) k.left) c.self.view_is)
    ∙ sym (ap (list_any (is_passed_by c.args.min_front)) c.as_slice.ensures.value)
    ∙ sym c.is_any_passed.ensures
    ∙ c.if-not-is_any_passed.true)

pub returns-then-not-is_any_passed-clause-answer : goal.returns-then-not-is_any_passed-clause-answer
returns-then-not-is_any_passed-clause-answer c =
    none_missed c.args.self.now.has_missed ∙ ap (misses c.args.self.now.has_missed) (sym (none c))

pub returns-then-not-is_any_passed-clause-stands : goal.returns-then-not-is_any_passed-clause-stands
returns-then-not-is_any_passed-clause-stands c entries is =
    is ∙ ap (λ (missed : List Announcement). known (after_misses missed entries)) (sym (none c))
