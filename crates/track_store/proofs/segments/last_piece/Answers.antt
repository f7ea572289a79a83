use Rattle.std.proofs.Common.{◌≡◌, ◌+◌, ◌-◌, ◌≤◌, ◌≤ℤ◌, List, length, get_or, take, ap, sym, subst, ◌∙◌, arith}
use Rattle.std.specs.Prelude.{IsSome}
use Rattle.std.proofs.lemmas.Int.{ints}
use Rattle.std.proofs.lemmas.List.{get_or-take}
use Rattle.track_store.specs.declared.segments.Segment.{Segment}
use Rattle.track_store.specs.Segments.{IsStartedBelow}
use Rattle.track_store.proofs.Searching.{last_below, none_before}
use Rattle.track_store.proofs.segments.last_piece.Goals as goal
use Rattle.track_store.proofs.segments.last_piece.Goals.{in_default-via-in-Some+then-get-lt1, in_default-via-in_default}

pub returns-in-Some-len1-up-clause-value : goal.returns-in-Some-len1-up-clause-value
returns-in-Some-len1-up-clause-value g c place started there from to =
    let segments = c.args.segments.now in
    let front = c.in-Some-len1-up.field-0.now in
    let last : Segment _ = c.last-item.result in
    let i = length front - 1 in
    let some : 1 ≤ length front = c.in-Some-len1-up.len_at_least in
    let all : length front + 0 ≡ c.args.count = c.in-Some-len1-up.ensures.lookup.0.3 in
    let in_front : last ≡ get_or front i last = c.last-item.is in
    let so_many : c.args.count - 0 ≡ c.args.count = omega arith in
    let taken : front ≡ take c.args.count segments = c.in-Some-len1-up.ensures.lookup.0.2 ∙ ap (λ n. take n segments) so_many in
    let found : last ≡ get_or segments i last =
    in_front ∙ ap (λ (xs : List (Segment _)). get_or xs i last) taken
    ∙ get_or-take c.args.count segments i last (omega (arith, some, all)) in
    let start : last.start ≡ (get_or segments i last).start = ap (λ (x : Segment _). x.start) found in
    let here : last.start ≤ℤ there = grind (arith, ints) in
    last_below place there segments i last c.requires (omega (arith, some, all, started.0))
    (subst (IsStartedBelow place segments) (omega (arith, some, all)) started) (omega (arith, ints, start, here)) to
    ∙ sym (ap (λ (x : Segment _). x.value) found)

pub returns-in_default-clause-value : goal.returns-in_default-clause-value
returns-in_default-clause-value g c place started there from to =
    let none : c.args.count ≡ 0 = elim c.in_default.branch [
      | in_default-via-in-Some+then-get-lt1 w ↦ grind arith
      | in_default-via-in_default w ↦ (let some : IsSome c.get.result = c.get.ensures.lookup.1 (omega arith, started.0) in let never = rw w.in_default.is at some in cc)
    ] in
    none_before place there c.args.segments.now (subst (IsStartedBelow place c.args.segments.now) none started) to

pub returns-in_default-clause-before : goal.returns-in_default-clause-before
returns-in_default-clause-before g c place started below = below
