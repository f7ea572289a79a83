use Rattle.std.proofs.Common.{◌≡◌, false, sym, ap, ◌∙◌, arith, lit<}
use Rattle.telegram.specs.declared.header.Header.{Header}
use Rattle.balise_groups.specs.Closing.{is_read}
use Rattle.balise_groups.proofs.Places.{has_space, fit_more}
use Rattle.balise_groups.proofs.readings.Readings.add.Goals as goal

pub push-requires : goal.push-requires
push-requires c =
    let place : c.number-place.result ≡ c.args.reading.telegram.header.position = c.number-place.ensures.value ∙ ap (λ (h : Header). h.position) c.header.ensures in
    let unread : is_read c.self.inside.items.items c.args.reading.telegram.header.position ≡ false =
    sym (λ i. is_read (c.as_slice.ensures.value i) (place i)) ∙ sym c.was_read.ensures ∙ c.if-not-was_read.true in
    (lit< tt, has_space c.self.inside.items.items c.args.reading c.self.invariant (omega (arith, place, c.number-place.ensures.bound)) unread)

pub invariant_of-self : goal.invariant_of-self
invariant_of-self c =
    let place : c.number-place.result ≡ c.args.reading.telegram.header.position = c.number-place.ensures.value ∙ ap (λ (h : Header). h.position) c.header.ensures in
    let unread : is_read c.self.inside.items.items c.args.reading.telegram.header.position ≡ false =
    sym (λ i. is_read (c.as_slice.ensures.value i) (place i)) ∙ sym c.was_read.ensures ∙ c.if-not-was_read.true in
    rw c.push.ensures.items (fit_more c.self.inside.items.items c.args.reading c.self.invariant (omega (arith, place, c.number-place.ensures.bound)) unread)
