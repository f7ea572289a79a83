use Rattle.std.proofs.Common.{◌≡◌, ◌+◌, ◌-◌, ◌*◌, ◌<◌, length, Ok, Some, None, ap, sym, ◌∙◌, arith}
use Rattle.bits.specs.Layout.{read}
use Rattle.packets.specs.Packets.{length_of}
use Rattle.telegram.specs.Telegrams.{next_packet}
use Rattle.telegram.specs.Walks.{Walk, located_from}
use Rattle.telegram.proofs.Walking.{packets_in-first, packets_in-end, packets_in-fault, taken}
use Rattle.telegram.proofs.walk.Packets.next_into.Goals as goal

pub invariant_of-self : goal.invariant_of-self
invariant_of-self c =
    let some : 0 < c.self.inside.left = omega arith in
    absurd (packets_in-fault _ _ _ some c.in_default.ensures c.self.invariant.2)

pub returns-in_default-clause-none : goal.returns-in_default-clause-none
returns-in_default-clause-none c =
    let some : 0 < c.self.inside.left = omega arith in
    absurd (packets_in-fault _ _ _ some c.in_default.ensures c.self.invariant.2)

pub invariant_of-self-then-not-more : goal.invariant_of-self-then-not-more
invariant_of-self-then-not-more c =
    let some : 0 < c.self.inside.left = omega arith in
    let here : read next_packet c.self.inside.reader ≡ Ok (None, c.read_next.new.reader) = rw c.if-not-more.true at c.in-Ok.ensures in
    absurd (packets_in-end _ _ _ some here c.self.invariant.2)

pub returns-then-not-more-clause-none : goal.returns-then-not-more-clause-none
returns-then-not-more-clause-none c =
    let some : 0 < c.self.inside.left = omega arith in
    let here : read next_packet c.self.inside.reader ≡ Ok (None, c.read_next.new.reader) = rw c.if-not-more.true at c.in-Ok.ensures in
    absurd (packets_in-end _ _ _ some here c.self.invariant.2)

pub overflow_cast-end-2 : goal.overflow_cast-end-2
overflow_cast-end-2 c =
    let here : read next_packet c.self.inside.reader ≡ Ok (Some c.read_next.new.out, c.read_next.new.reader) = rw c.if-not-more.false at c.in-Ok.ensures in
    omega (arith, taken _ _ _ here, c.remaining.ensures.value, c.self.invariant.0, c.self.invariant.1)

pub overflow_sub-end : goal.overflow_sub-end
overflow_sub-end c =
    let here : read next_packet c.self.inside.reader ≡ Ok (Some c.read_next.new.out, c.read_next.new.reader) = rw c.if-not-more.false at c.in-Ok.ensures in
    omega (arith, taken _ _ _ here, c.remaining.ensures.value, c.self.invariant.1)

pub bytes_between-item-inside-requires : goal.bytes_between-item-inside-requires
bytes_between-item-inside-requires c =
    let here : read next_packet c.self.inside.reader ≡ Ok (Some c.read_next.new.out, c.read_next.new.reader) = rw c.if-not-more.false at c.in-Ok.ensures in
    let end : 8 * length c.self.inside.bytes.now - c.remaining.result ≡ c.self.inside.start + length_of c.read_next.new.out = omega (arith, taken _ _ _ here, c.remaining.ensures.value, c.self.invariant.1) in
    record { order = omega (arith, end); within = omega arith }

pub invariant_of-self-2 : goal.invariant_of-self-2
invariant_of-self-2 c =
    let some : 0 < c.self.inside.left = omega arith in
    let here : read next_packet c.self.inside.reader ≡ Ok (Some c.read_next.new.out, c.read_next.new.reader) = rw c.if-not-more.false at c.in-Ok.ensures in
    let first = ap length (packets_in-first _ _ _ _ some here) in
    (c.self.invariant.0, omega (arith, taken _ _ _ here, c.remaining.ensures.value, c.self.invariant.1), omega (arith, first, c.self.invariant.2))

pub returns-clause-some : goal.returns-clause-some
returns-clause-some c =
    let some : 0 < c.self.inside.left = omega arith in
    let here : read next_packet c.self.inside.reader ≡ Ok (Some c.read_next.new.out, c.read_next.new.reader) = rw c.if-not-more.false at c.in-Ok.ensures in
    let end : 8 * length c.self.inside.bytes.now - c.remaining.result ≡ c.self.inside.start + length_of c.read_next.new.out = omega (arith, taken _ _ _ here, c.remaining.ensures.value, c.self.invariant.1) in
    let field_list = ap (λ (w : Walk). w.items) (sym c.self.view_is) ∙ ap (located_from c.self.inside.bytes.now c.self.inside.start) (packets_in-first _ _ _ _ some here) in
    rw (c.bytes_between-item-inside.ensures, end) field_list
