use Rattle.std.proofs.Common.{List, [], ◌∷◌, ◌++◌, length, Result, Ok, Err, IsOk, OnOk, ap, ◌∙◌, arith, lit<}
use Rattle.packets.specs.declared.packet.Packet.{Packet}
use Rattle.telegram.specs.Gathering.{packets_of_each}
use Rattle.telegram.proofs.Gathering.{each_count, gathered_space, gathered_more, each_more}
use Rattle.telegram.proofs.gathered.Gathered.push.Goals as goal

-- what holds where it is Ok
where_ok : {A E P : Type 0} (r : Result A E) → IsOk r → OnOk r P → P
where_ok (Ok x) ok p = p
where_ok (Err e) ok p = absurd cc

pub unwrap-requires : goal.unwrap-requires
unwrap-requires c =
    let extents = c.self.inside.extents.items in
    let bytes = c.self.inside.bytes.items in
    c.try_extend_from_slice.ensures.variant.1
    (omega (arith, gathered_space extents bytes c.self.invariant, each_count extents bytes, ap length c.self.view_is, c.requires, c.bytes-bytes.ensures.held.small))

pub push-requires : goal.push-requires
push-requires c =
    let extents = c.self.inside.extents.items in
    (lit< tt, omega (arith, each_count extents c.self.inside.bytes.items, ap length c.self.view_is, c.requires))

pub invariant_of-self : goal.invariant_of-self
invariant_of-self c =
    let extents = c.self.inside.extents.items in
    let bytes = c.self.inside.bytes.items in
    let fits : IsOk c.try_extend_from_slice.result = c.try_extend_from_slice.ensures.variant.1
    (omega (arith, gathered_space extents bytes c.self.invariant, each_count extents bytes, ap length c.self.view_is, c.requires, c.bytes-bytes.ensures.held.small)) in
    let longer = where_ok _ fits c.try_extend_from_slice.ensures.ok in
    rw (longer, c.push.ensures.items, c.count.ensures.value)
    (gathered_more extents bytes c.bytes-bytes.result.now (length c.args.telegram.now.packets.items) c.self.invariant c.bytes-bytes.ensures.held)

pub returns : goal.returns
returns c =
    let extents = c.self.inside.extents.items in
    let bytes = c.self.inside.bytes.items in
    let fits : IsOk c.try_extend_from_slice.result = c.try_extend_from_slice.ensures.variant.1
    (omega (arith, gathered_space extents bytes c.self.invariant, each_count extents bytes, ap length c.self.view_is, c.requires, c.bytes-bytes.ensures.held.small)) in
    let longer = where_ok _ fits c.try_extend_from_slice.ensures.ok in
    rw (longer, c.push.ensures.items, c.count.ensures.value)
    (each_more extents bytes c.bytes-bytes.result.now (length c.args.telegram.now.packets.items) c.self.invariant
    ∙ ap (λ (ps : List Packet). packets_of_each extents bytes ++ ps ∷ []) c.bytes-bytes.ensures.packets
    ∙ ap (λ (pss : List (List Packet)). pss ++ c.args.telegram.now.packets.items ∷ []) c.self.view_is)
