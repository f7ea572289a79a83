use Rattle.std.proofs.Common.{◌≡◌, ◌+◌, ◌≤◌, ◌++◌, List, Bool, length, refl, sym, ap, subst, ◌∙◌, arith, length-append}
use Rattle.std.proofs.lemmas.Bool.{false≢true}
use Rattle.std.proofs.lemmas.Result.{err_from_is_err_and}
use Rattle.packets.specs.declared.packet.Packet.{Packet}
use Rattle.telegram.specs.Telegrams.{SpellsPackets}
use Rattle.telegram.proofs.Written.{header_first, encoded, carried}
use Rattle.telegram.proofs.encoding.encode.Goals as goal

same_space : (written bits front rest : List Bool) → written ≡ front → bits ≡ front ++ rest → (length written + length rest ≤ 832 → length bits ≤ 832) × (length bits ≤ 832 → length written + length rest ≤ 832)
same_space written bits front rest first parts =
    let same : length bits ≡ length written + length rest = omega (arith, ap length first, ap length parts, length-append front rest) in
    (λ fits. omega arith, λ fits. omega arith)

pub write_packets-requires : goal.write_packets-requires
write_packets-requires c = (c.requires.1.1, subst (λ (ps : List Packet). SpellsPackets ps c.requires.1.1) (sym c.as_slice.ensures.value) c.requires.1.4)

pub returns-in_err-write_packets-clause-space : goal.returns-in_err-write_packets-clause-space
returns-in_err-write_packets-clause-space c = λ bits s.
    let p = err_from_is_err_and c.from_residual.result c.from_residual.ensures.1 in
    let first = header_first c.args.telegram.now bits c.new-writer.result c.write_header.new.writer c.new-writer.ensures c.write_header.ensures s in
    let others : SpellsPackets c.as_slice.result.now s.1 = subst (λ (ps : List Packet). SpellsPackets ps s.1) (sym c.as_slice.ensures.value) s.4 in
    rw p.1 (
      λ no. absurd (false≢true no),
      λ fits. (c.in_err-write_packets.ensures.space s.1 others).1 ((same_space _ bits s.0 s.1 first s.2).1 fits),
    )

pub returns-clause-space : goal.returns-clause-space
returns-clause-space c = λ bits s.
    let first = header_first c.args.telegram.now bits c.new-writer.result c.write_header.new.writer c.new-writer.ensures c.write_header.ensures s in
    let others : SpellsPackets c.as_slice.result.now s.1 = subst (λ (ps : List Packet). SpellsPackets ps s.1) (sym c.as_slice.ensures.value) s.4 in
    let space : length c.write_header.new.writer + length s.1 ≤ 832 = (c.in_ok-write_packets.ensures.space s.1 others).0 refl in
    (λ _. (same_space _ bits s.0 s.1 first s.2).0 space, λ _. refl)

pub returns-clause-ok : goal.returns-clause-ok
returns-clause-ok c =
    let s = c.requires.1 in
    let first = header_first c.args.telegram.now c.requires.0 c.new-writer.result c.write_header.new.writer c.new-writer.ensures c.write_header.ensures s in
    let others : SpellsPackets c.as_slice.result.now s.1 = subst (λ (ps : List Packet). SpellsPackets ps s.1) (sym c.as_slice.ensures.value) s.4 in
    let whole : c.write_packets.new.writer ≡ c.requires.0 = c.in_ok-write_packets.ensures.ok s.1 others ∙ ap (λ (t : List Bool). t ++ s.1) first ∙ sym s.2 in
    encoded c.args.telegram.now c.requires.0 c.write_packets.new.writer _ _ _ whole s c.copy_to.ensures.len c.copy_to.ensures.bits c.copy_to.ensures.rest

pub returns-clause-again : goal.returns-clause-again
returns-clause-again c =
    let s = c.requires.1 in
    let first = header_first c.args.telegram.now c.requires.0 c.new-writer.result c.write_header.new.writer c.new-writer.ensures c.write_header.ensures s in
    let others : SpellsPackets c.as_slice.result.now s.1 = subst (λ (ps : List Packet). SpellsPackets ps s.1) (sym c.as_slice.ensures.value) s.4 in
    let whole : c.write_packets.new.writer ≡ c.requires.0 = c.in_ok-write_packets.ensures.ok s.1 others ∙ ap (λ (t : List Bool). t ++ s.1) first ∙ sym s.2 in
    carried c.args.telegram.now c.args.out.now c.copy_to.new.out c.copy_to.result c.copy_to.array_long (
    encoded c.args.telegram.now c.requires.0 c.write_packets.new.writer _ _ _ whole s c.copy_to.ensures.len c.copy_to.ensures.bits c.copy_to.ensures.rest)
