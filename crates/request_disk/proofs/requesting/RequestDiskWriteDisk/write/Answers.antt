use Rattle.std.proofs.Common.{rules, ◌≡◌, ℕ, ◌/◌, length, subst}
use Rattle.disk.specs.declared.record.Call.TheVariants.{Written}
use Rattle.request_disk.specs.Requesting.{IsNoted}
use Rattle.request_disk.proofs.Noted.{write_touches, write_holds}
use Rattle.request_disk.proofs.requesting.RequestDiskWriteDisk.write.Goals as goal

pub returns-clause-moments : goal.returns-clause-moments
returns-clause-moments c =
    let old = c.args.self.now in
    let at : c.len.result ≡ length old.written = search rules in
    let N : ℕ → Type 0 = λ n. IsNoted (Written (record { first = c.args.first; sectors = length c.args.bytes.now / 512; from = n })) c.args.bytes.now old c.note.new.self in
    write_touches old c.note.new.self c.has_space.ensures.kept c.args.first c.args.bytes.now c.requires (subst N at c.note.ensures)

pub returns-clause-written : goal.returns-clause-written
returns-clause-written c =
    let old = c.args.self.now in
    let at : c.len.result ≡ length old.written = search rules in
    let N : ℕ → Type 0 = λ n. IsNoted (Written (record { first = c.args.first; sectors = length c.args.bytes.now / 512; from = n })) c.args.bytes.now old c.note.new.self in
    write_holds old c.note.new.self c.has_space.ensures.kept c.args.first c.args.bytes.now c.requires (subst N at c.note.ensures)
