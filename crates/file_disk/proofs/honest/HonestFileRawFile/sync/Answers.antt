use Rattle.std.proofs.Common.{◌≡◌, ◌<◌, List, length, sym, subst, rules}
use Rattle.disk.specs.State.{Touches, IsSynced}
use Rattle.file_disk.specs.Files.{bytes_of, whole_disk}
use Rattle.file_disk.specs.declared.moment.Moment.{Moment}
use Rattle.file_disk.specs.Honest.{state_of}
use Rattle.file_disk.proofs.Going.{sync_bytes, sync_settles, sync_only}
use Rattle.file_disk.proofs.honest.HonestFileRawFile.sync.Goals as goal

pub returns-clause-moments : goal.returns-clause-moments
returns-clause-moments c = λ honest.
    let ms = c.args.self.now.moments.items in
    let some : 0 < length ms = search rules in
    let T : List Moment → Type 0 = λ l. Touches 0 0 (whole_disk (state_of ms)) (whole_disk (state_of l)) in
    subst T (sym c.in_ok-go_on.ensures.ok) (sync_only ms c.now.result.now c.in-Ok.next some c.now.ensures c.in-Ok.ensures.bytes c.in-Ok.ensures.parts)

pub returns-clause-bytes : goal.returns-clause-bytes
returns-clause-bytes c = λ honest.
    let ms = c.args.self.now.moments.items in
    let some : 0 < length ms = search rules in
    let T : List Moment → Type 0 = λ l. bytes_of (state_of l) ≡ bytes_of (state_of ms) in
    subst T (sym c.in_ok-go_on.ensures.ok) (sync_bytes ms c.now.result.now c.in-Ok.next some c.now.ensures c.in-Ok.ensures.bytes c.in-Ok.ensures.parts)

pub returns-clause-synced : goal.returns-clause-synced
returns-clause-synced c = λ honest.
    let ms = c.args.self.now.moments.items in
    let some : 0 < length ms = search rules in
    let T : List Moment → Type 0 = λ l. IsSynced (whole_disk (state_of l)) in
    subst T (sym c.in_ok-go_on.ensures.ok) (sync_settles ms c.now.result.now c.in-Ok.next some c.now.ensures c.in-Ok.ensures.bytes c.in-Ok.ensures.parts)
