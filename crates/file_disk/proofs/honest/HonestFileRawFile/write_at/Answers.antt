use Rattle.std.proofs.Common.{◌≡◌, ◌+◌, ◌/◌, ◌%◌, ◌<◌, ◌≤◌, ◌∷◌, [], ◌++◌, ℕ, List, length, take, sym, subst, arith, rules}
use Rattle.std.proofs.lemmas.Grind.{common_steps}
use Rattle.disk.specs.State.{AreOpen}
use Rattle.file_disk.specs.Files.{bytes_of, whole_disk, overwritten, WritesOnly}
use Rattle.file_disk.specs.declared.moment.Moment.{Moment}
use Rattle.file_disk.specs.Honest.{state_of}
use Rattle.file_disk.proofs.Going.{write_only, write_opens, write_holds}
use Rattle.file_disk.proofs.honest.HonestFileRawFile.write_at.Goals as goal

pub returns-clause-only : goal.returns-clause-only
returns-clause-only c = λ honest within.
    let ms = c.args.self.now.moments.items in
    let with : List ℕ = take c.min-count.result c.args.bytes.now in
    let some : 0 < length ms = search rules in
    let few : length with ≤ length c.args.bytes.now = grind (arith, common_steps) in
    let fits : c.args.offset + length with ≤ length c.now-file.result.now.bytes.items = grind (arith, common_steps) in
    let T : List Moment → Type 0 = λ l. WritesOnly (c.args.offset / 512) (c.args.offset % 512 + length c.args.bytes.now) (state_of ms) (state_of l) in
    subst T (sym c.in_ok-go_on.ensures.ok) (write_only ms c.now-file.result.now c.in-Ok.next c.args.offset (length c.args.bytes.now) with some c.now-file.ensures c.in-Ok.ensures.bytes c.in-Ok.ensures.parts fits few)

pub returns-clause-written : goal.returns-clause-written
returns-clause-written c = λ honest within.
    let ms = c.args.self.now.moments.items in
    let with : List ℕ = take c.min-count.result c.args.bytes.now in
    let some : 0 < length ms = search rules in
    let few : length with ≤ length c.args.bytes.now = grind (arith, common_steps) in
    let fits : c.args.offset + length with ≤ length c.now-file.result.now.bytes.items = grind (arith, common_steps) in
    let T : List Moment → Type 0 = λ l. bytes_of (state_of l) ≡ overwritten (bytes_of (state_of ms)) c.args.offset with in
    subst T (sym c.in_ok-go_on.ensures.ok) (write_holds ms c.now-file.result.now c.in-Ok.next c.args.offset (length c.args.bytes.now) with some c.now-file.ensures c.in-Ok.ensures.bytes c.in-Ok.ensures.parts fits few)

pub returns-clause-opened : goal.returns-clause-opened
returns-clause-opened c = λ honest within more.
    let ms = c.args.self.now.moments.items in
    let with : List ℕ = take c.min-count.result c.args.bytes.now in
    let some : 0 < length ms = search rules in
    let all : length with ≡ c.min-count.result = grind (arith, common_steps) in
    let few : length with ≤ length c.args.bytes.now = grind (arith, common_steps) in
    let fits : c.args.offset + length with ≤ length c.now-file.result.now.bytes.items = grind (arith, common_steps) in
    let T : List Moment → Type 0 = λ l. AreOpen (whole_disk (state_of l)) (c.args.offset / 512) (c.args.offset % 512 + c.min-count.result) in
    subst T (sym c.in_ok-go_on.ensures.ok)
    (subst (λ (n : ℕ). AreOpen (whole_disk (state_of (ms ++ c.in-Ok.next ∷ []))) (c.args.offset / 512) (c.args.offset % 512 + n)) all
    (write_opens ms c.now-file.result.now c.in-Ok.next c.args.offset (length c.args.bytes.now) with some c.now-file.ensures c.in-Ok.ensures.bytes c.in-Ok.ensures.parts fits few))
