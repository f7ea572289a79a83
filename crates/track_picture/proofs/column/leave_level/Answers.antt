use Rattle.std.proofs.Common.{Bool, cond, ap, sym, ◌∙◌}
use Rattle.areas.specs.Levels.{waiting}
use Rattle.track_picture.specs.Columns.{level_deleted}
use Rattle.track_picture.proofs.column.leave_level.Goals as goal

pub returns-then-is_deleted : goal.returns-then-is_deleted
returns-then-is_deleted c entries s =
    c.clear.ensures entries
    ∙ sym (ap (λ (b : Bool). waiting (cond b (level_deleted entries) entries)) (sym c.is_deleted.ensures ∙ c.if-is_deleted.true))
