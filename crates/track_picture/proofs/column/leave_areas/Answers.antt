use Rattle.std.proofs.Common.{Bool, cond, ap, sym, ◌∙◌}
use Rattle.areas.specs.Areas.{stored}
use Rattle.track_picture.specs.Columns.{areas_deleted}
use Rattle.track_picture.proofs.column.leave_areas.Goals as goal

pub returns-then-is_deleted : goal.returns-then-is_deleted
returns-then-is_deleted c entries s =
    c.clear.ensures entries
    ∙ sym (ap (λ (b : Bool). stored (cond b (areas_deleted entries) entries)) (sym c.is_deleted.ensures ∙ c.if-is_deleted.true))
