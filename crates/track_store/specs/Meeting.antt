-- Whether a restriction limits a train somewhere, by the ends of both (this project's profile). Places are centimetres.
use Rattle.std.specs.Prelude.{ℤ, pos, ◌-ℤ◌, Bool, not, int_lt}
use Rattle.std.specs.Int.{int_max, int_min}
use Rattle.units.specs.Stretches.{Span}
use Rattle.vars.specs.declared.restriction.TrainLengthDelay.{TrainLengthDelay}
use Rattle.vars.specs.declared.restriction.TrainLengthDelay.TheVariants.{Applied, NotApplied}
use Rattle.track_store.specs.declared.restriction.Restriction.{Restriction}
use Rattle.track_store.specs.Covering.{end_of}

-- from where on a restriction limits a train, where no track before a first centimetre counts
abbrev pub from_where : ℤ → Span → TrainLengthDelay → ℤ
from_where first train Applied = first
from_where first train NotApplied = int_max first train.min_front

-- the first and the last centimetre at which it may do so
abbrev pub first_met : ℤ → Span → Restriction → ℤ
first_met first train restriction = int_max (from_where first train restriction.delay) restriction.start

abbrev pub last_met : Span → Restriction → ℤ
last_met train restriction = int_min train.max_front (end_of restriction -ℤ pos 1)

abbrev pub meets : ℤ → Span → Restriction → Bool
meets first train restriction = not (int_lt (last_met train restriction) (first_met first train restriction))
