-- One temporary speed restriction: which track it covers, and what ends it (SUBSET-026, 3.11.5; the forgetting mark and
-- what the lengths of trains have to do with it: this project's profile). Places are centimetres.
use Rattle.std.specs.Prelude.{ℕ, ℤ, pos, ◌+ℤ◌, Bool, not, ◌==◌, ◌&&◌, int_lt}
use Rattle.units.specs.Stretches.{Span}
use Rattle.vars.specs.declared.restriction.TrainLengthDelay.{TrainLengthDelay}
use Rattle.vars.specs.declared.restriction.TrainLengthDelay.TheVariants.{Applied, NotApplied}
use Rattle.track_store.specs.declared.restriction.Restriction.{Restriction}

-- a later restriction or revocation of a number ends it; number 255 is never replaced nor revoked
abbrev pub is_ended_by : ℕ → Restriction → Bool
is_ended_by number restriction = (number == restriction.number) && not (restriction.number == 255)

-- the first centimetre after it
abbrev pub end_of : Restriction → ℤ
end_of restriction = restriction.start +ℤ pos restriction.length

-- some of it lies at or ahead of the forgetting mark
abbrev pub reaches_past : ℤ → Restriction → Bool
reaches_past mark restriction = int_lt mark (end_of restriction)

-- it covers its length from its start on, without what lies before the mark
abbrev pub covers : ℤ → ℤ → Restriction → Bool
covers mark place restriction = not (int_lt place mark) && not (int_lt place restriction.start) && int_lt place (end_of restriction)

-- where the train begins for it: at its minimum safe rear with the train length delay, else at its minimum safe front
abbrev pub train_start : ℤ → ℤ → TrainLengthDelay → ℤ
train_start rear min_front Applied = rear
train_start rear min_front NotApplied = min_front

-- it limits a train at a centimetre
abbrev pub limits_at : ℤ → Span → ℤ → Restriction → Bool
limits_at mark train place restriction =
    covers mark place restriction && not (int_lt place (train_start train.rear train.min_front restriction.delay))
