-- Where no values are announced, a look at the train changes nothing.
use Rattle.std.proofs.Common.{◌≡◌, ℤ, List, ◌∷◌, refl}
use Rattle.std.specs.Prelude.{Option, Some, None, option_map}
use Rattle.national.specs.Values.{ValuesFor}
use Rattle.national.specs.InForce.{Fact, NationalEntry, KnownValues, announcement_of, in_force, in_force_after, unless_ended_by, waiting, known}
use Rattle.national.specs.InForce.NationalEntry.{Reached}

looked : (front : ℤ) (waits : Option Fact) (before : ValuesFor) → option_map announcement_of waits ≡ None →
    ◌≡◌ {A = KnownValues} (record { in_force = in_force_after (Reached front) waits before; announced = option_map announcement_of (unless_ended_by (Reached front) waits) })
    (record { in_force = before; announced = option_map announcement_of waits })
looked front None before h = refl
looked front (Some fact) before h = absurd (cc)

pub reached_by : (kept : ValuesFor) (front : ℤ) (entries : List NationalEntry) → (known kept entries).announced ≡ None →
    known kept (Reached front ∷ entries) ≡ known kept entries
reached_by kept front entries h = looked front (waiting entries) (in_force kept entries) h
