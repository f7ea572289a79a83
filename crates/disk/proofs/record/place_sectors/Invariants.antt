use Rattle.std.proofs.Common.{◌≡◌, ℕ, slice_index_or}
use Rattle.std.specs.Prelude.{unwrap_or}
use Rattle.disk.specs.Record.{place_in}
use Rattle.disk.specs.declared.record.Place.TheVariants.{Start}
use Rattle.disk.proofs.Places.{front_of}
use Rattle.disk.proofs.record.place_sectors.Given as goal

abbrev pub invariant-loop-i : goal.invariant-loop-i
invariant-loop-i l = (s : ℕ) → slice_index_or l.places s Start ≡ unwrap_or (place_in (front_of l.span l.i) s) (slice_index_or l.initial.places s Start)
