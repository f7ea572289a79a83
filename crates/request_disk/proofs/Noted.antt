-- What a request that was noted leaves.
use Rattle.std.proofs.Common.{◌≡◌, ℕ, ◌+◌, ◌*◌, ◌/◌, List, [], length, refl, ap, arith}
use Rattle.disk.specs.State.{AreSectors, Touches, Holds, contents_of}
use Rattle.disk.specs.Record.{IsWithin}
use Rattle.disk.specs.declared.record.Call.TheVariants.{Synced, Written}
use Rattle.disk.specs.declared.record.Span.{Span}
use Rattle.disk.proofs.Calls.{touches_to, quiet_to, written_holds, leaves_written_bytes, leaves_synced, within_synced}
use Rattle.request_disk.specs.Requesting.{Requesting, IsRequesting, IsNoted, request_state, write_of}

module _ (old new : Requesting) (kept : IsRequesting old) where
  -- a write
  pub write_touches : (first : ℕ) (bytes : List ℕ) → AreSectors first (length bytes) old.sectors → IsNoted (write_of first bytes old) bytes old new
      → Touches first (length bytes) (request_state old) (request_state new)
  write_touches first bytes are is =
      let whole : length bytes ≡ 512 * (length bytes / 512) = omega (arith, are.whole) in
      let span : Span = record { first = first; sectors = length bytes / 512; from = length old.written } in
      let inside : IsWithin old.sectors (length old.written + length bytes) (Written span) = record {
        below = omega (arith, whole, are.within);
        bytes = omega (arith, whole);
      } in
      touches_to first (length bytes) (length old.written) old.sectors old.faults new.faults old.medium old.written bytes old.requests (Written span)
      new.sectors new.medium new.written new.requests kept.within refl kept.whole inside (λ s out. leaves_written_bytes span (length bytes) s whole out)
      (ap (λ (m : Requesting). m.sectors) is) (ap (λ (m : Requesting). m.medium) is) (ap (λ (m : Requesting). m.written) is) (ap (λ (m : Requesting). m.requests) is)

  pub write_holds : (first : ℕ) (bytes : List ℕ) → AreSectors first (length bytes) old.sectors → IsNoted (write_of first bytes old) bytes old new
      → Holds (contents_of (request_state new)) first bytes
  write_holds first bytes are is =
      let whole : length bytes ≡ 512 * (length bytes / 512) = omega (arith, are.whole) in
      let span : Span = record { first = first; sectors = length bytes / 512; from = length old.written } in
      written_holds old.medium old.written bytes old.requests span new.medium new.written new.requests refl whole
      (ap (λ (m : Requesting). m.medium) is) (ap (λ (m : Requesting). m.written) is) (ap (λ (m : Requesting). m.requests) is)

  -- a sync
  pub sync_touches : IsNoted Synced [] old new → Touches 0 0 (request_state old) (request_state new)
  sync_touches is =
      quiet_to 0 0 (length old.written) old.sectors old.faults new.faults old.medium old.written old.requests Synced
      new.sectors new.medium new.written new.requests kept.within refl kept.whole (λ s. leaves_synced s) (within_synced old.sectors (length old.written))
      (ap (λ (m : Requesting). m.sectors) is) (ap (λ (m : Requesting). m.medium) is) (ap (λ (m : Requesting). m.written) is) (ap (λ (m : Requesting). m.requests) is)
