use Rattle.std.proofs.Common.{◌≡◌, ◌+◌, ◌-◌, ◌*◌, ◌≤◌, length}
use Rattle.track_packets.specs.Listing.{listed}
use Rattle.track_packets.proofs.Listings.{with_earlier}
use Rattle.track_packets.proofs.listing.packets_in_order.Given as goal

abbrev pub invariant-loop : goal.invariant-loop
invariant-loop l = record {
  so_far : with_earlier l.packets.items (listed (34 - l.counter) l.at l.reader) ≡ listed 34 50 l.initial.reader;
  count : length l.packets.items ≡ l.counter;
  near : l.at ≤ 50 + 8192 * l.counter;
}
