use Rattle.std.proofs.Common.{◌≤◌, length, drop, refl, ap, subst, ◌∙◌, arith}
use Rattle.track_packets.specs.Listing.{listed}
use Rattle.track_packets.proofs.Listings.{listed_step, listed_ends, listed_full, listing_is}
use Rattle.track_packets.proofs.listing.packets_in_order.Goals as goal

pub returns-in-End : goal.returns-in-End
returns-in-End c =
    listed_ends 34 c.loop.counter c.loop.packets.items c.loop.at c.loop.reader c.in-End.end _ c.loop-test.true c.in-End.ensures.value c.loop.invariant.so_far
    ∙ ap (λ bits. listed 34 50 bits) c.in-Some.ensures.rest
    ∙ ap (λ bits. listed 34 50 (drop 50 bits)) c.new-reader.ensures
    ∙ listing_is c.args.bytes.now (subst (λ bits. 50 ≤ length bits) c.new-reader.ensures (c.in-Some.ensures.found.0 refl))

pub loop-preserved : goal.loop-preserved
loop-preserved c = record {
  so_far = rw (c.push.ensures.items, c.pass.ensures)
      (listed_step 34 c.loop.counter c.loop.packets.items c.loop.at c.loop.reader c.in-Packet.place _ c.loop-test.true c.in-Packet.ensures.value c.loop.invariant.so_far);
  count = omega (arith, c.push.ensures.len, c.loop.invariant.count);
  near = omega (arith, c.in-Packet.ensures.whole.1, c.loop.invariant.near);
}

pub returns : goal.returns
returns c =
    listed_full 34 c.loop.counter c.loop.packets.items c.loop.at c.loop.reader _ c.loop-test.false c.loop.invariant.so_far
    ∙ ap (λ bits. listed 34 50 bits) c.in-Some.ensures.rest
    ∙ ap (λ bits. listed 34 50 (drop 50 bits)) c.new-reader.ensures
    ∙ listing_is c.args.bytes.now (subst (λ bits. 50 ≤ length bits) c.new-reader.ensures (c.in-Some.ensures.found.0 refl))
