use Rattle.std.proofs.Common.{List, ◌++◌, ap, ◌∙◌}
use Rattle.track_packets.specs.Listing.{listing_of}
use Rattle.packet_uses.specs.Never.{never_used_among}
use Rattle.packet_uses.specs.declared.description.ReportedPacket.{ReportedPacket}
use Rattle.packet_uses.proofs.Keeping.{all_refused}
use Rattle.packet_uses.proofs.never.never_used_packets.Goals as goal

pub returns : goal.returns
returns c =
    let reported = c.reported_packets-reported.ensures in
    let slice = c.as_slice.ensures.value in
    let kept = c.keep.ensures ∙ ap (λ (xs : List ReportedPacket). xs ++ never_used_among c.as_slice.result.now) c.new-kept.ensures in
    record {
      carried = λ t carries. kept ∙ ap never_used_among (slice ∙ reported.carried t carries);
      refused = λ e refuses. kept ∙ ap never_used_among (slice ∙ reported.refused e refuses) ∙ all_refused (listing_of c.args.bytes.now).packets.items;
    }
