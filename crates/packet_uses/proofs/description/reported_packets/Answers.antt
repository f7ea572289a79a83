use Rattle.std.proofs.Common.{false, List, ◌++◌, ap, ◌∙◌}
use Rattle.telegram.specs.declared.message.Telegram.{Telegram}
use Rattle.packet_uses.specs.Description.{reported_from}
use Rattle.packet_uses.specs.declared.description.ReportedPacket.{ReportedPacket}
use Rattle.packet_uses.proofs.description.reported_packets.Goals as goal

pub returns-in-Ok : goal.returns-in-Ok
returns-in-Ok c = record {
  carried = λ t carries.
      let same = (c.decode_into.ensures.only t carries).1 in
      c.describe_read.ensures
      ∙ ap (λ (xs : List ReportedPacket). xs ++ reported_from c.args.mode c.args.direction false 50 c.as_slice-packets.result.now) c.new-reported.ensures
      ∙ ap (λ ps. reported_from c.args.mode c.args.direction false 50 ps) (c.as_slice-packets.ensures.value ∙ ap (λ (x : Telegram). x.packets.items) same);
  refused = λ e refuses.
      let no = (c.decode_into.ensures.fault e).1 refuses in
      let yes = c.in-Ok.is in
      absurd cc;
}
