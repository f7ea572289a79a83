use Rattle.packet_uses.proofs.calls.describe_in.Goals as goal

pub returns : goal.returns
returns c = (c.reported_packets-packets.result.items, c.reported_packets-packets.ensures, c.describe_one.ensures)
