use Rattle.std.proofs.Common.{refl}
use Rattle.telegram.specs.Telegrams.{header_bits}
use Rattle.telegram.specs.Walks.{Walk, located_from}
use Rattle.track_guard.proofs.demanding.fault_of.Goals as goal

pub returns-in-Ok : goal.returns-in-Ok
returns-in-Ok c = record {
  carried = λ t carries. refl;
  refused = λ e refuses.
      let no = (c.packets.ensures.fault e).1 refuses in
      let yes = c.in-Ok.is in
      absurd cc;
}

pub returns-in-Err : goal.returns-in-Err
returns-in-Err c = record {
  carried = λ t carries.
      let w : Walk = record { header = t.header; items = located_from c.args.bytes.now header_bits t.packets.items } in
      let no = (c.packets.ensures.found w).1 (t, carries, refl) in
      let yes = c.in-Err.is in
      absurd cc;
  refused = λ e refuses.
      let same = (c.packets.ensures.fault e).1 refuses in
      let is = c.in-Err.is in
      cc;
}
