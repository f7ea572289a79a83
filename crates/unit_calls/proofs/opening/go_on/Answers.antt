use Rattle.unit_calls.proofs.Goings.{ups}
use Rattle.unit_calls.proofs.opening.go_on.Goals as goal

pub returns : goal.returns
returns c =
    let e = c.go_on-reported.ensures in (
      c.go_on-reported.result,
      record {
        wanted = e.wanted;
        going = e.going;
        same = e.same;
        nearer = e.nearer;
        further = e.further;
        fresh_unit = e.fresh_unit;
        wants_nothing = e.wants_nothing;
        up = ups c.args.opening c.go_on-reported.result e.fresh e.sectors e.up;
        no_device = e.no_device;
        memory = e.memory;
        answers = e.answers;
        none = e.none;
      },
      c.leave.ensures,
    )
