use Rattle.std.proofs.Common.{refl}
use Rattle.kernel.proofs.state.StateOver.before_power_up.Goals as goal

pub returns-clause-waits : goal.returns-clause-waits
returns-clause-waits g c = record {
  life_is = record {
    parts_are = c.new.ensures.before;
    supervision_is = c.new-2.ensures.stands;
    carried_is = tt;
    still_is = tt;
  };
  counts_are = refl;
}
