use Rattle.std.proofs.Common.{inr, sym}
use Rattle.serde_json.specs.View.{view}
use Rattle.simulator.proofs.Keys.{by_none}
use Rattle.simulator.proofs.asking.by_key.Goals as goal

pub returns-in_default : goal.returns-in_default
returns-in_default c =
    let other = c.in_default in
    inr (sym (by_none c.args.name.now (view c.args.value.now) other.not-drive other.not-telegram other.not-clock other.not-driver other.not-flush))
