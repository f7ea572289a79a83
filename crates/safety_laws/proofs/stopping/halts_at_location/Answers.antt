use Rattle.std.proofs.Common.{arith}
use Rattle.safety_laws.proofs.Meeting.{stops, meets}
use Rattle.safety_laws.proofs.stopping.halts_at_location.Goals as goal

pub returns : goal.returns
returns c life train end square supervised none braking =
    let still = meets life train end supervised square braking (record { place = end.location; speed = 0 }) (stops life train end supervised none) in
    omega (arith, still)
