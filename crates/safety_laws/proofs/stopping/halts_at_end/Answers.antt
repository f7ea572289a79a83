use Rattle.std.proofs.Common.{◌≡◌, ◌*◌, ap, arith}
use Rattle.safety_laws.proofs.Meeting.{ends, meets}
use Rattle.safety_laws.proofs.stopping.halts_at_end.Goals as goal

pub returns : goal.returns
returns c life train end square supervised none no_release braking =
    let still = meets life train end supervised square braking (record { place = end.place; speed = end.speed }) (ends life train end supervised no_release) in
    let least : end.speed * end.speed ≡ 0 = ap (λ v. v * v) none in
    omega (arith, still, least)
