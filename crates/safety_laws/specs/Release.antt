-- The release rule, speed by speed and case by case (SUBSET-026, 3.8 and 3.13; which speed holds where: this project's
-- profile). Places are centimetres, speeds metres per hour.
--
-- They don't say where the train trips: at a release speed its maximum safe front may be beyond the end, up to the
-- supervised location, and it trips once its minimum safe front is. Nor which of overlap and danger point is that
-- location, and whose release speed holds: that is `end_of` of `authority`.
use Rattle.std.specs.Prelude.{ℕ, ◌≡◌, ◌≤◌, ◌⊎◌, ◌↔◌, max, Bool, Some, IsTrue}
use Rattle.authority.specs.declared.answers.End.{End}
use Rattle.authority.specs.Laws.{IsAmong}
use Rattle.braking.specs.declared.target.Target.{Target}
use Rattle.braking.specs.Braking.{fits}
use Rattle.driver.specs.Limits.{Train}
use Rattle.mode_control.specs.Life.{Life}
use Rattle.mode_control.specs.Sentences.{values_of}
use Rattle.speed_supervision.specs.Limit.{limit, supervised_limit, release_speed, the_end, the_supervised_location}
use Rattle.safety_laws.specs.Starts.{starts_of, braking_limit}
use Rattle.safety_laws.specs.Stopping.{front_of, gradient_along, IsSupervised}

-- from a speed the train can brake for a target
abbrev pub can_meet : Life → Train → Target → ℕ → Bool
can_meet life train target speed = fits (front_of life) (gradient_along life) train.brakes target speed

-- the release speed that holds: its own, or the national value
abbrev pub release_of : Life → End → ℕ
release_of life end = release_speed end.release (values_of life).release

-- ---- speed by speed

-- a train may run at a speed: the track under it allows that; it can brake for each start of a lower speed ahead; and
-- it can brake for the end of the authority, or the speed is at most the release speed and it can stop at the supervised
-- location
pub record MayRun (life : Life) (train : Train) (end : End) (speed : ℕ) : Type 0 where
  pub here : speed ≤ supervised_limit life train
  pub ahead : (start : Target) → IsAmong start (starts_of life train) → IsTrue (can_meet life train start speed)
  pub to_end : IsTrue (can_meet life train (the_end end) speed)
      ⊎ ((speed ≤ release_of life end) × IsTrue (can_meet life train (the_supervised_location end) speed))

-- these are the speeds up to the limit
abbrev pub MayRunUpToLimit : Type 0
MayRunUpToLimit = (life : Life) (train : Train) (end : End) (speed : ℕ) → IsSupervised life train end →
    speed ≤ limit life ↔ MayRun life train end speed

-- ---- case by case

abbrev pub limit_to_end : Life → Train → End → ℕ
limit_to_end life train end = braking_limit life train (Some (the_end end))

abbrev pub limit_to_location : Life → Train → End → ℕ
limit_to_location life train end = braking_limit life train (Some (the_supervised_location end))

-- while the train can stop at the supervised location from the release speed, the limit is the greater of that speed
-- and of the braking limit to the end; nearer, the greater of the braking limits to the end and to the supervised
-- location. It is never above what the track under the train allows
pub record IsReleased (life : Life) (train : Train) (end : End) : Type 0 where
  pub released : release_of life end ≤ limit_to_location life train end →
      limit life ≡ max (limit_to_end life train end) (release_of life end)
  pub nearer : limit_to_location life train end ≤ release_of life end →
      limit life ≡ max (limit_to_end life train end) (limit_to_location life train end)
  pub here : limit life ≤ supervised_limit life train

abbrev pub ReleaseRule : Type 0
ReleaseRule = (life : Life) (train : Train) (end : End) → IsSupervised life train end → IsReleased life train end
