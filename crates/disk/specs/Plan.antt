-- What is to go wrong with a disk in memory (this project's profile). Calls are numbered from 0.
use Rattle.std.specs.Prelude.{ℕ, ◌==◌, nat_lt, Bool, true, false, if◌then◌else◌}
use Rattle.disk.specs.declared.plan.Plan.{Plan}
use Rattle.disk.specs.declared.plan.Plan.TheVariants.{Nothing, Fail, Cut}
use Rattle.disk.specs.declared.plan.Fate.{Fate}
use Rattle.disk.specs.declared.plan.Fate.TheVariants.{Runs, Fails, Dead}

-- What becomes of the call of this number, counted from 0 since the plan was made: the one that is to fail fails,
-- and after a cut there is no power.
abbrev pub fate_of : Plan → ℕ → Fate
fate_of Nothing number = Runs
fate_of (Fail at) number = if number == at then Fails else Runs
fate_of (Cut at) number = if nat_lt number at then Runs else (if number == at then Fails else Dead)

-- the call answers DiskFault
abbrev pub fails : Fate → Bool
fails Runs = false
fails Fails = true
fails Dead = true

-- how many of the bytes handed in the record takes: none without power
abbrev pub takes : Fate → ℕ → ℕ
takes Runs bytes = bytes
takes Fails bytes = bytes
takes Dead bytes = 0
