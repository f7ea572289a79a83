-- For how many calls of the device a disk in memory is made (this project's profile). That a life makes no more of them
-- is tested.
use Rattle.std.specs.Prelude.{◌≡◌, ℕ, suc, ◌+◌, ◌-◌, ◌*◌, ◌^◌, min, List, [], ◌∷◌, Ok}
use Rattle.events.specs.declared.step.Step.{Step}
use Rattle.events.specs.declared.step.Step.TheVariants.{Accept, Flush}
use Rattle.mode_table.specs.declared.statuses.Cold.{Cold}
use Rattle.serde_json.specs.Data.{Data}
use Rattle.simulator.specs.Lives.{life_in}

abbrev pub flushes_in : List Step → ℕ
flushes_in [] = 0
flushes_in (Accept input ∷ steps) = flushes_in steps
flushes_in (Flush ∷ steps) = suc (flushes_in steps)

-- An opening calls the device once for each slot and a few times more, a flush six times, with seven sectors; then one
-- call reads the image. Where the number doesn't fit 64 bits it is the greatest.
abbrev pub calls_of : ℕ → List Step → ℕ
calls_of slots steps = min (8 * (flushes_in steps + 16) + 2 * slots) (2 ^ 64 - 1)

-- so many, for the life that the value of a scenario describes
abbrev pub AreCallsFor : Data → ℕ → ℕ → Type 0
AreCallsFor value slots calls = (cold : Cold) × (steps : List Step) × (life_in value ≡ Ok (cold, steps)) × (calls ≡ calls_of slots steps)
