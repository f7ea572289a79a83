-- What contracts see of an output that may reach the train (this project's profile). Limits are in metres per hour.
use Rattle.std.specs.Prelude.{ℕ}
use Rattle.events.specs.Blank.{blank_answer}
use Rattle.events.specs.declared.output.Output.{Output}

-- the number of an event, from 0 on, and what the kernel answered to it
pub record Release : Type 0 where
  pub number : ℕ
  pub output : Output

-- before the first event: Stand By, no valid level, the emergency brake, the limit 0, and shown alone that nothing is
-- revalidated
abbrev pub nothing_released : Release
nothing_released = record { number = 0; output = blank_answer }
