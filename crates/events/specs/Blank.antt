-- The answer that commands the emergency brake while nothing is known (this project's profile). Limits are in metres per
-- hour.
use Rattle.std.specs.Prelude.{true, false, None}
use Rattle.events.specs.declared.output.Brake.TheVariants.{Emergency}
use Rattle.events.specs.declared.output.Output.{Output}
use Rattle.mode_table.specs.declared.mode.Mode.TheVariants.{StandBy}

-- Stand By, no valid level, the emergency brake, the limit 0, and shown alone that nothing is revalidated
abbrev pub blank_answer : Output
blank_answer = record {
  mode = StandBy;
  level = None;
  brake = Emergency;
  limit = 0;
  indications = record { on_sight = false; shunting = false; level_0 = false; trip = false; overridden = false; not_revalidated = true; overspeed = false };
}
