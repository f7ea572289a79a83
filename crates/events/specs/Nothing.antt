-- What is kept before the first event (this project's profile).
use Rattle.std.specs.Prelude.{None, false}
use Rattle.driver.specs.declared.datum.Datum.TheVariants.{Unknown}
use Rattle.events.specs.declared.kept.Kept.{Kept}
use Rattle.national.specs.InForce as national

abbrev pub nothing_kept : Kept
nothing_kept = record {
  identity = None;
  running_number = None;
  train_data = None;
  level = Unknown;
  position = Unknown;
  national = national.nothing_kept;
  trip_outstanding = false;
  events = 0;
  lives = 0;
}
