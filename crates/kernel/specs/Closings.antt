-- What became of each balise group that an event closes (SUBSET-026, 3.4.4 and 3.16.2). Groups stand in the order in
-- which they closed.
use Rattle.std.specs.Prelude.{List, []}
use Rattle.events.specs.declared.input.Event.{Event}
use Rattle.events.specs.declared.input.Event.TheVariants.{PowerUp, Input}
use Rattle.mode_control.specs.Closings.{closings_by}
use Rattle.track_picture.specs.declared.closings.Closing.{Closing}
use Rattle.kernel.specs.Lives.{Past}

-- of an event that comes after a past; a power-up closes none
abbrev pub closings_after : Past → Event → List Closing
closings_after past (PowerUp cold) = []
closings_after past (Input input) = closings_by past.life input
