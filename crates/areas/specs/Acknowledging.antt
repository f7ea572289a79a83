-- What becomes of one kind of acknowledgement, On Sight, Shunting or level 0, by what happens to it (SUBSET-026, 4.10,
-- 5.7, 5.9 and 5.10; the cells of the table and the times: this project's profile). Moments are milliseconds. Lists
-- have the newest first, but what one event brings stands in its order, the first first. A reader may take for granted
-- that a life begins with Nothing, that the kinds don't bear on each other, and that an event brings each happening at
-- most once.
use Rattle.std.specs.Prelude.{ℕ, ◌+◌, nat_le, Bool, true, false, Option, List, [], ◌∷◌}
use Rattle.std.specs.Option.{option_map_or}
use Rattle.areas.specs.declared.acknowledgement.Acknowledgement.{Acknowledgement}
use Rattle.areas.specs.declared.acknowledgement.Acknowledgement.TheVariants as state

-- what can happen to it
pub data Happening : Type 0 where
  Acknowledged : Happening  -- the driver acknowledged it
  Entered : ℕ → Happening  -- at a moment its mode was entered because of an area, or an announced level 0 came into force
  Requested : Happening  -- the train is where an area or an announcement asks for it
  Deleted : Happening  -- a mode was entered that deletes acknowledgements
  Settled : Happening  -- no area or announcement of the kind is left

-- what becomes of it
pub data Next : Type 0 where
  Same : Next
  Nothing : Next
  Requested : Next
  Done : Next
  Owed : ℕ → Next

-- a line of the table
abbrev pub line : Next → Next → Next → Next → Acknowledgement → Next
line was_nothing was_requested was_done was_owed state.Nothing = was_nothing
line was_nothing was_requested was_done was_owed state.Requested = was_requested
line was_nothing was_requested was_done was_owed state.Done = was_done
line was_nothing was_requested was_done was_owed (state.Owed since) = was_owed

abbrev pub table : Happening → Acknowledgement → Next
-- in each line, by what it was before: Nothing, Requested, Done, Owed
table Happening.Acknowledged = line Next.Same Next.Done Next.Same Next.Nothing  -- 5.7, 5.9, 5.10
table (Happening.Entered now) = line (Next.Owed now) (Next.Owed now) Next.Nothing (Next.Owed now)  -- 5.7, 5.9, 5.10
table Happening.Requested = line Next.Requested Next.Same Next.Same Next.Same  -- 5.7, 5.9, 5.10
table Happening.Deleted = line Next.Nothing Next.Nothing Next.Nothing Next.Nothing  -- 4.10
table Happening.Settled = line Next.Nothing Next.Nothing Next.Nothing Next.Same  -- this project's profile

abbrev pub becomes : Next → Acknowledgement → Acknowledgement
becomes Next.Same before = before
becomes Next.Nothing before = state.Nothing
becomes Next.Requested before = state.Requested
becomes Next.Done before = state.Done
becomes (Next.Owed now) before = state.Owed now

abbrev pub after : Happening → Acknowledgement → Acknowledgement
after happening before = becomes (table happening before) before

-- after something that an event may bring; None where it doesn't
abbrev pub after_some : Option Happening → Acknowledgement → Acknowledgement
after_some happening before = option_map_or (λ h. after h before) happening before

-- after all that one event may bring, in its order
abbrev pub after_event : List (Option Happening) → Acknowledgement → Acknowledgement
after_event [] before = before
after_event (happening ∷ later) before = after_event later (after_some happening before)

-- after all that happened in a life
abbrev pub after_all : List Happening → Acknowledgement
after_all [] = state.Nothing
after_all (happening ∷ earlier) = after happening (after_all earlier)

-- it is asked for or owed
abbrev pub waits : Acknowledgement → Bool
waits state.Nothing = false
waits state.Requested = true
waits state.Done = false
waits (state.Owed since) = true

-- how long it may be owed before the service brake is ordered, in milliseconds
abbrev pub brake_delay : ℕ
brake_delay = 5_000

abbrev pub brakes : ℕ → Acknowledgement → Bool
brakes now state.Nothing = false
brakes now state.Requested = false
brakes now state.Done = false
brakes now (state.Owed since) = nat_le (since + brake_delay) now
