-- An authority of which no time runs any more: its end is the same at every moment and wherever the train is (SUBSET-026,
-- 3.8.3 and 3.8.4). Speeds are metres per hour, times seconds.
use Rattle.std.specs.Prelude.{◌≡◌, ◌⊎◌, Option, None, [], IfSome}
use Rattle.authority.specs.declared.stored.Stored.{Stored}
use Rattle.authority.specs.Timers.{never}

-- no section, end section and overlap has a timer that isn't stopped, and the speed at the end has no time that matters
abbrev pub HasNoTime : Stored → Type 0
HasNoTime stored =
    (stored.timed.items ≡ []) × (stored.end_timer ≡ None) × (stored.overlap ≡ None) × ((stored.end_speed ≡ 0) ⊎ (stored.end_time ≡ never))

-- no authority is stored, or one of which no time runs
abbrev pub IsUntimed : Option Stored → Type 0
IsUntimed stored = IfSome stored HasNoTime
