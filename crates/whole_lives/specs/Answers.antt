-- What a life answers (this project's profile).
use Rattle.std.specs.Prelude.{Bool, true, false, Result, Ok, Err}
use Rattle.unit_start.specs.Answers.{is_device}
use Rattle.onboard.specs.declared.errors.FlushError.TheVariants as a_flush
use Rattle.whole_lives.specs.declared.errors.LiveError.{LiveError}
use Rattle.whole_lives.specs.declared.errors.LiveError.TheVariants as a_live

-- whether the device failed in a life
abbrev pub live_failed : {T : Type 0} → Result T LiveError → Bool
live_failed (Ok x) = false
live_failed (Err (a_live.Open e)) = is_device e
live_failed (Err (a_live.Accept k e)) = false
live_failed (Err (a_live.Flush k a_flush.Failed)) = false
live_failed (Err (a_live.Flush k a_flush.WornOut)) = false
live_failed (Err (a_live.Flush k a_flush.DeviceFault)) = true
live_failed (Err (a_live.NoMemory k)) = false

-- whether there was no space for what a flush releases
abbrev pub is_full : LiveError → Bool
is_full (a_live.Open e) = false
is_full (a_live.Accept k e) = false
is_full (a_live.Flush k e) = false
is_full (a_live.NoMemory k) = true
