-- From which event on each cause of a brake has held (this project's profile). Lists of events have the newest first;
-- events are numbered from 0, over all lives, up to the greatest number of 64 bits. Reported elsewhere, and taken for
-- granted here: which causes hold in a life (`causes_of`, in kernel).
use Rattle.std.specs.Prelude.{ℕ, Bool, true, false, Option, Some, None, List, [], ◌∷◌, map, replicate, slice_index_or}
use Rattle.events.specs.declared.input.Event.{Event}
use Rattle.events.specs.declared.input.Event.TheVariants.{PowerUp, Input}
use Rattle.kernel.specs.declared.causes.BrakeCause.{BrakeCause}
use Rattle.events.specs.declared.kept.Kept.{Kept}
use Rattle.kernel.specs.Brake.{causes_of}
use Rattle.kernel.specs.Causes.{all_causes, is_among, place_of}
use Rattle.kernel.specs.Lives.{Story, onward, past_at}
use Rattle.reasons.specs.declared.runs.Runs.{Runs}

-- the number of the event after a story
abbrev pub number_after : Story → ℕ
number_after story = (past_at story).kept.events

-- the causes that hold after its last event
abbrev pub later_causes : Story → List BrakeCause
later_causes story = causes_of (past_at story).life

-- a run of events goes on, begins at this number, or is none
abbrev pub gone_on : Bool → Option ℕ → ℕ → Option ℕ
gone_on false before number = None
gone_on true None number = Some number
gone_on true (Some first) number = Some first

-- what an event leaves of what was so before it in its life: a power-up begins all anew
abbrev pub in_this_life : {A : Type 0} → Event → Option A → Option A
in_this_life (PowerUp cold) before = None
in_this_life (Input input) before = before

-- the first event of the unbroken run of events of this life, up to the last one, after each of which a cause holds;
-- none where it doesn't hold
abbrev pub run_from : BrakeCause → Kept → List Event → Option ℕ
run_from why kept [] = None
run_from why kept (event ∷ events) =
    let before : Story = record { kept = kept; events = events } in
    gone_on (is_among why (later_causes (onward before event))) (in_this_life event (run_from why kept events)) (number_after before)

abbrev pub run_of : BrakeCause → Story → Option ℕ
run_of why story = run_from why story.kept story.events

-- from which event on a cause has held, by what is known of each
abbrev pub first_in : Runs → BrakeCause → Option ℕ
first_in runs why = slice_index_or runs.firsts (place_of why) None

abbrev pub runs_of : Story → Runs
runs_of story = record { firsts = map (λ why. run_of why story) all_causes }

-- ---- the same event by event

abbrev pub no_runs : Runs
no_runs = record { firsts = replicate 10 None }

-- after a further event, of this number, after which these causes hold
abbrev pub run_held : BrakeCause → Runs → List BrakeCause → ℕ → Option ℕ
run_held why before held number = gone_on (is_among why held) (first_in before why) number

abbrev pub runs_held : Runs → List BrakeCause → ℕ → Runs
runs_held before held number = record { firsts = map (λ why. run_held why before held number) all_causes }
