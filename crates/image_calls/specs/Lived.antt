-- What is known of the life of an event, after the steps that an image says up to it (`lives`; this project's
-- profile). Blocks are numbered from 1, events from 0; events of a life have the newest first.
use Rattle.std.specs.Prelude.{◌≡◌, ℕ, ◌==◌, Bool, false, if◌then◌else◌, List, [], ◌∷◌, Option, Some, None, Result, Ok, Err}
use Rattle.blocks.specs.declared.block.Block.{Block}
use Rattle.blocks.specs.declared.records.BlockRecord.{BlockRecord}
use Rattle.events.specs.declared.input.Event.{Event}
use Rattle.events.specs.declared.input.Event.TheVariants.{PowerUp, Input}
use Rattle.events.specs.declared.kept.Kept.{Kept}
use Rattle.kernel.specs.Lives.{Story, onward, past_at, left_by}
use Rattle.lives.specs.Steps.{Step, whole_valid_at, steps_of}
use Rattle.lives.specs.declared.visit.Unknown.{Unknown}
use Rattle.lives.specs.declared.visit.Unknown.TheVariants as an_unknown
use Rattle.mode_table.specs.declared.statuses.Cold.{Cold}
use Rattle.reasons.specs.Reported.{Reasoned, Reasons}
use Rattle.image_calls.specs.ImageDisk.{image_of}
use Rattle.image_calls.specs.declared.images.Ring.{Ring}

-- What was kept before a power-up, its cold movement value, and the events from it on.
pub record Lived : Type 0 where
  pub kept : Kept
  pub cold : Cold
  pub events : List Event

-- ---- steps

-- one event more of a life, where it is known
abbrev pub one_more : Event → Option Lived → Option Lived
one_more event None = None
one_more event (Some life) = Some (record life { events = event ∷ life.events })

-- after what was kept a life is known from its power-up on
abbrev pub powered_up : Event → Kept → Option Lived → Option Lived
powered_up (PowerUp cold) kept at = Some (record { kept = kept; cold = cold; events = PowerUp cold ∷ [] })
powered_up (Input input) kept at = one_more (Input input) at

-- where nobody knows what was kept it isn't known; but within a block it goes on from the life before, where that is
abbrev pub initial_unknown : Unknown → Event → Option Lived → Option Lived
initial_unknown an_unknown.WithinBlock event at = one_more event at
initial_unknown _ event at = None

abbrev pub initial : Result Kept Unknown → Event → Option Lived → Option Lived
initial (Ok kept) event at = powered_up event kept at
initial (Err unknown) event at = initial_unknown unknown event at

-- after a step
abbrev pub life_after : Step → Option Lived → Option Lived
life_after (Step.Begins block life before r) at = initial before r.event at
life_after (Step.GoesOn block life r) at = one_more r.event at
life_after (Step.Head block) at = at
life_after _ at = None

abbrev pub later_life : List Step → Option Lived → Option Lived
later_life [] at = at
later_life (step ∷ steps) at = later_life steps (life_after step at)

-- ---- up to an event

-- the step is of the record of this event in the block of this number
abbrev pub is_record : ℕ → ℕ → Block → BlockRecord → Bool
is_record number event block r = if block.number == number then r.number == event else false

abbrev pub is_requested : ℕ → ℕ → Step → Bool
is_requested number event (Step.Begins block life before r) = is_record number event block r
is_requested number event (Step.GoesOn block life r) = is_record number event block r
is_requested number event _ = false

-- the steps up to the first of which this is so
abbrev pub up_to : (Step → Bool) → List Step → List Step
up_to is [] = []
up_to is (step ∷ steps) = if is step then step ∷ [] else step ∷ up_to is steps

-- all that an image says about the blocks up to this number
abbrev pub steps_up_to : List ℕ → Ring → ℕ → List Step
steps_up_to bytes ring number = steps_of ring.slots (whole_valid_at ring.slots ring.whole (image_of bytes)) 1 number

-- the life of an event of the block of this number, up to it
abbrev pub life_up_to : List ℕ → Ring → ℕ → ℕ → Option Lived
life_up_to bytes ring number event = later_life (up_to (is_requested number event) (steps_up_to bytes ring number)) None

-- ---- stories

-- the story with these events
abbrev pub story_after : List Event → Story → Story
story_after [] story = story
story_after (event ∷ events) story = onward (story_after events story) event

-- after this story the same is kept, as far as a power-up with this cold movement value leaves it
abbrev pub IsLeft : Cold → Kept → Story → Type 0
IsLeft cold kept story = left_by cold kept ≡ left_by cold (past_at story).kept

-- a life that was run again comes after its last event: after any story after which the same is kept as before its
-- power-up, this unit's own events or not
abbrev pub Stands : Option Lived → Option Reasoned → Type 0
Stands None None = Unit {0}
Stands (Some life) (Some known) = (story : Story) → IsLeft life.cold life.kept story → Reasons (story_after life.events story) known
Stands _ _ = ⊥
