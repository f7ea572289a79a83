-- What an image has (this project's profile): the bytes of a disk, which may be cut off. Slots are numbered from 0,
-- blocks from 1.
use Rattle.std.specs.Prelude.{◌≡◌, ◌⊎◌, ℕ, List, Option, Some, None, option_map}
use Rattle.blocks.specs.declared.block.Block.{Block}
use Rattle.examination.specs.Lost.{whole_of, slots_in}
use Rattle.lives.specs.Steps.{whole_valid_at, block_at}
use Rattle.image_calls.specs.Answers.{Refuses}
use Rattle.image_calls.specs.ImageDisk.{sectors_in, image_of}
use Rattle.image_calls.specs.declared.answer.Answer.{Answer}
use Rattle.image_calls.specs.declared.answer.Answer.TheVariants as an_answer
use Rattle.image_calls.specs.declared.images.Ring.{Ring}

-- the slots that the first sector says, and those that are there with all their sectors
abbrev pub ring_in : List ℕ → Option Ring
ring_in bytes = option_map (λ slots. record { slots = slots; whole = whole_of (sectors_in bytes) slots }) (slots_in (sectors_in bytes) (image_of bytes))

-- where the image says its slots the call is so; else it is refused
abbrev pub OfRing : {T : Type 0} → Option Ring → T → T → Answer → (Ring → Type 0) → Type 0
OfRing None old new answer So = Refuses an_answer.NotFormatted old new answer
OfRing (Some ring) old new answer So = So ring

-- the block of this number, where its slot is there, is valid with it, and spells it
abbrev pub block_in : List ℕ → Ring → ℕ → Option Block
block_in bytes ring number = block_at ring.slots (whole_valid_at ring.slots ring.whole (image_of bytes)) number

abbrev pub Holds : List ℕ → Ring → ℕ → Block → Type 0
Holds bytes ring number block = block_in bytes ring number ≡ Some block

-- it holds some
abbrev pub HoldsSome : List ℕ → Ring → ℕ → Type 0
HoldsSome bytes ring number = (block : Block) × Holds bytes ring number block

-- it holds none
abbrev pub HoldsNone : List ℕ → Ring → ℕ → Type 0
HoldsNone bytes ring number = block_in bytes ring number ≡ None

-- the call is so of the block of this number, where there is one; else it is refused with this
abbrev pub OfBlock : {T : Type 0} → List ℕ → Ring → ℕ → Answer → T → T → Answer → (Block → Type 0) → Type 0
OfBlock bytes ring number wanted old new answer So =
    ((block : Block) × Holds bytes ring number block × So block) ⊎ (HoldsNone bytes ring number × Refuses wanted old new answer)
