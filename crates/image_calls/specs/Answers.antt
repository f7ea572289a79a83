-- What calls answer, and its numbers (this project's profile).
use Rattle.std.specs.Prelude.{◌≡◌, ℕ, ◌==◌, Bool, true, false}
use Rattle.c_numbers.specs.Numbers.{this_abi}
use Rattle.image_calls.specs.declared.answer.Answer.{Answer}
use Rattle.image_calls.specs.declared.answer.Answer.TheVariants as an_answer

abbrev pub answer_number : Answer → ℕ
answer_number an_answer.Done = 0
answer_number an_answer.NoMemory = 12
answer_number an_answer.NotFormatted = 31
answer_number an_answer.Damaged = 32
answer_number an_answer.NoSuchSlot = 35
answer_number an_answer.NoSuchBlock = 36
answer_number an_answer.NoSuchRecord = 37
answer_number an_answer.AtEnd = 38
answer_number an_answer.NotReplayed = 39
answer_number an_answer.NotOpen = 250
answer_number an_answer.OtherAbi = 254
answer_number an_answer.OutOfRange = 255

-- the first where this is so, else the second
abbrev pub IfElse : Bool → Type 0 → Type 0 → Type 0
IfElse true So Else = So
IfElse false So Else = Else

-- the call answers so, and what it would write stays as it was
abbrev pub Refuses : {T : Type 0} → Answer → T → T → Answer → Type 0
Refuses wanted old new answer = (answer ≡ wanted) × (new ≡ old)

-- it is done, and this is written
abbrev pub Gives : {T : Type 0} → T → T → Answer → Type 0
Gives reported new answer = (answer ≡ an_answer.Done) × (new ≡ reported)

-- with a header of this interface the call is so; else it is refused
abbrev pub ByAbi : {T : Type 0} → ℕ → T → T → Answer → Type 0 → Type 0
ByAbi abi old new answer So = IfElse (abi == this_abi) So (Refuses an_answer.OtherAbi old new answer)
