-- What steps make of a visitor, and of what it says on to (this project's profile).
use Rattle.std.specs.Prelude.{◌≡◌, ◌⊎◌, ℕ, Bool, true, false, List, [], ◌∷◌}
use Rattle.ring.specs.Scans.{IsScanned}
use Rattle.ring.specs.Slots.{IsFormatted, valid_at}
use Rattle.lives.specs.Steps.{Step, steps_of}
use Rattle.lives.specs.declared.errors.LateError.{LateError}
use Rattle.lives.specs.declared.errors.LateError.TheVariants as a_late
use Rattle.lives.specs.declared.errors.WalkError.{WalkError}
use Rattle.lives.specs.declared.errors.WalkError.TheVariants as an_error

-- the first where the visitor has enough, else the second
abbrev pub WalksOn : Bool → Type 0 → Type 0 → Type 0
WalksOn true Ends GoesOn = Ends
WalksOn false Ends GoesOn = GoesOn

-- one step after another, until the visitor has enough
abbrev pub Walked : {V O : Type 0} → (Step → V → O → V → O → Type 0) → (V → Bool) → List Step → V → O → V → O → Type 0
Walked IsReported enough [] old out new after = (new ≡ old) × (after ≡ out)
Walked {V} {O} IsReported enough (step ∷ steps) old out new after = WalksOn (enough old) ((new ≡ old) × (after ≡ out))
    ((one : V) × (mid : O) × IsReported step old out one mid × Walked IsReported enough steps one mid new after)

-- All steps of an image were reported, until the visitor had enough.
pub record IsWalked {V O : Type 0} (IsReported : Step → V → O → V → O → Type 0) (enough : V → Bool) (sectors : ℕ) (image : ℕ → List ℕ) (old : V) (out : O) (new : V) (after : O) : Type 0 where
  pub slots : ℕ
  pub first : ℕ
  pub newest : ℕ
  pub formatted : IsFormatted sectors slots (image 0)
  pub retained : IsScanned slots (valid_at slots image) first newest
  pub steps : Walked IsReported enough (steps_of slots (valid_at slots image) first newest) old out new after

-- ---- walks that stop by an error

-- a walk stopped by this error before a step was reported: the device failed, and nothing was said on; or the visitor
-- stopped in the step, as it says
abbrev pub StopsBy : {V O : Type 0} → (Step → V → O → LateError → O → Type 0) → WalkError → Step → V → O → O → Type 0
StopsBy IsStopped an_error.DeviceFault step old out after = after ≡ out
StopsBy IsStopped an_error.Write step old out after = IsStopped step old out a_late.Write after
StopsBy IsStopped an_error.NoMemory step old out after = IsStopped step old out a_late.NoMemory after
StopsBy IsStopped _ step old out after = ⊥

-- one step after another was reported, and the walk stopped in the next one, before which the visitor hadn't enough
abbrev pub StopsIn : {V O : Type 0} → (Step → V → O → V → O → Type 0) → (V → Bool) → (Step → V → O → O → Type 0) → List Step → V → O → O → Type 0
StopsIn IsReported enough Stops [] old out after = ⊥
StopsIn {V} {O} IsReported enough Stops (step ∷ steps) old out after = (enough old ≡ false)
    × (Stops step old out after ⊎ ((one : V) × (mid : O) × IsReported step old out one mid × StopsIn IsReported enough Stops steps one mid after))

-- A walk over an image stopped in one of its steps.
pub record IsStoppedWalk {V O : Type 0} (IsReported : Step → V → O → V → O → Type 0) (enough : V → Bool) (Stops : Step → V → O → O → Type 0) (sectors : ℕ) (image : ℕ → List ℕ) (old : V) (out after : O) : Type 0 where
  pub slots : ℕ
  pub first : ℕ
  pub newest : ℕ
  pub formatted : IsFormatted sectors slots (image 0)
  pub retained : IsScanned slots (valid_at slots image) first newest
  pub steps : StopsIn IsReported enough Stops (steps_of slots (valid_at slots image) first newest) old out after
