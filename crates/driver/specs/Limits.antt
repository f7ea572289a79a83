-- The limits of what is entered (this project's profile). Lengths are centimetres, speeds metres per hour.
use Rattle.std.specs.Prelude.{◌≡◌, ℕ, ◌-◌, ◌≤◌, List, ◌++◌, length, replicate}
use Rattle.std.specs.List.{All}
use Rattle.brakes.specs.declared.brakes.Brakes.{Brakes}

-- an identity has 1 to 16 printable characters
abbrev pub IsIdentity : List ℕ → Type 0
IsIdentity bytes = (1 ≤ length bytes) × (length bytes ≤ 16) × All (λ byte. (0x20 ≤ byte) × (byte ≤ 0x7E)) bytes

-- how it is stored: in 16 bytes, those after it being 0
abbrev pub padded : List ℕ → List ℕ
padded text = text ++ replicate (16 - length text) 0

pub record IsStored (text : List ℕ) (len : ℕ) (bytes : List ℕ) : Type 0 where
  pub is_identity : IsIdentity text
  pub len_is : length text ≡ len
  pub bytes_are : padded text ≡ bytes

abbrev pub IsRunningNumber : ℕ → Type 0
IsRunningNumber n = n ≤ 99_999_999

-- the length of a train in centimetres
abbrev pub IsTrainLength : ℕ → Type 0
IsTrainLength n = (1 ≤ n) × (n ≤ 409_500)

-- its greatest speed in metres per hour
abbrev pub IsTrainMaximum : ℕ → Type 0
IsTrainMaximum n = (1 ≤ n) × (n ≤ 600_000)

-- what is entered of a train
pub record Train : Type 0 where
  pub length : ℕ
  pub maximum : ℕ
  pub category : ℕ
  pub brakes : Brakes
