-- Which library this is (this project's profile).
use Rattle.std.specs.Prelude.{◌≡◌, ℕ, List, ◌++◌, length, drop, codes, nat_lt}
use Rattle.unit_calls.specs.Requests.{IfElse}
use Rattle.unit_calls.specs.declared.status.Status.{Status}
use Rattle.unit_calls.specs.declared.status.Status.TheVariants as a_status

-- the version of the product
abbrev pub version : List ℕ
version = codes "0.1.0"

-- the version is written into the first of the caller's bytes, and its length reported; NoRoom writes nothing
abbrev pub DescribesVersion : List ℕ → List ℕ → ℕ → ℕ → Status → Type 0
DescribesVersion caller_buffer bytes len reported status =
    IfElse (nat_lt (length caller_buffer) (length version)) ((status ≡ a_status.NoRoom) × (bytes ≡ caller_buffer) × (reported ≡ len))
    ((status ≡ a_status.Done) × (bytes ≡ version ++ drop (length version) caller_buffer) × (reported ≡ length version))
