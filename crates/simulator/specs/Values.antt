-- Looking into a JSON value, and the first fault in order (this project's profile).
use Rattle.std.specs.Prelude.{ℕ, ◌&&◌, nat_le, ℤ, pos, int_le, List, length, slice_get, Bool, true, false, if◌then◌else◌, Option, Some, None, option_and_then, Result, Ok, Err}
use Rattle.serde_json.specs.Data.{Data}
use Rattle.serde_json.specs.Find.{get, as_number, as_i64, as_str}
use Rattle.simulator.specs.Numbers.{natural}
use Rattle.hex.specs.Hex.{decode_of}
use Rattle.hex.specs.declared.error.FromHexError.{FromHexError}
use Rattle.simulator.specs.Shapes.{list_in}
use Rattle.packets.specs.Limits.{telegram_bytes}
use Rattle.simulator.specs.declared.fault.ScenarioFault.{ScenarioFault}
use Rattle.simulator.specs.declared.fault.ScenarioFault.TheVariants.{Shape, OutOfRange, BadHex}

-- one after another, up to the first fault
infixl 10 ◌>>=◌
abbrev pub ◌>>=◌ : {A B : Type 0} → Result A ScenarioFault → (A → Result B ScenarioFault) → Result B ScenarioFault
Ok x >>= f = f x
Err e >>= f = Err e

-- what has the right shape, or Shape
abbrev pub shaped : {A : Type 0} → Option A → Result A ScenarioFault
shaped (Some x) = Ok x
shaped None = Err Shape

-- what has to hold, or the fault
abbrev pub given : Bool → ScenarioFault → Result (Unit {0}) ScenarioFault
given true fault = Ok tt
given false fault = Err fault

-- ---- shapes

-- a whole number
abbrev pub whole : Data → Option ℤ
whole d = option_and_then as_i64 (as_number d)

-- a whole number, and a text, that stand at a place in a list
unfoldable pub whole_item : List Data → ℕ → Result ℤ ScenarioFault
whole_item ds n = shaped (option_and_then whole (slice_get ds n))

abbrev pub text_item : List Data → ℕ → Result (List ℕ) ScenarioFault
text_item ds n = shaped (option_and_then as_str (slice_get ds n))

-- the items of a list that stands at a key
unfoldable pub items_at : List ℕ → Data → Result (List Data) ScenarioFault
items_at key d = do
  v ← shaped (get key d)
  shaped (list_in v)

-- ---- values

-- a number from low to high
unfoldable pub within : ℕ → ℕ → ℤ → Result ℕ ScenarioFault
within low high z = if int_le (pos low) z && int_le z (pos high) then Ok (natural z) else Err OutOfRange

-- what there is, or OutOfRange
abbrev pub known : {A : Type 0} → Option A → Result A ScenarioFault
known (Some x) = Ok x
known None = Err OutOfRange

-- the value that a number of one byte reports
abbrev pub numbered : {A : Type 0} → (ℕ → Option A) → ℤ → Result A ScenarioFault
numbered value z = within 0 255 z >>= λ n. known (value n)

-- the bytes of a hex text
abbrev pub hex_bytes : Result (List ℕ) FromHexError → Result (List ℕ) ScenarioFault
hex_bytes (Ok bytes) = Ok bytes
hex_bytes (Err fault) = Err BadHex

-- the 1 to 104 bytes of a telegram, in hex
unfoldable pub bytes_in : List ℕ → Result (List ℕ) ScenarioFault
bytes_in text = do
  bytes ← hex_bytes (decode_of text)
  _ ← given (nat_le 1 (length bytes) && nat_le (length bytes) telegram_bytes) OutOfRange
  Ok bytes
