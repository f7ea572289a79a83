-- What was entered, and what becomes of it (SUBSET-026, 4.10).
use Rattle.std.specs.Prelude.{Bool, true, false, Option, Some, None}
use Rattle.driver.specs.declared.datum.Datum.{Datum}
use Rattle.driver.specs.declared.datum.Datum.TheVariants.{Unknown, Valid, Invalid}
use Rattle.mode_table.specs.declared.statuses.Fate.{Fate}
use Rattle.mode_table.specs.declared.statuses.Fate.TheVariants as fate

abbrev pub is_valid : {A : Type 0} → Datum A → Bool
is_valid Unknown = false
is_valid (Valid value) = true
is_valid (Invalid value) = false

abbrev pub is_known : {A : Type 0} → Datum A → Bool
is_known Unknown = false
is_known (Valid value) = true
is_known (Invalid value) = true

-- the value, valid or not
abbrev pub value_of : {A : Type 0} → Datum A → Option A
value_of Unknown = None
value_of (Valid value) = Some value
value_of (Invalid value) = Some value

-- what is confirmed is valid again
abbrev pub confirmed : {A : Type 0} → Datum A → Datum A
confirmed Unknown = Unknown
confirmed (Valid value) = Valid value
confirmed (Invalid value) = Valid value

-- what isn't valid any more keeps its value
abbrev pub invalidated : {A : Type 0} → Datum A → Datum A
invalidated Unknown = Unknown
invalidated (Valid value) = Invalid value
invalidated (Invalid value) = Invalid value

abbrev pub met_by : {A : Type 0} → Fate → Datum A → Datum A
met_by fate.Kept datum = datum
met_by fate.Invalid datum = invalidated datum
met_by fate.Deleted datum = Unknown
