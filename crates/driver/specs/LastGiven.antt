-- The driver's data in words of the entries of a life: the value is the last one that was given, and it is valid since
-- it was given or confirmed, until a mode makes it invalid (this project's profile).
use Rattle.std.specs.Prelude.{◌≡◌, ◌⊎◌, ◌↔◌, Bool, true, false, List, ◌∷◌, ◌++◌, Some, None, IsTrue}
use Rattle.std.specs.List.{list_any}
use Rattle.driver.specs.declared.action.Action.TheVariants.{Override}
use Rattle.driver.specs.declared.datum.Datum.{Datum}
use Rattle.driver.specs.declared.occasion.Occasion.{Occasion}
use Rattle.driver.specs.Data.{is_valid, is_known, value_of}
use Rattle.driver.specs.Entries.{DriverEntry, after_all}
use Rattle.driver.specs.Entries.DriverEntry.{Did, ModeEntered}
use Rattle.driver.specs.Known.{override_after}
use Rattle.driver.specs.Description.{ItemReport, datum_after, gives, confirms, ends}
use Rattle.driver.specs.Description.ItemReport.{Gives}
use Rattle.mode_table.specs.declared.statuses.Fate.{Fate}
use Rattle.mode_table.specs.declared.statuses.Fate.TheVariants as fate
use Rattle.mode_table.specs.declared.statuses.Item.TheVariants as item
use Rattle.mode_table.specs.Statuses.{status_on}

-- ---- the value

abbrev pub none_gives : {A : Type 0} → (DriverEntry → ItemReport A) → List DriverEntry → Type 0
none_gives reported entries = list_any (λ entry. gives (reported entry)) entries ≡ false

-- an entry gave this value, and none later gave one
pub record WasGiven {A : Type 0} (reported : DriverEntry → ItemReport A) (entries : List DriverEntry) (value : A) : Type 0 where
  pub entry : DriverEntry
  pub later : List DriverEntry
  pub earlier : List DriverEntry
  pub in_turn : entries ≡ later ++ entry ∷ earlier
  pub gives_it : reported entry ≡ Gives value
  pub none_later : none_gives reported later

-- or it was kept as the life began, and none was given in it
abbrev pub HasValue : {A : Type 0} → (DriverEntry → ItemReport A) → Datum A → List DriverEntry → A → Type 0
HasValue reported kept entries value = WasGiven reported entries value ⊎ (none_gives reported entries × (value_of kept ≡ Some value))

-- the value of a datum is the last one that was given
abbrev pub ValueSo : {A : Type 0} → (DriverEntry → ItemReport A) → Type 0
ValueSo {A} reported = (kept : Datum A) (entries : List DriverEntry) (value : A) →
    (value_of (datum_after reported kept entries) ≡ Some value) ↔ HasValue reported kept entries value

-- ---- whether it is valid

abbrev pub none_ends : {A : Type 0} → (DriverEntry → ItemReport A) → List DriverEntry → Type 0
none_ends reported entries = list_any (λ entry. ends (reported entry)) entries ≡ false

-- an entry gave it, or confirmed it while it had a value, and no mode has made it invalid since
pub record WasMadeValid {A : Type 0} (reported : DriverEntry → ItemReport A) (kept : Datum A) (entries : List DriverEntry) : Type 0 where
  pub entry : DriverEntry
  pub later : List DriverEntry
  pub earlier : List DriverEntry
  pub in_turn : entries ≡ later ++ entry ∷ earlier
  pub made_so : IsTrue (gives (reported entry)) ⊎ (IsTrue (confirms (reported entry)) × ((value : A) × HasValue reported kept earlier value))
  pub none_since : none_ends reported later

-- a datum is valid where it was made so, or was as the life began and no mode has made it invalid
abbrev pub ValidSo : {A : Type 0} → (DriverEntry → ItemReport A) → Type 0
ValidSo {A} reported = (kept : Datum A) (entries : List DriverEntry) →
    IsTrue (is_valid (datum_after reported kept entries)) ↔ (WasMadeValid reported kept entries ⊎ (none_ends reported entries × IsTrue (is_valid kept)))

-- ---- nothing is lost in a life

-- what is known stays known, whatever comes later
abbrev pub StaysKnown : {A : Type 0} → (DriverEntry → ItemReport A) → Type 0
StaysKnown {A} reported = (kept : Datum A) (later earlier : List DriverEntry) →
    IsTrue (is_known (datum_after reported kept earlier)) → IsTrue (is_known (datum_after reported kept (later ++ earlier)))

-- what is valid stays so
abbrev pub StaysValid : {A : Type 0} → (DriverEntry → ItemReport A) → Type 0
StaysValid {A} reported = (kept : Datum A) (later earlier : List DriverEntry) →
    IsTrue (is_valid (datum_after reported kept earlier)) → IsTrue (is_valid (datum_after reported kept (later ++ earlier)))

-- ---- the override

abbrev pub is_deleted : Fate → Bool
is_deleted fate.Deleted = true
is_deleted fate = false

-- another override, or a mode that deletes it
abbrev pub ends_override : DriverEntry → Bool
ends_override (Did Override occasion) = true
ends_override (ModeEntered mode) = is_deleted (status_on item.Override mode)
ends_override entry = false

-- an override was accepted on this occasion, and nothing has ended it since
pub record WasOverridden (entries : List DriverEntry) (occasion : Occasion) : Type 0 where
  pub later : List DriverEntry
  pub earlier : List DriverEntry
  pub in_turn : entries ≡ later ++ Did Override occasion ∷ earlier
  pub none_since : list_any ends_override later ≡ false

abbrev pub OverriddenSo : Type 0
OverriddenSo = (entries : List DriverEntry) (occasion : Occasion) →
    (after_all override_after None entries ≡ Some occasion) ↔ WasOverridden entries occasion
