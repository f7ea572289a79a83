-- The override, as the relation over the entries says it.
use Rattle.std.proofs.Common.{◌≡◌, List, [], ◌∷◌, ◌++◌, true, false, refl, ap, inl, inr, ◌⊎◌}
use Rattle.std.specs.Prelude.{Option, Some, None}
use Rattle.std.specs.List.{list_any}
use Rattle.std.proofs.lemmas.Bool.{or_parts}
use Rattle.driver.specs.declared.action.Action.TheVariants.{Override}
use Rattle.driver.specs.declared.occasion.Occasion.{Occasion}
use Rattle.driver.specs.Entries.{DriverEntry, after_all}
use Rattle.driver.specs.Entries.DriverEntry.{Did, ModeEntered}
use Rattle.driver.specs.Known.{override_after}
use Rattle.driver.specs.LastGiven.{ends_override, WasOverridden, OverriddenSo}
use Rattle.mode_table.specs.declared.mode.Mode.TheVariants.{StaffResponsible}

-- ---- one entry

by_override : (entry : DriverEntry) (before : Option Occasion) (occasion : Occasion) → override_after entry before ≡ Some occasion →
    (entry ≡ Did Override occasion) ⊎ ((ends_override entry ≡ false) × (before ≡ Some occasion))
by_override (Did Override other) before occasion h = inl (let same : other ≡ occasion = cc in ap (λ (o : Occasion). Did Override o) same)
by_override (ModeEntered StaffResponsible) before occasion h = inr (refl, h)
by_override (ModeEntered mode) before occasion h = absurd (cc)
by_override entry before occasion h = inr (refl, h)

past_override : (entry : DriverEntry) (before : Option Occasion) (occasion : Occasion) → ends_override entry ≡ false → before ≡ Some occasion →
    override_after entry before ≡ Some occasion
past_override (Did Override other) before occasion e h = absurd (let no : true ≡ false = e in cc)
past_override (ModeEntered StaffResponsible) before occasion e h = h
past_override (ModeEntered mode) before occasion e h = absurd (let no : true ≡ false = e in cc)
past_override entry before occasion e h = h

-- ---- all entries

after_entry : (entry : DriverEntry) (entries : List DriverEntry) (occasion : Occasion) → ends_override entry ≡ false → WasOverridden entries occasion →
    WasOverridden (entry ∷ entries) occasion
after_entry entry entries occasion h was = record {
  later = entry ∷ was.later;
  earlier = was.earlier;
  in_turn = ap (λ (es : List DriverEntry). entry ∷ es) was.in_turn;
  none_since = rw h was.none_since;
}

overridden : (entries : List DriverEntry) (occasion : Occasion) → after_all override_after None entries ≡ Some occasion → WasOverridden entries occasion
overridden [] occasion h = absurd (cc)
overridden (entry ∷ entries) occasion h =
    elim (by_override entry (after_all override_after None entries) occasion h) [
      | inl now ↦ record { later = []; earlier = entries; in_turn = ap (λ (e : DriverEntry). e ∷ entries) now; none_since = refl }
      | inr before ↦ after_entry entry entries occasion before.0 (overridden entries occasion before.1)
    ]

still : (later earlier : List DriverEntry) (occasion : Occasion) → list_any ends_override later ≡ false →
    after_all override_after None (later ++ Did Override occasion ∷ earlier) ≡ Some occasion
still [] earlier occasion n = refl
still (entry ∷ later) earlier occasion n =
    let parts = or_parts (ends_override entry) (list_any ends_override later) n in
    past_override entry (after_all override_after None (later ++ Did Override occasion ∷ earlier)) occasion parts.0 (still later earlier occasion parts.1)

pub overridden_so : OverriddenSo
overridden_so entries occasion = (overridden entries occasion, λ was. rw was.in_turn (still was.later was.earlier occasion was.none_since))
