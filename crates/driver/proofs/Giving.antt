-- The value of a datum is the last one that was given.
use Rattle.std.proofs.Common.{◌≡◌, List, [], ◌∷◌, ◌++◌, true, false, refl, ap, subst, append-nil, inl, inr, ◌⊎◌}
use Rattle.std.specs.Prelude.{Some}
use Rattle.std.specs.List.{list_any}
use Rattle.std.proofs.lemmas.Bool.{or_parts}
use Rattle.driver.specs.declared.datum.Datum.{Datum}
use Rattle.driver.specs.declared.datum.Datum.TheVariants.{Unknown, Valid, Invalid}
use Rattle.driver.specs.Data.{value_of}
use Rattle.driver.specs.Entries.{DriverEntry}
use Rattle.driver.specs.LastGiven.{none_gives, HasValue, ValueSo}
use Rattle.driver.specs.Description.{ItemReport, after_reported, datum_after, gives, deletes}
use Rattle.driver.specs.Description.ItemReport.{Gives, Confirms, Leaves, Nothing}
use Rattle.mode_table.specs.declared.statuses.Fate.TheVariants.{Kept as K, Invalid as I, Deleted as D}

-- ---- one entry

by_value : {A : Type 0} (reported : ItemReport A) (before : Datum A) (value : A) → deletes reported ≡ false → value_of (after_reported reported before) ≡ Some value →
    (reported ≡ Gives value) ⊎ ((gives reported ≡ false) × (value_of before ≡ Some value))
by_value (Gives other) before value d h = inl (let same : other ≡ value = cc in ap Gives same)
by_value Confirms Unknown value d h = inr (refl, h)
by_value Confirms (Valid other) value d h = inr (refl, h)
by_value Confirms (Invalid other) value d h = inr (refl, h)
by_value (Leaves K) before value d h = inr (refl, h)
by_value (Leaves I) Unknown value d h = inr (refl, h)
by_value (Leaves I) (Valid other) value d h = inr (refl, h)
by_value (Leaves I) (Invalid other) value d h = inr (refl, h)
by_value (Leaves D) before value d h = absurd (let no : true ≡ false = d in cc)
by_value Nothing before value d h = inr (refl, h)

past_value : {A : Type 0} (reported : ItemReport A) (before : Datum A) (value : A) → deletes reported ≡ false → gives reported ≡ false →
    value_of before ≡ Some value → value_of (after_reported reported before) ≡ Some value
past_value (Gives other) before value d g h = absurd (let no : true ≡ false = g in cc)
past_value Confirms Unknown value d g h = h
past_value Confirms (Valid other) value d g h = h
past_value Confirms (Invalid other) value d g h = h
past_value (Leaves K) before value d g h = h
past_value (Leaves I) Unknown value d g h = h
past_value (Leaves I) (Valid other) value d g h = h
past_value (Leaves I) (Invalid other) value d g h = h
past_value (Leaves D) before value d g h = absurd (let no : true ≡ false = d in cc)
past_value Nothing before value d g h = h

-- ---- all entries

after_entry : {A : Type 0} (reported : DriverEntry → ItemReport A) (kept : Datum A) (entry : DriverEntry) (entries : List DriverEntry) (value : A) → gives (reported entry) ≡ false →
    HasValue reported kept entries value → HasValue reported kept (entry ∷ entries) value
after_entry reported kept entry entries value h (inl given) = inl (record {
  entry = given.entry;
  later = entry ∷ given.later;
  earlier = given.earlier;
  in_turn = ap (λ (es : List DriverEntry). entry ∷ es) given.in_turn;
  gives_it = given.gives_it;
  none_later = rw h given.none_later;
})
after_entry reported kept entry entries value h (inr was) = inr (rw h was.0, was.1)

pub has_value : {A : Type 0} (reported : DriverEntry → ItemReport A) → ((entry : DriverEntry) → deletes (reported entry) ≡ false) → (kept : Datum A) (entries : List DriverEntry) (value : A) →
    value_of (datum_after reported kept entries) ≡ Some value → HasValue reported kept entries value
has_value reported never kept [] value h = inr (refl, h)
has_value reported never kept (entry ∷ entries) value h =
    elim (by_value (reported entry) (datum_after reported kept entries) value (never entry) h) [
      | inl now ↦ inl (record { entry = entry; later = []; earlier = entries; in_turn = refl; gives_it = now; none_later = refl })
      | inr before ↦ after_entry reported kept entry entries value before.0 (has_value reported never kept entries value before.1)
    ]

still : {A : Type 0} (reported : DriverEntry → ItemReport A) → ((entry : DriverEntry) → deletes (reported entry) ≡ false) → (kept : Datum A) (later rest : List DriverEntry) (value : A) →
    value_of (datum_after reported kept rest) ≡ Some value → none_gives reported later → value_of (datum_after reported kept (later ++ rest)) ≡ Some value
still reported never kept [] rest value h n = h
still reported never kept (entry ∷ later) rest value h n =
    let parts = or_parts (gives (reported entry)) (list_any (λ (e : DriverEntry). gives (reported e)) later) n in
    past_value (reported entry) (datum_after reported kept (later ++ rest)) value (never entry) parts.0 (still reported never kept later rest value h parts.1)

now_given : {A : Type 0} (reported : ItemReport A) (before : Datum A) (value : A) → reported ≡ Gives value → value_of (after_reported reported before) ≡ Some value
now_given reported before value h = rw h refl

pub had_value : {A : Type 0} (reported : DriverEntry → ItemReport A) → ((entry : DriverEntry) → deletes (reported entry) ≡ false) → (kept : Datum A) (entries : List DriverEntry) (value : A) →
    HasValue reported kept entries value → value_of (datum_after reported kept entries) ≡ Some value
had_value reported never kept entries value (inl given) =
    rw given.in_turn (still reported never kept given.later (given.entry ∷ given.earlier) value
    (now_given (reported given.entry) (datum_after reported kept given.earlier) value given.gives_it) given.none_later)
had_value reported never kept entries value (inr was) =
    subst (λ (es : List DriverEntry). value_of (datum_after reported kept es) ≡ Some value) (append-nil entries) (still reported never kept entries [] value was.1 was.0)

pub value_so : {A : Type 0} (reported : DriverEntry → ItemReport A) → ((entry : DriverEntry) → deletes (reported entry) ≡ false) → ValueSo reported
value_so reported never kept entries value = (has_value reported never kept entries value, had_value reported never kept entries value)
