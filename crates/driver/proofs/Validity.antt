-- A datum is valid since it was given or confirmed, until a mode makes it invalid.
use Rattle.std.proofs.Common.{◌≡◌, List, [], ◌∷◌, ◌++◌, true, false, refl, ap, subst, append-nil, inl, inr, ◌⊎◌}
use Rattle.std.specs.Prelude.{Some}
use Rattle.std.specs.List.{list_any}
use Rattle.std.proofs.lemmas.Bool.{or_parts}
use Rattle.driver.specs.declared.datum.Datum.{Datum}
use Rattle.driver.specs.declared.datum.Datum.TheVariants.{Unknown, Valid, Invalid}
use Rattle.driver.specs.Data.{is_valid, is_known, value_of}
use Rattle.driver.specs.Entries.{DriverEntry}
use Rattle.driver.specs.LastGiven.{none_ends, HasValue, WasMadeValid, ValidSo, StaysKnown, StaysValid}
use Rattle.driver.specs.Description.{ItemReport, after_reported, datum_after, gives, confirms, ends, deletes}
use Rattle.driver.specs.Description.ItemReport.{Gives, Confirms, Leaves, Nothing}
use Rattle.driver.proofs.Giving.{has_value, had_value}
use Rattle.mode_table.specs.declared.statuses.Fate.TheVariants.{Kept as K, Invalid as I, Deleted as D}

-- ---- what is known has a value

value_in : {A : Type 0} (datum : Datum A) → is_known datum ≡ true → (value : A) × (value_of datum ≡ Some value)
value_in Unknown h = absurd (let no : false ≡ true = h in cc)
value_in (Valid value) h = (value, refl)
value_in (Invalid value) h = (value, refl)

known_by : {A : Type 0} (datum : Datum A) (value : A) → value_of datum ≡ Some value → is_known datum ≡ true
known_by Unknown value h = absurd (cc)
known_by (Valid other) value h = refl
known_by (Invalid other) value h = refl

-- ---- one entry

by_valid : {A : Type 0} (reported : ItemReport A) (before : Datum A) → is_valid (after_reported reported before) ≡ true →
    ((gives reported ≡ true) ⊎ ((confirms reported ≡ true) × (is_known before ≡ true))) ⊎ ((ends reported ≡ false) × (is_valid before ≡ true))
by_valid (Gives value) before h = inl (inl refl)
by_valid Confirms Unknown h = absurd (let no : false ≡ true = h in cc)
by_valid Confirms (Valid value) h = inl (inr (refl, refl))
by_valid Confirms (Invalid value) h = inl (inr (refl, refl))
by_valid (Leaves K) before h = inr (refl, h)
by_valid (Leaves I) Unknown h = absurd (let no : false ≡ true = h in cc)
by_valid (Leaves I) (Valid value) h = absurd (let no : false ≡ true = h in cc)
by_valid (Leaves I) (Invalid value) h = absurd (let no : false ≡ true = h in cc)
by_valid (Leaves D) before h = absurd (let no : false ≡ true = h in cc)
by_valid Nothing before h = inr (refl, h)

past_valid : {A : Type 0} (reported : ItemReport A) (before : Datum A) → ends reported ≡ false → is_valid before ≡ true → is_valid (after_reported reported before) ≡ true
past_valid (Gives value) before e h = refl
past_valid Confirms Unknown e h = h
past_valid Confirms (Valid value) e h = refl
past_valid Confirms (Invalid value) e h = refl
past_valid (Leaves K) before e h = h
past_valid (Leaves I) before e h = absurd (let no : true ≡ false = e in cc)
past_valid (Leaves D) before e h = absurd (let no : true ≡ false = e in cc)
past_valid Nothing before e h = h

past_known : {A : Type 0} (reported : ItemReport A) (before : Datum A) → deletes reported ≡ false → is_known before ≡ true → is_known (after_reported reported before) ≡ true
past_known (Gives value) before d h = refl
past_known Confirms Unknown d h = h
past_known Confirms (Valid value) d h = refl
past_known Confirms (Invalid value) d h = refl
past_known (Leaves K) before d h = h
past_known (Leaves I) Unknown d h = h
past_known (Leaves I) (Valid value) d h = refl
past_known (Leaves I) (Invalid value) d h = refl
past_known (Leaves D) before d h = absurd (let no : true ≡ false = d in cc)
past_known Nothing before d h = h

made_valid : {A : Type 0} (reported : ItemReport A) (before : Datum A) → (gives reported ≡ true) ⊎ ((confirms reported ≡ true) × (is_known before ≡ true)) →
    is_valid (after_reported reported before) ≡ true
made_valid (Gives value) before h = refl
made_valid Confirms Unknown (inl h) = absurd (let no : false ≡ true = h in cc)
made_valid Confirms Unknown (inr h) = absurd (let no : false ≡ true = h.1 in cc)
made_valid Confirms (Valid value) h = refl
made_valid Confirms (Invalid value) h = refl
made_valid (Leaves fate) before (inl h) = absurd (let no : false ≡ true = h in cc)
made_valid (Leaves fate) before (inr h) = absurd (let no : false ≡ true = h.0 in cc)
made_valid Nothing before (inl h) = absurd (let no : false ≡ true = h in cc)
made_valid Nothing before (inr h) = absurd (let no : false ≡ true = h.0 in cc)

-- ---- all entries

after_entry : {A : Type 0} (reported : DriverEntry → ItemReport A) (kept : Datum A) (entry : DriverEntry) (entries : List DriverEntry) → ends (reported entry) ≡ false →
    WasMadeValid reported kept entries ⊎ (none_ends reported entries × (is_valid kept ≡ true)) →
    WasMadeValid reported kept (entry ∷ entries) ⊎ (none_ends reported (entry ∷ entries) × (is_valid kept ≡ true))
after_entry reported kept entry entries h (inl made) = inl (record {
  entry = made.entry;
  later = entry ∷ made.later;
  earlier = made.earlier;
  in_turn = ap (λ (es : List DriverEntry). entry ∷ es) made.in_turn;
  made_so = made.made_so;
  none_since = rw h made.none_since;
})
after_entry reported kept entry entries h (inr was) = inr (rw h was.0, was.1)

made_now : {A : Type 0} (reported : DriverEntry → ItemReport A) → ((entry : DriverEntry) → deletes (reported entry) ≡ false) → (kept : Datum A) (entry : DriverEntry) (entries : List DriverEntry) →
    (gives (reported entry) ≡ true) ⊎ ((confirms (reported entry) ≡ true) × (is_known (datum_after reported kept entries) ≡ true)) →
    WasMadeValid reported kept (entry ∷ entries)
made_now reported never kept entry entries (inl given) =
    record { entry = entry; later = []; earlier = entries; in_turn = refl; made_so = inl given; none_since = refl }
made_now reported never kept entry entries (inr again) =
    let known = value_in (datum_after reported kept entries) again.1 in
    record {
      entry = entry;
      later = [];
      earlier = entries;
      in_turn = refl;
      made_so = inr (again.0, (known.0, has_value reported never kept entries known.0 known.1));
      none_since = refl;
    }

valid : {A : Type 0} (reported : DriverEntry → ItemReport A) → ((entry : DriverEntry) → deletes (reported entry) ≡ false) → (kept : Datum A) (entries : List DriverEntry) →
    is_valid (datum_after reported kept entries) ≡ true → WasMadeValid reported kept entries ⊎ (none_ends reported entries × (is_valid kept ≡ true))
valid reported never kept [] h = inr (refl, h)
valid reported never kept (entry ∷ entries) h =
    elim (by_valid (reported entry) (datum_after reported kept entries) h) [
      | inl now ↦ inl (made_now reported never kept entry entries now)
      | inr before ↦ after_entry reported kept entry entries before.0 (valid reported never kept entries before.1)
    ]

still : {A : Type 0} (reported : DriverEntry → ItemReport A) (kept : Datum A) (later rest : List DriverEntry) →
    is_valid (datum_after reported kept rest) ≡ true → none_ends reported later → is_valid (datum_after reported kept (later ++ rest)) ≡ true
still reported kept [] rest h n = h
still reported kept (entry ∷ later) rest h n =
    let parts = or_parts (ends (reported entry)) (list_any (λ (e : DriverEntry). ends (reported e)) later) n in
    past_valid (reported entry) (datum_after reported kept (later ++ rest)) parts.0 (still reported kept later rest h parts.1)

known_then : {A : Type 0} (reported : DriverEntry → ItemReport A) → ((entry : DriverEntry) → deletes (reported entry) ≡ false) → (kept : Datum A) (entry : DriverEntry) (entries : List DriverEntry) →
    (gives (reported entry) ≡ true) ⊎ ((confirms (reported entry) ≡ true) × ((value : A) × HasValue reported kept entries value)) →
    (gives (reported entry) ≡ true) ⊎ ((confirms (reported entry) ≡ true) × (is_known (datum_after reported kept entries) ≡ true))
known_then reported never kept entry entries (inl given) = inl given
known_then reported never kept entry entries (inr again) =
    inr (again.0, known_by (datum_after reported kept entries) again.1.0 (had_value reported never kept entries again.1.0 again.1.1))

was_valid : {A : Type 0} (reported : DriverEntry → ItemReport A) → ((entry : DriverEntry) → deletes (reported entry) ≡ false) → (kept : Datum A) (entries : List DriverEntry) →
    WasMadeValid reported kept entries ⊎ (none_ends reported entries × (is_valid kept ≡ true)) → is_valid (datum_after reported kept entries) ≡ true
was_valid reported never kept entries (inl made) =
    rw made.in_turn (still reported kept made.later (made.entry ∷ made.earlier)
    (made_valid (reported made.entry) (datum_after reported kept made.earlier) (known_then reported never kept made.entry made.earlier made.made_so)) made.none_since)
was_valid reported never kept entries (inr was) =
    subst (λ (es : List DriverEntry). is_valid (datum_after reported kept es) ≡ true) (append-nil entries) (still reported kept entries [] was.1 was.0)

pub valid_so : {A : Type 0} (reported : DriverEntry → ItemReport A) → ((entry : DriverEntry) → deletes (reported entry) ≡ false) → ValidSo reported
valid_so reported never kept entries = (valid reported never kept entries, was_valid reported never kept entries)

-- ---- nothing is lost

pub stays_known : {A : Type 0} (reported : DriverEntry → ItemReport A) → ((entry : DriverEntry) → deletes (reported entry) ≡ false) → StaysKnown reported
stays_known reported never kept [] earlier h = h
stays_known reported never kept (entry ∷ later) earlier h =
    past_known (reported entry) (datum_after reported kept (later ++ earlier)) (never entry) (stays_known reported never kept later earlier h)

pub stays_valid : {A : Type 0} (reported : DriverEntry → ItemReport A) → ((entry : DriverEntry) → ends (reported entry) ≡ false) → StaysValid reported
stays_valid reported never kept [] earlier h = h
stays_valid reported never kept (entry ∷ later) earlier h =
    past_valid (reported entry) (datum_after reported kept (later ++ earlier)) (never entry) (stays_valid reported never kept later earlier h)
