-- The trip that is outstanding, as the relation over the entries says it.
use Rattle.std.proofs.Common.{◌≡◌, List, [], ◌∷◌, ◌++◌, Bool, true, false, refl, ap, subst, append-nil, inl, inr, ◌⊎◌}
use Rattle.std.proofs.lemmas.Bool.{or_parts}
use Rattle.driver.specs.declared.action.Action.{Action}
use Rattle.driver.specs.declared.action.Action.TheVariants.{Acknowledge}
use Rattle.driver.specs.declared.action.Acknowledged.TheVariants as acknowledge
use Rattle.driver.specs.declared.occasion.Occasion.{Occasion}
use Rattle.driver.specs.Entries.{DriverEntry, after_all, is_deed, did}
use Rattle.driver.specs.Entries.DriverEntry.{Did, LevelEntered, ModeEntered}
use Rattle.driver.specs.Known.{trip_after}
use Rattle.driver.specs.Laws.{IsOutstanding, OutstandingSo, acknowledges_trip}
use Rattle.mode_table.specs.declared.mode.Mode.{Mode}
use Rattle.mode_table.specs.declared.mode.Mode.TheVariants.{Trip}

-- ---- one entry

by_action : (action : Action) (occasion : Occasion) (before : Bool) → trip_after (Did action occasion) before ≡ true →
    (acknowledges_trip action ≡ false) × (before ≡ true)
by_action (Acknowledge acknowledge.Trip) occasion before h = absurd (let no : false ≡ true = h in cc)
by_action action occasion before h = (refl, h)

by_mode : (mode : Mode) (before : Bool) → trip_after (ModeEntered mode) before ≡ true → (mode ≡ Trip) ⊎ (before ≡ true)
by_mode Trip before h = inl refl
by_mode mode before h = inr h

past_action : (action : Action) (occasion : Occasion) (before : Bool) → acknowledges_trip action ≡ false → before ≡ true →
    trip_after (Did action occasion) before ≡ true
past_action (Acknowledge acknowledge.Trip) occasion before n h = absurd (let no : true ≡ false = n in cc)
past_action action occasion before n h = h

past_mode : (mode : Mode) (before : Bool) → before ≡ true → trip_after (ModeEntered mode) before ≡ true
past_mode Trip before h = refl
past_mode mode before h = h

-- ---- all entries

after_entry : (kept : Bool) (entry : DriverEntry) (entries : List DriverEntry) → is_deed acknowledges_trip entry ≡ false → IsOutstanding kept entries →
    IsOutstanding kept (entry ∷ entries)
after_entry kept entry entries h (inl tripped) = inl (record {
  later = entry ∷ tripped.later;
  earlier = tripped.earlier;
  in_turn = ap (λ (es : List DriverEntry). entry ∷ es) tripped.in_turn;
  not_since = rw h tripped.not_since;
})
after_entry kept entry entries h (inr was) = inr (was.0, rw h was.1)

outstanding : (kept : Bool) (entries : List DriverEntry) → after_all trip_after kept entries ≡ true → IsOutstanding kept entries
outstanding kept [] h = inr (h, refl)
outstanding kept (Did action occasion ∷ entries) h =
    let parts = by_action action occasion (after_all trip_after kept entries) h in
    after_entry kept (Did action occasion) entries parts.0 (outstanding kept entries parts.1)
outstanding kept (LevelEntered level ∷ entries) h = after_entry kept (LevelEntered level) entries refl (outstanding kept entries h)
outstanding kept (ModeEntered mode ∷ entries) h =
    elim (by_mode mode (after_all trip_after kept entries) h) [
      | inl trip ↦ inl (record { later = []; earlier = entries; in_turn = ap (λ (m : Mode). ModeEntered m ∷ entries) trip; not_since = refl })
      | inr before ↦ after_entry kept (ModeEntered mode) entries refl (outstanding kept entries before)
    ]

still : (kept : Bool) (later rest : List DriverEntry) → after_all trip_after kept rest ≡ true → did acknowledges_trip later ≡ false →
    after_all trip_after kept (later ++ rest) ≡ true
still kept [] rest h n = h
still kept (Did action occasion ∷ later) rest h n =
    let parts = or_parts (acknowledges_trip action) (did acknowledges_trip later) n in
    past_action action occasion (after_all trip_after kept (later ++ rest)) parts.0 (still kept later rest h parts.1)
still kept (LevelEntered level ∷ later) rest h n = still kept later rest h n
still kept (ModeEntered mode ∷ later) rest h n = past_mode mode (after_all trip_after kept (later ++ rest)) (still kept later rest h n)

was_so : (kept : Bool) (entries : List DriverEntry) → IsOutstanding kept entries → after_all trip_after kept entries ≡ true
was_so kept entries (inl tripped) = rw tripped.in_turn (still kept tripped.later (ModeEntered Trip ∷ tripped.earlier) refl tripped.not_since)
was_so kept entries (inr was) =
    subst (λ (es : List DriverEntry). after_all trip_after kept es ≡ true) (append-nil entries) (still kept entries [] was.0 was.1)

pub outstanding_so : OutstandingSo
outstanding_so kept entries = (outstanding kept entries, was_so kept entries)
