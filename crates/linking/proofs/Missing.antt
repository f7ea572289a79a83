-- What missed announcements ask for, one after another.
use Rattle.std.proofs.Common.{◌≡◌, ℕ, suc, ◌+◌, List, [], ◌∷◌, length, Bool, true, false, cond, refl, ap, sym, ◌∙◌, arith}
use Rattle.std.specs.Prelude.{filter, ◌||◌, nat_le, if◌then◌else◌}
use Rattle.std.specs.Int.{from_bool}
use Rattle.std.specs.List.{list_any}
use Rattle.std.proofs.lemmas.Bool.Decides.{nat_tests}
use Rattle.linking.specs.declared.announcement.Announcement.{Announcement}
use Rattle.linking.specs.declared.effect.Effect.{Effect}
use Rattle.linking.specs.Linking.{combined_with, no_effect, service, effect_of, misses, reactions}

-- one that is missed, where another was missed before or not
abbrev pub miss : Bool → Announcement → Effect
miss has_missed a = combined_with (effect_of a.reaction) (if has_missed then service else no_effect)

-- what was asked for so far, and what the rest of the announcements make of it
abbrev pub counted : (Announcement → Bool) → Bool → Effect → List Announcement → Effect
counted is_missed has_missed effect [] = effect
counted is_missed has_missed effect (a ∷ announcements) =
    counted is_missed (cond (is_missed a) true has_missed) (cond (is_missed a) (combined_with effect (miss has_missed a)) effect) announcements

or_assoc : (a b c : Bool) → ((a || b) || c) ≡ (a || (b || c))
or_assoc true b c = refl
or_assoc false b c = refl

or-false : (b : Bool) → b ≡ (b || false)
or-false true = refl
or-false false = refl

both_assoc : (e f g : Effect) → combined_with (combined_with e f) g ≡ combined_with e (combined_with f g)
both_assoc e f g = λ i. record { trip = or_assoc e.trip f.trip g.trip i; service = or_assoc e.service f.service g.service i }

combined_with-none : (e : Effect) → e ≡ combined_with e no_effect
combined_with-none e = λ i. record { trip = or-false e.trip i; service = or-false e.service i }

or-true : (b : Bool) → (b || true) ≡ true
or-true true = refl
or-true false = refl

no_trip : (b : Bool) → (if b then service else no_effect).trip ≡ false
no_trip true = refl
no_trip false = refl

is_service : (b : Bool) → (if b then service else no_effect).service ≡ b
is_service true = refl
is_service false = refl

trip_first : (a b m c d : Bool) → ((a || (if m then service else no_effect).trip) || (b || (if c then service else no_effect).trip))
    ≡ ((a || b) || (if d then service else no_effect).trip)
trip_first a b m c d =
    (λ i. (a || no_trip m i) || (b || no_trip c i)) ∙ (λ i. sym (or-false a) i || sym (or-false b) i) ∙ or-false (a || b)
    ∙ (λ i. (a || b) || sym (no_trip d) i)

one_more : (n : ℕ) → true ≡ nat_le 2 (1 + suc n)
one_more n = grind (arith, nat_tests)

second_counted : (a b m : Bool) (n : ℕ) → ((a || m) || (b || nat_le 2 (1 + n))) ≡ ((a || b) || nat_le 2 (from_bool m + suc n))
second_counted true b m n = refl
second_counted false true m n = or-true m
second_counted false false true n = one_more n
second_counted false false false n = ap (nat_le 2) (omega arith)

service_first : (a b m : Bool) (n : ℕ) →
    ((a || (if m then service else no_effect).service) || (b || (if nat_le 2 (1 + n) then service else no_effect).service))
    ≡ ((a || b) || (if nat_le 2 (from_bool m + suc n) then service else no_effect).service)
service_first a b m n =
    (λ i. (a || is_service m i) || (b || is_service (nat_le 2 (1 + n)) i)) ∙ second_counted a b m n
    ∙ (λ i. (a || b) || sym (is_service (nat_le 2 (from_bool m + suc n))) i)

-- the first of those that are missed, and the others
first_and_others : (m : Bool) (a : Announcement) (announcements : List Announcement) →
    combined_with (miss m a) (misses true announcements) ≡ misses m (a ∷ announcements)
first_and_others m a announcements =
    let others = reactions announcements in
    λ i. record {
      trip = trip_first (effect_of a.reaction).trip others.trip m (nat_le 2 (1 + length announcements)) (nat_le 2 (from_bool m + suc (length announcements))) i;
      service = service_first (effect_of a.reaction).service others.service m (length announcements) i;
    }

pub none_missed : (m : Bool) → no_effect ≡ misses m []
none_missed true = refl
none_missed false = refl

counted_both : (is_missed : Announcement → Bool) (m : Bool) (effect : Effect) (announcements : List Announcement) →
    counted is_missed m effect announcements ≡ combined_with effect (misses m (filter is_missed announcements))
counted_both is_missed m effect [] = combined_with-none effect ∙ ap (combined_with effect) (none_missed m)
counted_both is_missed m effect (a ∷ announcements) =
    let cases : (b : Bool) → counted is_missed (cond b true m) (cond b (combined_with effect (miss m a)) effect) announcements
    ≡ combined_with effect (misses m (cond b (a ∷ filter is_missed announcements) (filter is_missed announcements))) =
    elim [
      | true ↦ counted_both is_missed true (combined_with effect (miss m a)) announcements
          ∙ both_assoc effect (miss m a) (misses true (filter is_missed announcements))
          ∙ ap (combined_with effect) (first_and_others m a (filter is_missed announcements))
      | false ↦ counted_both is_missed m effect announcements
    ] in
    cases (is_missed a)

pub counted_is : (is_missed : Announcement → Bool) (m : Bool) (announcements : List Announcement) →
    counted is_missed m no_effect announcements ≡ misses m (filter is_missed announcements)
counted_is is_missed m announcements = counted_both is_missed m no_effect announcements

-- where none is missed
pub none_of : (is_missed : Announcement → Bool) (announcements : List Announcement) → list_any is_missed announcements ≡ false →
    filter is_missed announcements ≡ []
none_of is_missed [] none = refl
none_of is_missed (a ∷ announcements) none =
    let cases : (b : Bool) → (b || list_any is_missed announcements) ≡ false →
    cond b (a ∷ filter is_missed announcements) (filter is_missed announcements) ≡ [] =
    elim [
      | true ↦ λ some. absurd (cc some)
      | false ↦ λ rest. none_of is_missed announcements rest
    ] in
    cases (is_missed a) none
