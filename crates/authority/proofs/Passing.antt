-- What one more sight does to the timers.
use Rattle.std.proofs.Common.{◌≡◌, ℕ, List, [], ◌∷◌, Bool, true, false, cond, refl, ap, sym, ◌∙◌}
use Rattle.std.specs.Prelude.{not, filter, ◌||◌, Option, Some, None, option_map}
use Rattle.authority.specs.declared.timers.TimedSection.{TimedSection}
use Rattle.authority.specs.declared.stored.Stored.{Stored}
use Rattle.authority.specs.Entries.{Fact, Sight}
use Rattle.authority.specs.Track.{timed_sections, reported_end}
use Rattle.authority.specs.Authority.{was_stopped}
use Rattle.authority.specs.Known.{end_timer_of, overlap_of, stored_of}
use Rattle.authority.specs.Steps.{stops_at, passed_timer, passed_overlap, passed_stored}

filter_twice : {X : Type 0} (p q r : X → Bool) → ((x : X) → p x ≡ (r x || q x)) → (xs : List X) →
    filter (λ x. not (p x)) xs ≡ filter (λ x. not (r x)) (filter (λ x. not (q x)) xs)
filter_twice p q r h [] = refl
filter_twice p q r h (x ∷ xs) =
    rw (h x)
    (elim (q x) as (λ b. cond (not (r x || b)) (x ∷ filter (λ x. not (p x)) xs) (filter (λ x. not (p x)) xs)
    ≡ filter (λ x. not (r x)) (cond (not b) (x ∷ filter (λ x. not (q x)) xs) (filter (λ x. not (q x)) xs))) [
      | true ↦ elim (r x) as (λ a. cond (not (a || true)) (x ∷ filter (λ x. not (p x)) xs) (filter (λ x. not (p x)) xs)
          ≡ filter (λ x. not (r x)) (filter (λ x. not (q x)) xs)) [ true ↦ filter_twice p q r h xs | false ↦ filter_twice p q r h xs ]
      | false ↦ elim (r x) as (λ a. cond (not (a || false)) (x ∷ filter (λ x. not (p x)) xs) (filter (λ x. not (p x)) xs)
          ≡ cond (not a) (x ∷ filter (λ x. not (r x)) (filter (λ x. not (q x)) xs)) (filter (λ x. not (r x)) (filter (λ x. not (q x)) xs))) [
            | true ↦ filter_twice p q r h xs
            | false ↦ ap (λ ys. x ∷ ys) (filter_twice p q r h xs)
          ]
    ])

-- the sections whose timers are not stopped after one more sight
unstopped_more : (start : ℕ) (sight : Sight) (seen : List Sight) (sections : List TimedSection) →
    filter (λ section. not (was_stopped start (sight ∷ seen) section)) sections
    ≡ filter (λ section. not (stops_at start sight.moment sight.train.min_front section)) (filter (λ section. not (was_stopped start seen section)) sections)
unstopped_more start sight seen sections =
    filter_twice (was_stopped start (sight ∷ seen)) (was_stopped start seen) (stops_at start sight.moment sight.train.min_front) (λ section. refl) sections

map_more : {X Y : Type 0} (f g : X → Y) (h : Y → Y) → ((x : X) → f x ≡ h (g x)) → (o : Option X) →
    option_map f o ≡ option_map h (option_map g o)
map_more f g h e None = refl
map_more f g h e (Some x) = ap Some (e x)

pub stored_more : (fact : Fact) (sight : Sight) (seen : List Sight) →
    stored_of fact (sight ∷ seen) ≡ passed_stored sight.moment sight.train (stored_of fact seen)
stored_more fact sight seen =
    let sections = unstopped_more fact.moment sight seen (timed_sections fact) in
    let timer = map_more (end_timer_of (reported_end fact) fact.packet.scale (sight ∷ seen)) (end_timer_of (reported_end fact) fact.packet.scale seen)
    (passed_timer sight.moment sight.train.max_front) (λ x. refl) fact.packet.end_timer in
    let overlap = map_more (overlap_of (reported_end fact) fact.packet.scale (sight ∷ seen)) (overlap_of (reported_end fact) fact.packet.scale seen)
    (passed_overlap sight.moment sight.train.max_front) (λ x. refl) fact.packet.overlap in
    (λ i. record (stored_of fact seen) { timed = record { items = sections i }; end_timer = timer i; overlap = overlap i })

-- what is stored after one more sight
pub passed_is : (before after : Stored) (stored : Option Stored) (now : ℕ) (sight : Sight) (o : Option Fact) (seen : List Sight) →
    stored ≡ Some before → stored ≡ option_map (λ fact. stored_of fact seen) o → after ≡ passed_stored now sight.train before →
    now ≡ sight.moment → Some after ≡ option_map (λ fact. stored_of fact (sight ∷ seen)) o
passed_is before after stored now sight None seen is e a n = absurd (cc)
passed_is before after stored now sight (Some fact) seen is e a n =
    let same : before ≡ stored_of fact seen = cc in
    ap Some (a ∙ (λ i. passed_stored (n i) sight.train (same i)) ∙ sym (stored_more fact sight seen))

-- where no authority is stored, none is after one more sight
pub none_passed : (stored : Option Stored) (sight : Sight) (o : Option Fact) (seen : List Sight) →
    stored ≡ None → stored ≡ option_map (λ fact. stored_of fact seen) o → stored ≡ option_map (λ fact. stored_of fact (sight ∷ seen)) o
none_passed stored sight None seen is e = e
none_passed stored sight (Some fact) seen is e = absurd (cc)
