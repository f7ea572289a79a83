-- What is stored answers the end now.
use Rattle.std.proofs.Common.{◌≡◌, ℕ, ℤ, List, [], ◌∷◌, Bool, true, false, cond, refl, ap, ◌∙◌, ◌⊎◌, inl, inr}
use Rattle.std.specs.Prelude.{not, filter, find, ◌&&◌, if◌then◌else◌, Option, Some, None, option_map, unwrap_or}
use Rattle.std.specs.Option.{option_or}
use Rattle.std.proofs.lemmas.Bool.{cases_Bool}
use Rattle.vars.specs.declared.scale.Scale.{Scale}
use Rattle.packets.specs.declared.authority.EndTimer.{EndTimer}
use Rattle.packets.specs.declared.authority.Overlap.{Overlap}
use Rattle.authority.specs.declared.answers.End.{End}
use Rattle.authority.specs.declared.timers.TimedSection.{TimedSection}
use Rattle.authority.specs.declared.stored.Stored.{Stored}
use Rattle.authority.specs.Timers.{has_run_out}
use Rattle.authority.specs.Entries.{Fact, Sight}
use Rattle.authority.specs.Track.{timed_sections, end_entry, reported_end}
use Rattle.authority.specs.Authority.{was_stopped, end_timer_has_run_out, taken_back, speed_at_end, danger_point_of, overlap_in_force, bare_end, supervised, end_with, end_by, end_now}
use Rattle.authority.specs.Known.{end_timer_of, overlap_of, stored_of}
use Rattle.authority.specs.Steps.{is_over_in, taken_back_in, overlap_in, reported_in, end_by_stored, end_in}

find_left : {X : Type 0} (p q : X → Bool) (xs : List X) → find p (filter (λ x. not (q x)) xs) ≡ find (λ x. p x && not (q x)) xs
find_left p q [] = refl
find_left p q (x ∷ xs) =
    let cases : (p x ≡ true) ⊎ (p x ≡ false) = cases_Bool (p x) in
    let rest = find_left p q xs in
    elim (q x) as (λ b. find p (cond (not b) (x ∷ filter (λ x. not (q x)) xs) (filter (λ x. not (q x)) xs)) ≡ cond (p x && not b) (Some x) (find (λ x. p x && not (q x)) xs)) [
      | true ↦ elim cases [ inl e ↦ rw e rest | inr e ↦ rw e rest ]
      | false ↦ elim cases [ inl e ↦ rw e refl | inr e ↦ rw e rest ]
    ]

timer_is : (end : ℤ) (scale : Scale) (now : ℕ) (seen : List Sight) (timer : Option EndTimer) →
    is_over_in now (option_map (end_timer_of end scale seen) timer) ≡ end_timer_has_run_out end scale now seen timer
timer_is end scale now seen None = refl
timer_is end scale now seen (Some timer) = refl

taken_is : (fact : Fact) (now : ℕ) (seen : List Sight) → taken_back_in now (stored_of fact seen) ≡ taken_back fact now seen
taken_is fact now seen =
    let first = find_left (λ (section : TimedSection). has_run_out section.time fact.moment now) (was_stopped fact.moment seen) (timed_sections fact) in
    let timer = timer_is (reported_end fact) fact.packet.scale now seen fact.packet.end_timer in
    (λ i. option_or (option_map (λ (section : TimedSection). section.entry) (first i)) (if timer i then Some (end_entry fact) else None))

overlap_is : (end : ℤ) (scale : Scale) (now : ℕ) (seen : List Sight) (overlap : Option Overlap) →
    overlap_in now (option_map (overlap_of end scale seen) overlap) ≡ overlap_in_force end scale now seen overlap
overlap_is end scale now seen None = refl
overlap_is end scale now seen (Some overlap) = refl

reported_is : (fact : Fact) (now : ℕ) (seen : List Sight) →
    reported_in now (stored_of fact seen) ≡ end_with (reported_end fact) (speed_at_end fact now) (supervised fact now seen)
reported_is fact now seen =
    let overlap = overlap_is (reported_end fact) fact.packet.scale now seen fact.packet.overlap in
    (λ i. end_with (reported_end fact) (speed_at_end fact now)
    (unwrap_or (option_or (overlap i) (option_map (danger_point_of (reported_end fact) fact.packet.scale) fact.packet.danger_point)) (bare_end (reported_end fact))))

by_is : (fact : Fact) (now : ℕ) (seen : List Sight) (place : Option ℤ) → end_by_stored now (stored_of fact seen) place ≡ end_by fact now seen place
by_is fact now seen None = reported_is fact now seen
by_is fact now seen (Some place) = refl

pub end_is : (fact : Fact) (now : ℕ) (seen : List Sight) → end_in now (stored_of fact seen) ≡ end_now fact now seen
end_is fact now seen =
    ap (end_by_stored now (stored_of fact seen)) (taken_is fact now seen) ∙ by_is fact now seen (taken_back fact now seen)

-- what is answered, where an authority is stored
pub answer_is : (stored : Option Stored) (some : Stored) (answer : End) (moment now : ℕ) (seen : List Sight) (o : Option Fact) →
    stored ≡ Some some → stored ≡ option_map (λ fact. stored_of fact seen) o → moment ≡ now → answer ≡ end_in moment some →
    Some answer ≡ option_map (λ fact. end_now fact now seen) o
answer_is stored some answer moment now seen None is e m a = absurd (cc)
answer_is stored some answer moment now seen (Some fact) is e m a =
    let same : some ≡ stored_of fact seen = cc in
    ap Some (a ∙ (λ i. end_in (m i) (same i)) ∙ end_is fact now seen)
