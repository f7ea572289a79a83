-- Where the end is, by what has run out: the more, the nearer.
use Rattle.std.proofs.Common.{◌≡◌, ℕ, ℤ, ◌≤ℤ◌, List, Bool, true, false, cond, refl, arith}
use Rattle.std.specs.Prelude.{find, if◌then◌else◌, Option, Some, None, option_map, unwrap_or}
use Rattle.std.specs.Option.{option_or}
use Rattle.std.proofs.lemmas.Int.{ints}
use Rattle.authority.specs.declared.timers.TimedSection.{TimedSection}
use Rattle.authority.specs.Entries.{Fact, Sight}
use Rattle.authority.specs.Track.{timed_sections, end_entry, reported_end}
use Rattle.authority.specs.Authority.{section_has_run_out, end_timer_has_run_out, taken_back, end_by, end_now}
use Rattle.authority.proofs.Along.{first_or, first_sooner, sections_along}

abbrev pub place_by : Fact → (TimedSection → Bool) → Bool → ℤ
place_by fact test late =
    unwrap_or (option_or (option_map (λ (s : TimedSection). s.entry) (find test (timed_sections fact))) (if late then Some (end_entry fact) else None)) (reported_end fact)

abbrev pub last_place : Fact → Bool → ℤ
last_place fact late = if late then end_entry fact else reported_end fact

pub place_is : (fact : Fact) (test : TimedSection → Bool) (late : Bool) → place_by fact test late ≡ first_or test (timed_sections fact) (last_place fact late)
place_is fact test late =
    let cases : (o : Option TimedSection) (b : Bool) → unwrap_or (option_or (option_map (λ (s : TimedSection). s.entry) o) (cond b (Some (end_entry fact)) None)) (reported_end fact)
    ≡ unwrap_or (option_map (λ (s : TimedSection). s.entry) o) (cond b (end_entry fact) (reported_end fact)) =
    elim [ None ↦ elim [ true ↦ refl | false ↦ refl ] | Some s ↦ λ b. refl ] in
    cases (find test (timed_sections fact)) late

pub last_beyond : (fact : Fact) (late : Bool) → end_entry fact ≤ℤ last_place fact late
last_beyond fact true = omega (arith, ints)
last_beyond fact false = omega (arith, ints)

last_sooner : (fact : Fact) (late more : Bool) → (late ≡ true → more ≡ true) → last_place fact more ≤ℤ last_place fact late
last_sooner fact true true h = omega (arith, ints)
last_sooner fact true false h = absurd (let e : false ≡ true = h refl in cc)
last_sooner fact false true h = omega (arith, ints)
last_sooner fact false false h = omega (arith, ints)

place_sooner : (fact : Fact) (test more : TimedSection → Bool) (late later : Bool) → ((s : TimedSection) → test s ≡ true → more s ≡ true) → (late ≡ true → later ≡ true) →
    place_by fact more later ≤ℤ place_by fact test late
place_sooner fact test more late later h k =
    rw (place_is fact test late, place_is fact more later)
    (first_sooner test more fact.place (last_place fact late) (last_place fact later) (timed_sections fact) h (last_sooner fact late later k)
    (sections_along fact (last_place fact late) (last_beyond fact late)))

pub by_place : (fact : Fact) (now : ℕ) (seen : List Sight) (taken : Option ℤ) → (end_by fact now seen taken).place ≡ unwrap_or taken (reported_end fact)
by_place fact now seen None = refl
by_place fact now seen (Some place) = refl

pub now_sooner : (fact : Fact) (now later : ℕ) (seen more : List Sight) →
    ((s : TimedSection) → section_has_run_out fact.moment now seen s ≡ true → section_has_run_out fact.moment later more s ≡ true) →
    (end_timer_has_run_out (reported_end fact) fact.packet.scale now seen fact.packet.end_timer ≡ true → end_timer_has_run_out (reported_end fact) fact.packet.scale later more fact.packet.end_timer ≡ true) →
    (end_now fact later more).place ≤ℤ (end_now fact now seen).place
now_sooner fact now later seen more h k =
    rw (by_place fact now seen (taken_back fact now seen), by_place fact later more (taken_back fact later more))
    (place_sooner fact (section_has_run_out fact.moment now seen) (section_has_run_out fact.moment later more) _ _ h k)
