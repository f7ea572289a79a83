-- The end is at the nearest place where it may be.
use Rattle.std.proofs.Common.{◌≡◌, ℕ, ℤ, ◌≤ℤ◌, List, Bool, true, false, refl, ap, sym, subst, arith, ◌∙◌, inl, inr}
use Rattle.std.specs.Prelude.{Option, Some, option_map}
use Rattle.std.proofs.lemmas.Int.{ints}
use Rattle.authority.specs.declared.answers.End.{End}
use Rattle.authority.specs.declared.timers.TimedSection.{TimedSection}
use Rattle.authority.specs.Entries.{AuthorityEntry, Fact, Sight, now_of, accepted, sights}
use Rattle.authority.specs.Track.{timed_sections, end_entry, reported_end}
use Rattle.authority.specs.Authority.{section_has_run_out, end_timer_has_run_out, taken_back, end_now, end_of}
use Rattle.authority.specs.Laws.{MayBeEnd}
use Rattle.authority.proofs.Along.{first_or, sections_along, first_most, first_least, first_is}
use Rattle.authority.proofs.Places.{last_place, place_is, last_beyond, by_place}
use Rattle.authority.proofs.RunningOut.{run_out_so}

module _ (fact : Fact) (now : ℕ) (seen : List Sight) where
  abbrev test : TimedSection → Bool
  test = section_has_run_out fact.moment now seen

  abbrev late : Bool
  late = end_timer_has_run_out (reported_end fact) fact.packet.scale now seen fact.packet.end_timer

  end_is : (end_now fact now seen).place ≡ first_or test (timed_sections fact) (last_place fact late)
  end_is = by_place fact now seen (taken_back fact now seen) ∙ place_is fact test late

  last_may : (b : Bool) → late ≡ b → (place : ℤ) → place ≡ last_place fact b → MayBeEnd fact now seen place
  last_may true e place is = inr (inl (e, is))
  last_may false e place is = inl is

  may_be : MayBeEnd fact now seen (end_now fact now seen).place
  may_be = elim (first_is test (last_place fact late) (timed_sections fact)) [
    | inl e ↦ last_may late refl (end_now fact now seen).place (end_is ∙ e)
    | inr w ↦ inr (inr (w.0, w.1, (run_out_so fact.moment now seen w.0).0 w.2, end_is ∙ w.3))
  ]

  at_most_last : first_or test (timed_sections fact) (last_place fact late) ≤ℤ last_place fact late
  at_most_last = first_most test fact.place (last_place fact late) (timed_sections fact) (sections_along fact (last_place fact late) (last_beyond fact late))

  last_most : (b : Bool) → last_place fact b ≤ℤ reported_end fact
  last_most true = omega (arith, ints)
  last_most false = omega (arith, ints)

  nearest_of : (place : ℤ) → MayBeEnd fact now seen place → first_or test (timed_sections fact) (last_place fact late) ≤ℤ place
  nearest_of place m = elim m [
    | inl is ↦ (let last = last_most late in rw is (omega (arith, ints, last, at_most_last)))
    | inr more ↦ elim more [
      | inl timer ↦ (let last : last_place fact late ≡ end_entry fact = ap (last_place fact) timer.0 in rw timer.1 (omega (arith, ints, last, at_most_last)))
      | inr w ↦ rw w.3 (first_least test fact.place (last_place fact late) (timed_sections fact) w.0 (sections_along fact (last_place fact late) (last_beyond fact late)) w.1
          ((run_out_so fact.moment now seen w.0).1 w.2))
    ]
  ]

  pub nearest_now : (place : ℤ) → MayBeEnd fact now seen place → (end_now fact now seen).place ≤ℤ place
  nearest_now place m = rw end_is (nearest_of place m)

nearest_some : (o : Option Fact) (fact : Fact) (now : ℕ) (seen : List Sight) (end : End) → o ≡ Some fact → option_map (λ fact. end_now fact now seen) o ≡ Some end →
    MayBeEnd fact now seen end.place × ((place : ℤ) → MayBeEnd fact now seen place → end.place ≤ℤ place)
nearest_some o fact now seen end is e =
    let same : end_now fact now seen ≡ end = (let k : option_map (λ (f : Fact). end_now f now seen) (Some fact) ≡ Some end = ap (option_map (λ (f : Fact). end_now f now seen)) (sym is) ∙ e in cc) in (
      subst (λ (x : End). MayBeEnd fact now seen x.place) same (may_be fact now seen),
      λ place m. subst (λ (x : End). x.place ≤ℤ place) same (nearest_now fact now seen place m),
    )

pub nearest : (entries : List AuthorityEntry) (fact : Fact) (end : End) → accepted entries ≡ Some fact → end_of entries ≡ Some end →
    MayBeEnd fact (now_of entries) (sights entries) end.place
    × ((place : ℤ) → MayBeEnd fact (now_of entries) (sights entries) place → end.place ≤ℤ place)
nearest entries fact end is e = nearest_some (accepted entries) fact (now_of entries) (sights entries) end is e
