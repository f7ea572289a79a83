-- The sections of an authority lie along the track, and the first that passes a test is the nearest.
use Rattle.std.proofs.Common.{◌≡◌, ℤ, ◌+ℤ◌, ◌≤ℤ◌, List, [], ◌∷◌, ◌++◌, Bool, true, false, cond, refl, ap, sym, subst, arith, ◌∙◌, ◌⊎◌, append_assoc, append-nil, inl, inr}
use Rattle.std.specs.Prelude.{find, Option, Some, None, option_map, unwrap_or}
use Rattle.std.proofs.lemmas.Int.{ints}
use Rattle.vars.specs.declared.scale.Scale.{Scale}
use Rattle.packets.specs.declared.authority.Section.{Section}
use Rattle.packets.specs.declared.authority.SectionTimer.{SectionTimer}
use Rattle.authority.specs.declared.timers.TimedSection.{TimedSection}
use Rattle.authority.specs.Entries.{Fact}
use Rattle.authority.specs.Track.{in_cm, timed_by, timed_one, timed_from, timed_sections, end_from, end_entry}
use Rattle.authority.specs.Laws.{IsAmong}

-- entries from a place on, one after the other, to a place after them all
abbrev pub AreAlong : ℤ → List TimedSection → ℤ → Type 0
AreAlong from [] to = from ≤ℤ to
AreAlong from (section ∷ rest) to = (from ≤ℤ section.entry) × AreAlong section.entry rest to

along_sooner : (from later to : ℤ) (sections : List TimedSection) → from ≤ℤ later → AreAlong later sections to → AreAlong from sections to
along_sooner from later to [] o h = omega (arith, ints)
along_sooner from later to (section ∷ rest) o h = (omega (arith, ints, h.0), h.1)

-- where a section that passes a test begins first, else a place
abbrev pub first_or : (TimedSection → Bool) → List TimedSection → ℤ → ℤ
first_or test sections to = unwrap_or (option_map (λ section. section.entry) (find test sections)) to

first_ahead : (test : TimedSection → Bool) (from to : ℤ) (sections : List TimedSection) → AreAlong from sections to → from ≤ℤ first_or test sections to
first_ahead test from to [] h = h
first_ahead test from to (section ∷ rest) h =
    let ahead : section.entry ≤ℤ first_or test rest to = first_ahead test section.entry to rest h.1 in
    elim (test section) as (λ b. from ≤ℤ unwrap_or (option_map (λ (s : TimedSection). s.entry) (cond b (Some section) (find test rest))) to) [
      | true ↦ h.0
      | false ↦ omega (arith, ints, h.0, ahead)
    ]

-- where more sections pass, the first is no farther
pub first_sooner : (test more : TimedSection → Bool) (from to sooner : ℤ) (sections : List TimedSection) → ((s : TimedSection) → test s ≡ true → more s ≡ true) →
    sooner ≤ℤ to → AreAlong from sections to → first_or more sections sooner ≤ℤ first_or test sections to
first_sooner test more from to sooner [] h o along = o
first_sooner test more from to sooner (section ∷ rest) h o along =
    let rests = first_sooner test more section.entry to sooner rest h o along.1 in
    let ahead = first_ahead test section.entry to rest along.1 in
    let here : section.entry ≤ℤ section.entry = omega (arith, ints) in
    let cases : (a b : Bool) → (a ≡ true → b ≡ true) →
    unwrap_or (option_map (λ (s : TimedSection). s.entry) (cond b (Some section) (find more rest))) sooner
    ≤ℤ unwrap_or (option_map (λ (s : TimedSection). s.entry) (cond a (Some section) (find test rest))) to =
    elim [
      | true ↦ elim [ true ↦ λ k. here | false ↦ λ k. absurd (let e : false ≡ true = k refl in cc) ]
      | false ↦ elim [ true ↦ λ k. ahead | false ↦ λ k. rests ]
    ] in
    cases (test section) (more section) (h section)

-- the sections of an authority lie along the track
one_along : (scale : Scale) (at to : ℤ) (timer : Option SectionTimer) (rest : List TimedSection) → AreAlong at rest to →
    AreAlong at (timed_by scale at timer ++ rest) to
one_along scale at to None rest h = h
one_along scale at to (Some timer) rest h = (omega (arith, ints), h)

from_along : (scale : Scale) (at to : ℤ) (sections : List Section) (rest : List TimedSection) → AreAlong (end_from scale at sections) rest to →
    AreAlong at (timed_from scale at sections ++ rest) to
from_along scale at to [] rest h = h
from_along scale at to (section ∷ more) rest h =
    let tail = from_along scale (at +ℤ in_cm scale section.length) to more rest h in
    let sooner = along_sooner at (at +ℤ in_cm scale section.length) to (timed_from scale (at +ℤ in_cm scale section.length) more ++ rest) (omega (arith, ints)) tail in
    rw append_assoc (one_along scale at to section.timer (timed_from scale (at +ℤ in_cm scale section.length) more ++ rest) sooner)

pub sections_along : (fact : Fact) (to : ℤ) → end_entry fact ≤ℤ to → AreAlong fact.place (timed_sections fact) to
sections_along fact to o =
    let scale = fact.packet.scale in
    let last = one_along scale (end_entry fact) to fact.packet.end_section.timer [] o in
    from_along scale fact.place to fact.packet.sections.items (timed_one scale (end_entry fact) fact.packet.end_section) (rw append-nil at last)

along_to : (from to : ℤ) (sections : List TimedSection) → AreAlong from sections to → from ≤ℤ to
along_to from to [] h = h
along_to from to (section ∷ rest) h = let more = along_to section.entry to rest h.1 in omega (arith, ints, h.0, more)

along_entry : (from to : ℤ) (sections : List TimedSection) (s : TimedSection) → AreAlong from sections to → IsAmong s sections → from ≤ℤ s.entry
along_entry from to [] s h there = absurd there
along_entry from to (section ∷ rest) s h there =
    elim there [
      | inl same ↦ subst (λ (x : TimedSection). from ≤ℤ x.entry) (sym same) h.0
      | inr there ↦ (let more = along_entry section.entry to rest s h.1 there in omega (arith, ints, h.0, more))
    ]

pub first_most : (test : TimedSection → Bool) (from to : ℤ) (sections : List TimedSection) → AreAlong from sections to → first_or test sections to ≤ℤ to
first_most test from to [] h = omega (arith, ints)
first_most test from to (section ∷ rest) h =
    elim (test section) as (λ b. unwrap_or (option_map (λ (s : TimedSection). s.entry) (cond b (Some section) (find test rest))) to ≤ℤ to) [
      | true ↦ along_to section.entry to rest h.1
      | false ↦ first_most test section.entry to rest h.1
    ]

pub first_least : (test : TimedSection → Bool) (from to : ℤ) (sections : List TimedSection) (s : TimedSection) → AreAlong from sections to →
    IsAmong s sections → test s ≡ true → first_or test sections to ≤ℤ s.entry
first_least test from to [] s h there e = absurd there
first_least test from to (section ∷ rest) s h there e =
    let cases : (b : Bool) → test section ≡ b → unwrap_or (option_map (λ (s : TimedSection). s.entry) (cond b (Some section) (find test rest))) to ≤ℤ s.entry =
    elim [
      | true ↦ λ k. elim there [
        | inl same ↦ subst (λ (x : TimedSection). section.entry ≤ℤ x.entry) (sym same) (let here : section.entry ≤ℤ section.entry = omega (arith, ints) in here)
        | inr there ↦ along_entry section.entry to rest s h.1 there
      ]
      | false ↦ λ k. elim there [
        | inl same ↦ absurd (let wrong : false ≡ true = sym k ∙ ap test (sym same) ∙ e in cc)
        | inr there ↦ first_least test section.entry to rest s h.1 there e
      ]
    ] in
    cases (test section) refl

pub first_is : (test : TimedSection → Bool) (to : ℤ) (sections : List TimedSection) →
    (first_or test sections to ≡ to) ⊎ ((s : TimedSection) × IsAmong s sections × (test s ≡ true) × (first_or test sections to ≡ s.entry))
first_is test to [] = inl refl
first_is test to (section ∷ rest) =
    let cases : (b : Bool) → test section ≡ b →
    (unwrap_or (option_map (λ (s : TimedSection). s.entry) (cond b (Some section) (find test rest))) to ≡ to)
    ⊎ ((s : TimedSection) × IsAmong s (section ∷ rest) × (test s ≡ true) × (unwrap_or (option_map (λ (s : TimedSection). s.entry) (cond b (Some section) (find test rest))) to ≡ s.entry)) =
    elim [
      | true ↦ λ k. inr (section, inl refl, k, refl)
      | false ↦ λ k. elim (first_is test to rest) [ inl e ↦ inl e | inr w ↦ inr (w.0, inr w.1, w.2, w.3) ]
    ] in
    cases (test section) refl
