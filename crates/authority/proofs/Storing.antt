-- What is stored of an authority when it is accepted.
use Rattle.std.proofs.Common.{◌≡◌, ℕ, ℤ, ◌+ℤ◌, List, [], ◌∷◌, ◌++◌, refl, ap, sym, ◌∙◌}
use Rattle.std.specs.Prelude.{not, filter, Option, option_map}
use Rattle.authority.specs.declared.timers.TimedSection.{TimedSection}
use Rattle.authority.specs.declared.timers.PlaceTimer.{PlaceTimer}
use Rattle.authority.specs.declared.stored.Stored.{Stored}
use Rattle.authority.specs.declared.stored.Point.{Point}
use Rattle.authority.specs.declared.stored.TimedOverlap.{TimedOverlap}
use Rattle.authority.specs.Entries.{Fact}
use Rattle.authority.specs.Track.{in_cm, timed_from, timed_one, timed_sections, end_entry, reported_end}
use Rattle.authority.specs.Authority.{was_stopped, speed_of, danger_point_of}
use Rattle.authority.specs.Known.{end_timer_of, overlap_of, stored_of}

-- at first no timer is stopped
none_stopped : (start : ℕ) (sections : List TimedSection) → filter (λ section. not (was_stopped start [] section)) sections ≡ sections
none_stopped start [] = refl
none_stopped start (section ∷ rest) = ap (λ more. section ∷ more) (none_stopped start rest)

pub made_is : (fact : Fact) (before after : List TimedSection) (entry end : ℤ) (main speed : ℕ) (timer : Option PlaceTimer) (point : Option Point) (overlap : Option TimedOverlap) →
    before ≡ timed_from fact.packet.scale fact.place fact.packet.sections.items → entry ≡ end_entry fact →
    after ≡ before ++ timed_one fact.packet.scale entry fact.packet.end_section → end ≡ entry +ℤ in_cm fact.packet.scale fact.packet.end_section.length →
    main ≡ speed_of fact.packet.speed → speed ≡ speed_of fact.packet.end_speed →
    timer ≡ option_map (end_timer_of end fact.packet.scale []) fact.packet.end_timer →
    point ≡ option_map (danger_point_of end fact.packet.scale) fact.packet.danger_point →
    overlap ≡ option_map (overlap_of end fact.packet.scale []) fact.packet.overlap →
    ◌≡◌ {A = Stored} (record {
      accepted = fact.moment;
      timed = record { items = after };
      end_entry = entry;
      end = end;
      main_speed = main;
      end_speed = speed;
      end_time = fact.packet.end_time;
      end_timer = timer;
      danger_point = point;
      overlap = overlap;
    }) (stored_of fact [])
made_is fact before after entry end main speed timer point overlap b e a n m v t d o =
    let reported : end ≡ reported_end fact = n ∙ ap (λ (z : ℤ). z +ℤ in_cm fact.packet.scale fact.packet.end_section.length) e in
    let all : after ≡ timed_sections fact = a ∙ (λ i. b i ++ timed_one fact.packet.scale (e i) fact.packet.end_section) in
    let items = all ∙ sym (none_stopped fact.moment (timed_sections fact)) in
    let timers = t ∙ ap (λ (z : ℤ). option_map (end_timer_of z fact.packet.scale []) fact.packet.end_timer) reported in
    let points = d ∙ ap (λ (z : ℤ). option_map (danger_point_of z fact.packet.scale) fact.packet.danger_point) reported in
    let overlaps = o ∙ ap (λ (z : ℤ). option_map (overlap_of z fact.packet.scale []) fact.packet.overlap) reported in
    (λ i. record {
      accepted = fact.moment;
      timed = record { items = items i };
      end_entry = e i;
      end = reported i;
      main_speed = m i;
      end_speed = v i;
      end_time = fact.packet.end_time;
      end_timer = timers i;
      danger_point = points i;
      overlap = overlaps i;
    })
