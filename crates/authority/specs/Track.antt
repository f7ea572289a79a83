-- Where the sections of an authority lie on the track (SUBSET-026, 3.8.3 and 7.4.2, packet 12). Places are centimetres,
-- times seconds.
use Rattle.std.specs.Prelude.{ℕ, ◌*◌, ℤ, pos, ◌+ℤ◌, List, [], ◌∷◌, ◌++◌, Option, Some, None}
use Rattle.vars.specs.declared.scale.Scale.{Scale}
use Rattle.vars.specs.Meanings.{centimetres_of}
use Rattle.packets.specs.declared.authority.Section.{Section}
use Rattle.packets.specs.declared.authority.SectionTimer.{SectionTimer}
use Rattle.authority.specs.declared.timers.TimedSection.{TimedSection}
use Rattle.authority.specs.Entries.{Fact}

-- a distance of the packet in centimetres
abbrev pub in_cm : Scale → ℕ → ℤ
in_cm scale distance = pos (distance * centimetres_of scale)

-- a section with a timer: its entry, where the timer stops, and its time
abbrev pub timed_by : Scale → ℤ → Option SectionTimer → List TimedSection
timed_by scale entry None = []
timed_by scale entry (Some timer) = record { entry = entry; stop_at = entry +ℤ in_cm scale timer.stop; time = timer.time } ∷ []

abbrev pub timed_one : Scale → ℤ → Section → List TimedSection
timed_one scale entry section = timed_by scale entry section.timer

-- the sections with timers, one after another from a place on
abbrev pub timed_from : Scale → ℤ → List Section → List TimedSection
timed_from scale at [] = []
timed_from scale at (section ∷ rest) = timed_one scale at section ++ timed_from scale (at +ℤ in_cm scale section.length) rest

-- where sections end that start at a place
abbrev pub end_from : Scale → ℤ → List Section → ℤ
end_from scale at [] = at
end_from scale at (section ∷ rest) = end_from scale (at +ℤ in_cm scale section.length) rest

-- the entry of the end section, and its end
abbrev pub end_entry : Fact → ℤ
end_entry fact = end_from fact.packet.scale fact.place fact.packet.sections.items

abbrev pub reported_end : Fact → ℤ
reported_end fact = end_entry fact +ℤ in_cm fact.packet.scale fact.packet.end_section.length

-- the sections with timers along the track, the end section being the last
abbrev pub timed_sections : Fact → List TimedSection
timed_sections fact =
    timed_from fact.packet.scale fact.place fact.packet.sections.items
    ++ timed_one fact.packet.scale (end_entry fact) fact.packet.end_section
