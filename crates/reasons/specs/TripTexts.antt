-- The texts of why Trip was entered (this project's profile; docs/explain/brakes.md reports them at length): as JSON
-- has it, in a sentence, and the sections of SUBSET-026.
use Rattle.std.specs.Prelude.{ℕ, List, codes}
use Rattle.mode_control.specs.declared.tripping.TripCause.{TripCause}
use Rattle.mode_control.specs.declared.tripping.TripCause.TheVariants.{EndPassed, Linking, Stop, StaffDistance, Level}

abbrev pub trip_name_of : TripCause → List ℕ
trip_name_of EndPassed = codes "end_passed"
trip_name_of Linking = codes "linking"
trip_name_of Stop = codes "stop"
trip_name_of StaffDistance = codes "staff_distance"
trip_name_of Level = codes "level"

abbrev pub trip_sentence_of : TripCause → List ℕ
trip_sentence_of EndPassed = codes "the minimum safe front was past the end of authority"
trip_sentence_of Linking = codes "linking or a balise group asked for it"
trip_sentence_of Stop = codes "an authority with V_MAIN 0 was used"
trip_sentence_of StaffDistance = codes "the path in Staff Responsible was above D_NVSTFF"
trip_sentence_of Level = codes "the level was 1, and the authority or the track ahead was not known"

abbrev pub trip_section_of : TripCause → List ℕ
trip_section_of EndPassed = codes "4.6.3"
trip_section_of Linking = codes "3.4.4, 3.16.2"
trip_section_of Stop = codes "3.11.6"
trip_section_of StaffDistance = codes "4.4"
trip_section_of Level = codes "5.10"
