-- Whether a telegram counts in its group, as the next one of a life (SUBSET-026, 3.4; this project's profile).
use Rattle.std.specs.Prelude.{◌&&◌, if◌then◌else◌}
use Rattle.balise_groups.specs.Closing.{is_read}
use Rattle.balise_groups.specs.Groups.{KnownGroups, goes_on}
use Rattle.balise_groups.specs.declared.assembler.hearing.Hearing.{Hearing}
use Rattle.balise_groups.specs.declared.assembler.hearing.Hearing.TheVariants.{Counts, GroupClosed, PlaceRead}
use Rattle.balise_groups.specs.declared.reading.Reading.{Reading}

-- a telegram of the group that closed last is ignored, and so is one of a place that was read in the group being read
abbrev pub hearing_of : Reading → KnownGroups → Hearing
hearing_of reading known =
    if goes_on reading known.last then GroupClosed else
    (if goes_on reading known.current && is_read known.readings reading.telegram.header.position then PlaceRead else Counts)
