-- Which items each mode keeps, and that these are never lost.
use Rattle.std.proofs.Common.{◌≡◌, [], ◌∷◌, true, false, refl}
use Rattle.mode_table.specs.Laws.{IsKeptByEach, lasts, TheseAreKept, KeptIsNeverLost}
use Rattle.mode_table.specs.Statuses.{line}
use Rattle.mode_table.specs.declared.mode.Mode.{Mode}
use Rattle.mode_table.specs.declared.mode.Mode.TheVariants.{StandBy}
use Rattle.mode_table.specs.declared.statuses.Item.{Item}
use Rattle.mode_table.specs.declared.statuses.Item.TheVariants.{Identity, RunningNumber, TrainData, Level, Position, NationalValues, AnnouncedValues, Linking, Authority, Profiles, ModeAreas, Restrictions, LevelAnnouncement, Acknowledgements, Override, OutstandingTrip, Counts}
use Rattle.mode_table.specs.declared.statuses.Fate.TheVariants.{Kept, Invalid, Deleted}

in_each : (mode : Mode) → line Kept Kept Kept Kept Kept Kept Kept Kept Kept mode ≡ Kept
in_each StandBy = refl
in_each mode = refl

kept : (item : Item) → lasts item ≡ true → IsKeptByEach item
kept Identity h = in_each
kept RunningNumber h = in_each
kept Level h = in_each
kept Position h = in_each
kept NationalValues h = in_each
kept AnnouncedValues h = in_each
kept Restrictions h = in_each
kept OutstandingTrip h = in_each
kept Counts h = in_each
kept item h = absurd (let no : false ≡ true = h in cc)

-- a mode that doesn't keep an item: Stand By, or Full Supervision
lasting : (item : Item) → IsKeptByEach item → lasts item ≡ true
lasting TrainData h = absurd (let no : Invalid ≡ Kept = h StandBy in cc)
lasting Linking h = absurd (let no : Deleted ≡ Kept = h StandBy in cc)
lasting Authority h = absurd (let no : Deleted ≡ Kept = h StandBy in cc)
lasting Profiles h = absurd (let no : Deleted ≡ Kept = h StandBy in cc)
lasting ModeAreas h = absurd (let no : Deleted ≡ Kept = h StandBy in cc)
lasting LevelAnnouncement h = absurd (let no : Deleted ≡ Kept = h StandBy in cc)
lasting Acknowledgements h = absurd (let no : Deleted ≡ Kept = h StandBy in cc)
lasting Override h = absurd (let no : Deleted ≡ Kept = h StandBy in cc)
lasting item h = refl

pub these_are_kept : TheseAreKept
these_are_kept item = (kept item, lasting item)

pub never_lost : KeptIsNeverLost
never_lost item each [] = refl
never_lost item each (mode ∷ modes) = rw (each mode, never_lost item each modes) refl
