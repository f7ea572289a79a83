-- What an assessor asks of the facts that count (SUBSET-026, 4.10 and the sections of the table; the rest: this
-- project's profile). Lists of happenings and of events have the newest first; a life begins with no happening.
--
-- They don't say that the track says a fact in time, nor that what ends a fact in the table is all that ought to.
use Rattle.std.specs.Prelude.{◌≡◌, ◌↔◌, ℕ, ◌≤◌, true, false, not, Option, None, List, [], ◌∷◌, ◌++◌, filter, filter_map, length}
use Rattle.authority.specs.Laws.{IsAmong}
use Rattle.mode_table.specs.declared.mode.Mode.{Mode}
use Rattle.mode_table.specs.declared.statuses.Item.TheVariants as item
use Rattle.track_picture.specs.Entry.{TrackEntry}
use Rattle.track_picture.specs.Sentences.{powered_up}
use Rattle.track_picture.specs.Live.{Happening, TrackFact, brought, table, deleting, names, ends, live}
use Rattle.track_picture.specs.Parts.{as_values, as_link, as_miss, as_authority, as_look, as_gradients, as_speeds, as_level, as_restriction, as_areas, gradients_in, speeds_in, areas_in, level_in, links_in, granted_in, values_in, restrictions_in, place_in, group_in}
use Rattle.track_picture.specs.Happenings.{happenings}
use Rattle.track_picture.specs.History.{place_of, group_of_fix}

-- a fact came, and nothing later has ended it
pub record CameAndStays (fact : TrackFact) (all : List Happening) : Type 0 where
  pub later : List Happening
  pub cause : Happening
  pub earlier : List Happening
  pub in_turn : all ≡ later ++ (cause ∷ earlier)
  pub came : IsAmong fact (brought cause)
  pub not_ended : (happening : Happening) → IsAmong happening later → ends happening fact ≡ false

-- just those facts count
abbrev pub CountsWhileNotEnded : Type 0
CountsWhileNotEnded = (all : List Happening) (fact : TrackFact) → IsAmong fact (live all) ↔ CameAndStays fact all

-- a fact came anew
pub record CameAnew (fact : TrackFact) (since : List Happening) : Type 0 where
  pub cause : Happening
  pub among : IsAmong cause since
  pub came : IsAmong fact (brought cause)

-- no fact counts after what ends it, unless it came anew with that or after it
abbrev pub EndedCountsNoMore : Type 0
EndedCountsNoMore = (later : List Happening) (happening : Happening) (earlier : List Happening) (fact : TrackFact) →
    ends happening fact ≡ true → IsAmong fact (live (later ++ (happening ∷ earlier))) → CameAnew fact (later ++ (happening ∷ []))

-- of authorities, mode areas, announced levels and national values that wait, one counts at most
pub record OneAtMost (events : List TrackEntry) : Type 0 where
  pub authorities : length (filter_map as_authority (live (happenings events))) ≤ 1
  pub areas : length (filter_map as_areas (live (happenings events))) ≤ 1
  pub levels : length (filter_map as_level (live (happenings events))) ≤ 1
  pub values : length (filter_map as_values (live (happenings events))) ≤ 1

abbrev pub OnlyLatestCounts : Type 0
OnlyLatestCounts = (events : List TrackEntry) → OneAtMost events

-- a power-up leaves none
abbrev pub NoneAtPowerUp : Type 0
NoneAtPowerUp = (train_length : ℕ) → live (happenings (powered_up train_length ∷ [])) ≡ []

-- ---- kind by kind

-- of a kind count, after a happening, the facts that it brings, and those of before that it doesn't end by their line
-- of the table
abbrev pub ByItsLine : {X : Type 0} → (X → TrackFact) → (TrackFact → Option X) → Type 0
ByItsLine of read = (happening : Happening) (earlier : List Happening) →
    filter_map read (live (happening ∷ earlier))
    ≡ filter_map read (brought happening) ++ filter (λ x. not (names (table (of x)) happening)) (filter_map read (live earlier))

pub record EachByItsLine : Type 0 where
  pub values : ByItsLine TrackFact.Values as_values
  pub links : ByItsLine TrackFact.Link as_link
  pub misses : ByItsLine (λ x. TrackFact.Miss) as_miss
  pub authorities : ByItsLine TrackFact.Authority as_authority
  pub looks : ByItsLine TrackFact.Look as_look
  pub gradients : ByItsLine TrackFact.Gradients as_gradients
  pub speeds : ByItsLine TrackFact.Speeds as_speeds
  pub levels : ByItsLine TrackFact.Level as_level
  pub restrictions : ByItsLine TrackFact.Restricted as_restriction
  pub areas : ByItsLine TrackFact.Areas as_areas

-- a mode that deletes an item leaves none of it
pub record LeavesNone (mode : Mode) (earlier : List Happening) : Type 0 where
  pub links : deleting item.Linking mode ≡ true → (links_in (Happening.Entered mode ∷ earlier)).left ≡ []
  pub authority : deleting item.Authority mode ≡ true → granted_in (Happening.Entered mode ∷ earlier) ≡ None
  pub gradients : deleting item.Profiles mode ≡ true → gradients_in (Happening.Entered mode ∷ earlier) ≡ []
  pub speeds : deleting item.Profiles mode ≡ true → speeds_in (Happening.Entered mode ∷ earlier) ≡ []
  pub areas : deleting item.ModeAreas mode ≡ true → areas_in (Happening.Entered mode ∷ earlier) ≡ []
  pub level : deleting item.LevelAnnouncement mode ≡ true → level_in (Happening.Entered mode ∷ earlier) ≡ None

-- and no mode takes restrictions or national values away
pub record LeavesAll (mode : Mode) (earlier : List Happening) : Type 0 where
  pub restrictions : restrictions_in (Happening.Entered mode ∷ earlier) ≡ restrictions_in earlier
  pub values : values_in (Happening.Entered mode ∷ earlier) ≡ values_in earlier

abbrev pub ModesDeleteByTheTable : Type 0
ModesDeleteByTheTable = (mode : Mode) (earlier : List Happening) → LeavesNone mode earlier × LeavesAll mode earlier

-- ---- no happening is left out: the place of the train, and the group of its last fix, which are read off the entries,
-- are those by the movements and fixes among the happenings

abbrev pub PlaceIsRead : Type 0
PlaceIsRead = (events : List TrackEntry) →
    (place_in (happenings events) ≡ place_of events) × (group_in (happenings events) ≡ group_of_fix events)
