-- The announced level that counts is that of its list.
use Rattle.std.proofs.Common.{◌≡◌, ℕ, ℤ, List, [], ◌∷◌, Bool, true, false, cond, refl, ap, ◌∙◌}
use Rattle.std.specs.Prelude.{Option, Some, None, not, ◌++◌, is_some, filter, filter_map}
use Rattle.std.specs.Option.{option_map_or, option_or}
use Rattle.vars.specs.declared.group.GroupIdentity.{GroupIdentity}
use Rattle.areas.specs.declared.announcement.Announcement.{Announcement as AnnouncedLevel}
use Rattle.areas.specs.Levels.{LevelEntry, waiting, is_reached, unless_reached}
use Rattle.mode_table.specs.declared.statuses.Item.TheVariants as item
use Rattle.packets.specs.declared.packet.Packet.{Packet}
use Rattle.packets.specs.declared.packet.Packet.TheVariants as packets
use Rattle.track_store.specs.Profiles.{listed}
use Rattle.track_store.proofs.Standing.{filter-true}
use Rattle.track_picture.specs.Columns.{TrackReports, reported_in, level_deleted}
use Rattle.track_picture.specs.Live.{Happening, TrackFact, level_reported, deleting}
use Rattle.track_picture.specs.Parts.{as_level, level_in, newest}
use Rattle.track_picture.proofs.EachKind.{level}
use Rattle.track_picture.proofs.OneKind.{Follows, value, fact_with, newest_listed, lost_all, by_mode, follows, past_linked, past_links}

-- a packet that announces no level leaves the older one
reported_one : (reported waits : Option AnnouncedLevel) →
    filter_map as_level (option_map_or (λ level. TrackFact.Level level ∷ []) reported []) ++ filter (λ x. not (is_some reported)) (listed waits)
    ≡ listed (option_or reported waits)
reported_one None waits = filter-true (listed waits)
reported_one (Some a) waits = ap (λ xs. a ∷ xs) (lost_all (listed waits))

reached_by : (b : Bool) (a : AnnouncedLevel) → cond (not b) (a ∷ []) [] ≡ listed (cond b None (Some a))
reached_by true a = refl
reached_by false a = refl

reached_one : (max_front : ℤ) (waits : Option AnnouncedLevel) →
    filter (λ x. not (is_reached max_front x)) (listed waits) ≡ listed (unless_reached max_front waits)
reached_one max_front None = refl
reached_one max_front (Some a) = reached_by (is_reached max_front a) a

abbrev waits : List LevelEntry → List AnnouncedLevel
waits entries = listed (waiting entries)

abbrev pending : TrackReports → List AnnouncedLevel
pending reported = waits reported.levels

level_by : (group : GroupIdentity) (place : ℤ) (moment : ℕ) (packet : Packet) (reported : TrackReports) →
    Follows level pending (Happening.Reported (fact_with group place moment packet)) reported
level_by g p m (packets.LevelTransition q) reported = reported_one (level_reported (fact_with g p m (packets.LevelTransition q))) (waiting reported.levels)
level_by g p m (packets.Linking q) reported = past_links level (λ a. refl) g p q (pending reported)
level_by g p m other reported = filter-true (pending reported)

level_one : (h : Happening) (reported : TrackReports) → Follows level pending h reported
level_one (Happening.Reported fact) reported = level_by fact.group fact.place fact.moment fact.packet reported
level_one (Happening.Linked entry) reported = past_linked level refl entry (pending reported)
level_one (Happening.Seen sight) reported = reached_one sight.train.max_front (waiting reported.levels)
level_one (Happening.Entered mode) reported = by_mode level waits level_deleted (λ xs. refl) (deleting item.LevelAnnouncement mode) reported.levels
level_one other reported = filter-true (pending reported)

pub levels_are : (hs : List Happening) → value level hs ≡ listed (waiting (reported_in hs).levels)
levels_are = follows level pending refl level_one

pub level_is : (hs : List Happening) → level_in hs ≡ waiting (reported_in hs).levels
level_is hs = ap newest (levels_are hs) ∙ newest_listed (waiting (reported_in hs).levels)
