-- The mode areas that count are those of their list.
use Rattle.std.proofs.Common.{◌≡◌, ℕ, ℤ, List, [], ◌∷◌, refl, ap, ◌∙◌}
use Rattle.track_store.proofs.Standing.{filter-true}
use Rattle.vars.specs.declared.group.GroupIdentity.{GroupIdentity}
use Rattle.areas.specs.declared.area.Area.{Area}
use Rattle.areas.specs.Areas.{stored}
use Rattle.areas.specs.Entries as areas
use Rattle.areas.specs.Entries.{AreaEntry}
use Rattle.areas.specs.Description.{areas_of}
use Rattle.mode_table.specs.declared.statuses.Item.TheVariants as item
use Rattle.packets.specs.declared.packet.Packet.{Packet}
use Rattle.packets.specs.declared.packet.Packet.TheVariants as packets
use Rattle.track_picture.specs.Columns.{TrackReports, reported_in, areas_deleted}
use Rattle.track_picture.specs.Live.{Happening, level_reported, deleting}
use Rattle.track_picture.specs.Parts.{areas_in, areas_or_none, newest}
use Rattle.track_picture.proofs.EachKind.{zones}
use Rattle.track_picture.proofs.OneKind.{Follows, value, fact_with, lost_all, by_mode, follows, past_linked, past_links, past_level}

-- those of the newest packet 80 as a list of none or one
abbrev pub reported_areas : List AreaEntry → List (List Area)
reported_areas [] = []
reported_areas (areas.AreaEntry.Reported fact ∷ es) = areas_of fact ∷ []
reported_areas (areas.AreaEntry.Cleared ∷ es) = []

reported_stored : (es : List AreaEntry) → areas_or_none (newest (reported_areas es)) ≡ stored es
reported_stored [] = refl
reported_stored (areas.AreaEntry.Reported fact ∷ es) = refl
reported_stored (areas.AreaEntry.Cleared ∷ es) = refl

abbrev latest : TrackReports → List (List Area)
latest reported = reported_areas reported.areas

zones_reported : (group : GroupIdentity) (place : ℤ) (moment : ℕ) (packet : Packet) (reported : TrackReports) →
    Follows zones latest (Happening.Reported (fact_with group place moment packet)) reported
zones_reported g p m (packets.MovementAuthority q) reported = lost_all (latest reported)
zones_reported g p m (packets.ModeProfile q) reported = ap (λ xs. areas_of (areas.fact_of q p) ∷ xs) (lost_all (latest reported))
zones_reported g p m (packets.Linking q) reported = past_links zones (λ a. refl) g p q (latest reported)
zones_reported g p m (packets.LevelTransition q) reported =
    past_level zones (λ a. refl) (level_reported (fact_with g p m (packets.LevelTransition q))) (latest reported)
zones_reported g p m other reported = filter-true (latest reported)

zones_one : (h : Happening) (reported : TrackReports) → Follows zones latest h reported
zones_one (Happening.Reported fact) reported = zones_reported fact.group fact.place fact.moment fact.packet reported
zones_one (Happening.Linked entry) reported = past_linked zones refl entry (latest reported)
zones_one (Happening.Entered mode) reported = by_mode zones reported_areas areas_deleted (λ xs. refl) (deleting item.ModeAreas mode) reported.areas
zones_one other reported = filter-true (latest reported)

pub reported_all : (hs : List Happening) → value zones hs ≡ reported_areas (reported_in hs).areas
reported_all = follows zones latest refl zones_one

pub areas_are : (hs : List Happening) → areas_in hs ≡ stored (reported_in hs).areas
areas_are hs = ap (λ xs. areas_or_none (newest xs)) (reported_all hs) ∙ reported_stored (reported_in hs).areas
