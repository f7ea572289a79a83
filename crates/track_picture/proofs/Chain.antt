-- The links that count, and whether a group was missed, are those of linking's list.
use Rattle.std.proofs.Common.{◌≡◌, ℕ, ℤ, List, [], ◌∷◌, ◌++◌, Bool, true, false, cond, refl, ap, sym, ◌∙◌}
use Rattle.std.specs.Prelude.{not, ◌||◌, map, filter, filter_map}
use Rattle.std.specs.List.{list_any}
use Rattle.std.proofs.lemmas.List.{append-nil}
use Rattle.std.proofs.lemmas.List.Elements.{filter_agree}
use Rattle.track_store.proofs.Standing.{filter-true}
use Rattle.track_store.specs.Profiles.{is_any}
use Rattle.vars.specs.declared.group.GroupIdentity.{GroupIdentity}
use Rattle.linking.specs.declared.announcement.Announcement.{Announcement}
use Rattle.linking.specs.Linking as linking
use Rattle.linking.specs.Linking.{LinkEntry, takes, numbered, announced, since_announced, left, has_missed, known}
use Rattle.mode_table.specs.declared.statuses.Item.TheVariants as item
use Rattle.packets.specs.declared.packet.Packet.{Packet}
use Rattle.packets.specs.declared.packet.Packet.TheVariants as packets
use Rattle.track_picture.specs.Announcing.{announcements_of}
use Rattle.track_picture.specs.Columns.{TrackReports, reported_in, after_links, links_deleted}
use Rattle.track_picture.specs.Live.{Happening, TrackFact, level_reported, deleting}
use Rattle.track_picture.specs.Parts.{as_link, links_in}
use Rattle.track_picture.proofs.EachKind.{link, miss}
use Rattle.track_picture.proofs.OneKind.{Follows, value, fact_with, lost_all, filter_both, no_links, no_level, by_mode, step, unmoved, follows, past_level}

-- ---- the links that are left

swapped : (a b : Bool) → not (a || b) ≡ not (b || a)
swapped true true = refl
swapped true false = refl
swapped false true = refl
swapped false false = refl

-- an entry takes some of those that are left
left_less : (entry : LinkEntry) (es : List LinkEntry) →
    filter (λ a. not (takes entry a.number)) (left es)
    ≡ filter (λ a. not (takes entry a.number || list_any (λ e. takes e a.number) (since_announced es))) (announced es)
left_less entry es =
    filter_both (λ (a : Announcement). takes entry a.number) (λ a. list_any (λ e. takes e a.number) (since_announced es)) (announced es)
    ∙ filter_agree (λ a. not (list_any (λ e. takes e a.number) (since_announced es) || takes entry a.number))
    (λ a. not (takes entry a.number || list_any (λ e. takes e a.number) (since_announced es)))
    (λ a. swapped (list_any (λ e. takes e a.number) (since_announced es)) (takes entry a.number)) (announced es)

links_read : (announcements : List Announcement) → filter_map as_link (map TrackFact.Link announcements) ≡ announcements
links_read [] = refl
links_read (a ∷ announcements) = ap (λ xs. a ∷ xs) (links_read announcements)

new_list : (announcements : List Announcement) (es : List LinkEntry) →
    filter_map as_link (map TrackFact.Link (numbered announcements)) ++ filter (λ x. false) (left es) ≡ left (linking.LinkEntry.Announced announcements ∷ es)
new_list announcements es =
    ap (λ xs. filter_map as_link (map TrackFact.Link (numbered announcements)) ++ xs) (lost_all (left es))
    ∙ (append-nil (filter_map as_link (map TrackFact.Link (numbered announcements)))
    ∙ (links_read (numbered announcements) ∙ sym (filter-true (numbered announcements))))

abbrev chain : TrackReports → List Announcement
chain reported = left reported.links

link_reported : (group : GroupIdentity) (place : ℤ) (moment : ℕ) (packet : Packet) (reported : TrackReports) →
    Follows link chain (Happening.Reported (fact_with group place moment packet)) reported
link_reported g p m (packets.Linking q) reported = new_list (announcements_of g p q) reported.links
link_reported g p m (packets.LevelTransition q) reported =
    past_level link (λ a. refl) (level_reported (fact_with g p m (packets.LevelTransition q))) (chain reported)
link_reported g p m other reported = filter-true (chain reported)

link_linked : (entry : LinkEntry) (reported : TrackReports) → Follows link chain (Happening.Linked entry) reported
link_linked (linking.LinkEntry.Announced announcements) reported = filter-true (chain reported)
link_linked other reported = left_less other reported.links

link_one : (h : Happening) (reported : TrackReports) → Follows link chain h reported
link_one (Happening.Reported fact) reported = link_reported fact.group fact.place fact.moment fact.packet reported
link_one (Happening.Linked entry) reported = link_linked entry reported
link_one (Happening.Entered mode) reported = by_mode link left links_deleted (λ xs. refl) (deleting item.Linking mode) reported.links
link_one other reported = filter-true (chain reported)

-- ---- whether a group was missed

miss_reported : (group : GroupIdentity) (place : ℤ) (moment : ℕ) (packet : Packet) (hs : List Happening) →
    value miss (Happening.Reported (fact_with group place moment packet) ∷ hs) ≡ value miss hs
miss_reported g p m (packets.Linking q) hs =
    unmoved miss (Happening.Reported (fact_with g p m (packets.Linking q))) hs (no_links miss (λ a. refl) (numbered (announcements_of g p q))) (λ x. refl)
miss_reported g p m (packets.LevelTransition q) hs =
    let fact = fact_with g p m (packets.LevelTransition q) in
    unmoved miss (Happening.Reported fact) hs (no_level miss (λ a. refl) (level_reported fact)) (λ x. refl)
miss_reported g p m other hs = unmoved miss (Happening.Reported (fact_with g p m other)) hs refl (λ x. refl)

miss_list : (group : GroupIdentity) (place : ℤ) (moment : ℕ) (packet : Packet) (es : List LinkEntry) →
    has_missed es ≡ has_missed (after_links (fact_with group place moment packet) es)
miss_list g p m (packets.Linking q) es = refl
miss_list g p m other es = refl

miss_by_mode : (deleted : Bool) (es : List LinkEntry) → has_missed es ≡ has_missed (cond deleted (links_deleted es) es)
miss_by_mode true es = refl
miss_by_mode false es = refl

miss_linked : (entry : LinkEntry) (hs : List Happening) → is_any (value miss hs) ≡ has_missed (reported_in hs).links →
    is_any (value miss (Happening.Linked entry ∷ hs)) ≡ has_missed (reported_in (Happening.Linked entry ∷ hs)).links
miss_linked (linking.LinkEntry.Accepted number) hs r =
    ap is_any (step miss (Happening.Linked (linking.LinkEntry.Accepted number)) hs ∙ lost_all (value miss hs))
miss_linked (linking.LinkEntry.Missed number) hs r = ap is_any (step miss (Happening.Linked (linking.LinkEntry.Missed number)) hs)
miss_linked other hs r = ap is_any (unmoved miss (Happening.Linked other) hs refl (λ x. refl)) ∙ r

miss_is : (hs : List Happening) → is_any (value miss hs) ≡ has_missed (reported_in hs).links
miss_is [] = refl
miss_is (Happening.Reported fact ∷ hs) =
    ap is_any (miss_reported fact.group fact.place fact.moment fact.packet hs)
    ∙ (miss_is hs ∙ miss_list fact.group fact.place fact.moment fact.packet (reported_in hs).links)
miss_is (Happening.Linked entry ∷ hs) = miss_linked entry hs (miss_is hs)
miss_is (Happening.Entered mode ∷ hs) =
    ap is_any (unmoved miss (Happening.Entered mode) hs refl (λ x. refl)) ∙ (miss_is hs ∙ miss_by_mode (deleting item.Linking mode) (reported_in hs).links)
miss_is (other ∷ hs) = ap is_any (unmoved miss other hs refl (λ x. refl)) ∙ miss_is hs

pub links_are : (hs : List Happening) → links_in hs ≡ known (reported_in hs).links
links_are hs = (λ i. record { left = follows link chain refl link_one hs i; has_missed = miss_is hs i })
