-- The restrictions that count, with the forgetting mark, are those of their list.
use Rattle.std.proofs.Common.{◌≡◌, ℕ, ℤ, List, [], ◌∷◌, ◌++◌, Bool, true, false, cond, refl, ap, sym, ◌∙◌}
use Rattle.std.specs.Prelude.{not, filter, reverse}
use Rattle.std.specs.List.{list_any}
use Rattle.std.proofs.lemmas.Grind.{reverse_onto}
use Rattle.std.proofs.lemmas.List.{append-nil}
use Rattle.vars.specs.declared.group.GroupIdentity.{GroupIdentity}
use Rattle.mode_table.specs.declared.mode.Mode.{Mode}
use Rattle.mode_table.specs.declared.mode.Mode.TheVariants as mode
use Rattle.mode_table.specs.declared.statuses.Item.TheVariants as item
use Rattle.packets.specs.declared.packet.Packet.{Packet}
use Rattle.packets.specs.declared.packet.Packet.TheVariants as packets
use Rattle.track_store.specs.declared.restriction.Restriction.{Restriction}
use Rattle.track_store.specs.Covering.{is_ended_by, reaches_past}
use Rattle.track_store.specs.Restrictions as track
use Rattle.track_store.specs.Restrictions.{RestrictionEntry, InForce, ends, standing_but_for, standing}
use Rattle.track_store.proofs.Standing.{filter-true}
use Rattle.track_picture.specs.Columns.{TrackReports, reported_in}
use Rattle.track_picture.specs.Live.{Happening, level_reported, deleting}
use Rattle.track_picture.specs.Parts.{restrictions_in}
use Rattle.track_picture.proofs.EachKind.{restricted}
use Rattle.track_picture.proofs.Marking.{one_mark}
use Rattle.track_picture.proofs.OneKind.{Follows, value, fact_with, follows, filter_both, past_linked, past_links, past_level}
use Rattle.track_picture.proofs.Profile.{mark_is}

-- ---- the restrictions that no later entry ends, the newest first

abbrev alive : List RestrictionEntry → List Restriction
alive [] = []
alive (track.RestrictionEntry.Restricted r ∷ es) = r ∷ filter (λ x. not (is_ended_by r.number x)) (alive es)
alive (track.RestrictionEntry.Revoked number ∷ es) = filter (λ x. not (is_ended_by number x)) (alive es)
alive (track.RestrictionEntry.Forgotten mark ∷ es) = alive es

abbrev ended_by : List RestrictionEntry → Restriction → Bool
ended_by later r = list_any (λ entry. ends entry r) later

last_one : (b : Bool) (r : Restriction) (xs : List Restriction) → reverse xs ++ cond b [] (r ∷ []) ≡ reverse (cond (not b) (r ∷ xs) xs)
last_one true r xs = append-nil (reverse xs)
last_one false r xs = sym (reverse_onto xs r [])

stand : (later es : List RestrictionEntry) → standing_but_for later es ≡ reverse (filter (λ x. not (ended_by later x)) (alive es))
stand later [] = refl
stand later (track.RestrictionEntry.Restricted r ∷ es) =
    ap (λ xs. xs ++ cond (ended_by later r) [] (r ∷ [])) (stand (track.RestrictionEntry.Restricted r ∷ later) es)
    ∙ (ap (λ xs. reverse xs ++ cond (ended_by later r) [] (r ∷ [])) (sym (filter_both (ended_by later) (is_ended_by r.number) (alive es)))
    ∙ last_one (ended_by later r) r (filter (λ x. not (ended_by later x)) (filter (λ x. not (is_ended_by r.number x)) (alive es))))
stand later (track.RestrictionEntry.Revoked number ∷ es) =
    stand (track.RestrictionEntry.Revoked number ∷ later) es
    ∙ ap reverse (sym (filter_both (ended_by later) (is_ended_by number) (alive es)))
stand later (track.RestrictionEntry.Forgotten mark ∷ es) = stand (track.RestrictionEntry.Forgotten mark ∷ later) es

all_stand : (es : List RestrictionEntry) → standing es ≡ reverse (alive es)
all_stand es = stand [] es ∙ ap reverse (filter-true (alive es))

-- ---- they are those that count

-- no mode ends one
pub none_deletes : (m : Mode) → deleting item.Restrictions m ≡ false
none_deletes mode.StandBy = refl
none_deletes other = refl

abbrev left : TrackReports → List Restriction
left reported = alive reported.restrictions

restricted_reported : (group : GroupIdentity) (place : ℤ) (moment : ℕ) (packet : Packet) (reported : TrackReports) →
    Follows restricted left (Happening.Reported (fact_with group place moment packet)) reported
restricted_reported g p m (packets.SpeedRestriction q) reported = refl
restricted_reported g p m (packets.RestrictionRevocation q) reported = refl
restricted_reported g p m (packets.Linking q) reported = past_links restricted (λ a. refl) g p q (left reported)
restricted_reported g p m (packets.LevelTransition q) reported =
    past_level restricted (λ a. refl) (level_reported (fact_with g p m (packets.LevelTransition q))) (left reported)
restricted_reported g p m other reported = filter-true (left reported)

restricted_one : (h : Happening) (reported : TrackReports) → Follows restricted left h reported
restricted_one (Happening.Reported fact) reported = restricted_reported fact.group fact.place fact.moment fact.packet reported
restricted_one (Happening.Linked entry) reported = past_linked restricted refl entry (left reported)
restricted_one (Happening.Entered m) reported =
    ap (λ b. filter (λ x. not b) (left reported)) (none_deletes m) ∙ filter-true (left reported)
restricted_one other reported = filter-true (left reported)

alive_all : (hs : List Happening) → value restricted hs ≡ alive (reported_in hs).restrictions
alive_all = follows restricted left refl restricted_one

abbrev pub held : ℤ → List Restriction → InForce
held mark rs = record { mark = mark; restrictions = filter (reaches_past mark) rs }

pub restrictions_are : (hs : List Happening) → restrictions_in hs ≡ track.in_force (reported_in hs).restrictions
restrictions_are hs =
    let entries = (reported_in hs).restrictions in
    ap (λ mark. held mark (reverse (value restricted hs))) (mark_is hs ∙ sym (one_mark hs))
    ∙ ap (held (track.mark_of entries)) (ap reverse (alive_all hs) ∙ sym (all_stand entries))
