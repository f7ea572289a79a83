-- The packet 3 that waits and the national values in force are those of their list.
use Rattle.std.proofs.Common.{◌≡◌, ℕ, ℤ, List, [], ◌∷◌, Bool, true, false, cond, refl, ap, ◌∙◌}
use Rattle.std.specs.Prelude.{Option, Some, None, not, filter}
use Rattle.vars.specs.declared.group.GroupIdentity.{GroupIdentity}
use Rattle.mode_table.specs.declared.mode.Mode.{Mode}
use Rattle.mode_table.specs.declared.mode.Mode.TheVariants as mode
use Rattle.mode_table.specs.declared.statuses.Item.TheVariants as item
use Rattle.national.specs.InForce as national
use Rattle.national.specs.InForce.{NationalEntry, waiting, is_reached, start_of, unless_ended_by, in_force, in_force_after}
use Rattle.national.specs.Values.{ValuesFor}
use Rattle.packets.specs.declared.packet.Packet.{Packet}
use Rattle.packets.specs.declared.packet.Packet.TheVariants as packets
use Rattle.track_store.specs.Profiles.{listed}
use Rattle.track_store.proofs.Standing.{filter-true}
use Rattle.track_picture.specs.Columns.{TrackReports, reported_in, after_values}
use Rattle.track_picture.specs.Live.{Happening, level_reported, deleting}
use Rattle.track_picture.specs.Parts.{newest, values_in, in_force_in}
use Rattle.track_picture.proofs.EachKind.{values}
use Rattle.track_picture.proofs.OneKind.{Follows, value, fact_with, newest_listed, lost_all, follows, past_linked, past_links, past_level}

-- ---- what waits

reached_by : (b : Bool) (fact : national.Fact) → cond (not b) (fact ∷ []) [] ≡ listed (cond b None (Some fact))
reached_by true fact = refl
reached_by false fact = refl

reached_one : (max_front : ℤ) (waits : Option national.Fact) →
    filter (λ x. not (is_reached (start_of x) max_front)) (listed waits) ≡ listed (unless_ended_by (national.NationalEntry.Reached max_front) waits)
reached_one max_front None = refl
reached_one max_front (Some fact) = reached_by (is_reached (start_of fact) max_front) fact

-- a group leaves what waits
entered_one : (country : ℕ) (waits : Option national.Fact) →
    filter (λ x. true) (listed waits) ≡ listed (unless_ended_by (national.NationalEntry.Entered country) waits)
entered_one country None = refl
entered_one country (Some fact) = refl

-- no mode ends it
pub none_deletes : (m : Mode) → deleting item.AnnouncedValues m ≡ false
none_deletes mode.StandBy = refl
none_deletes other = refl

abbrev waits : TrackReports → List national.Fact
waits reported = listed (waiting reported.values)

values_reported : (group : GroupIdentity) (place : ℤ) (moment : ℕ) (packet : Packet) (reported : TrackReports) →
    Follows values waits (Happening.Reported (fact_with group place moment packet)) reported
values_reported g p m (packets.NationalValues q) reported = ap (λ xs. national.fact_of q g.country p ∷ xs) (lost_all (waits reported))
values_reported g p m (packets.Linking q) reported = past_links values (λ a. refl) g p q (waits reported)
values_reported g p m (packets.LevelTransition q) reported =
    past_level values (λ a. refl) (level_reported (fact_with g p m (packets.LevelTransition q))) (waits reported)
values_reported g p m other reported = filter-true (waits reported)

values_one : (h : Happening) (reported : TrackReports) → Follows values waits h reported
values_one (Happening.Reported fact) reported = values_reported fact.group fact.place fact.moment fact.packet reported
values_one (Happening.Linked entry) reported = past_linked values refl entry (waits reported)
values_one (Happening.Accepted group) reported = entered_one group.country (waiting reported.values)
values_one (Happening.Seen sight) reported = reached_one sight.train.max_front (waiting reported.values)
values_one (Happening.Entered m) reported =
    ap (λ b. filter (λ x. not b) (waits reported)) (none_deletes m) ∙ filter-true (waits reported)
values_one other reported = filter-true (waits reported)

pub waiting_are : (hs : List Happening) → value values hs ≡ listed (waiting (reported_in hs).values)
waiting_are = follows values waits refl values_one

pub values_are : (hs : List Happening) → values_in hs ≡ waiting (reported_in hs).values
values_are hs = ap newest (waiting_are hs) ∙ newest_listed (waiting (reported_in hs).values)

-- ---- what is in force

module _ (kept : ValuesFor) where
  -- a packet that is used changes nothing that is in force
  reported_holds : (group : GroupIdentity) (place : ℤ) (moment : ℕ) (packet : Packet) (es : List NationalEntry) →
      in_force kept es ≡ in_force kept (after_values (fact_with group place moment packet) es)
  reported_holds g p m (packets.NationalValues q) es = refl
  reported_holds g p m other es = refl

  one_more : (entry : NationalEntry) (hs : List Happening) → in_force_in kept hs ≡ in_force kept (reported_in hs).values →
      in_force_after entry (values_in hs) (in_force_in kept hs) ≡ in_force kept (entry ∷ (reported_in hs).values)
  one_more entry hs r =
      ap (λ w. in_force_after entry w (in_force_in kept hs)) (values_are hs)
      ∙ ap (λ v. in_force_after entry (waiting (reported_in hs).values) v) r

  pub in_force_is : (hs : List Happening) → in_force_in kept hs ≡ in_force kept (reported_in hs).values
  in_force_is [] = refl
  in_force_is (Happening.Accepted group ∷ hs) = one_more (national.NationalEntry.Entered group.country) hs (in_force_is hs)
  in_force_is (Happening.Seen sight ∷ hs) = one_more (national.NationalEntry.Reached sight.train.max_front) hs (in_force_is hs)
  in_force_is (Happening.Reported fact ∷ hs) = in_force_is hs ∙ reported_holds fact.group fact.place fact.moment fact.packet (reported_in hs).values
  in_force_is (other ∷ hs) = in_force_is hs
