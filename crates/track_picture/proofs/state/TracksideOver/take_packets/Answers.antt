use Rattle.std.proofs.Common.{◌≡◌, ◌+◌, ◌-◌, ◌≤◌, List, ◌∷◌, [], Option, false, length, refl, sym, subst, ◌∙◌, arith}
use Rattle.std.specs.List.{list_any}
use Rattle.linking.specs.declared.announcement.Announcement.{Announcement}
use Rattle.balise_groups.specs.declared.message.Message.{Message}
use Rattle.odometry.specs.declared.fix.Fix.{Fix}
use Rattle.track_picture.specs.Entry.{TrackEntry, InputEffect, Used, Fact, blank, added}
use Rattle.track_picture.specs.Entry.Outcome.{Accepted}
use Rattle.track_picture.specs.Columns.{after_facts, StandsForColumns, description_of}
use Rattle.track_picture.specs.Steps.{facts}
use Rattle.track_picture.specs.StandsFor.{Life, Knowledge, grown, grown_so_far, space_in}
use Rattle.track_picture.specs.Reported.{Walked, IsReported, after_earlier, after_later}
use Rattle.track_picture.specs.Happenings.{comes_later, happenings}
use Rattle.track_picture.specs.History.{is_stopped}
use Rattle.track_picture.specs.Stores.{Stores}
use Rattle.track_picture.proofs.Marking.{one_mark}
use Rattle.track_picture.proofs.Description.{both_walks}
use Rattle.track_picture.proofs.Walking.{none_later}
use Rattle.track_picture.proofs.state.TracksideOver.take_packets.Goals as goal

-- what was reported before the packets
abbrev before : Life → TrackEntry → Walked
before life entry =
    let all = entry ∷ life.entries in
    record { life = grown life entry; stopped = is_stopped all; reported = description_of all }

module _ {G S : Type 0} (stores : Stores G S) (known : Knowledge G S) (life : Life) where
  stood : (entry : TrackEntry) → StandsForColumns stores known (grown life entry) → IsReported stores known (before life entry)
  stood entry s = record {
    parts_are = s.parts_are;
    restrictions_are = s.restrictions_are;
    mark_is = one_mark (happenings (entry ∷ life.entries));
    gradients_are = s.gradients_are;
    speeds_are = s.speeds_are;
  }

  -- after both walks
  stands : (reported : List Fact) (initial : InputEffect) (groups : Used) (message : Message) (announced : Option Announcement) (fix : Option Fix) →
      IsReported stores known (after_facts after_later reported (after_facts after_earlier reported (before life (record blank { initial = initial; used = added (Accepted message announced fix []) groups })))) →
      StandsForColumns stores known (grown_so_far life initial (added (Accepted message announced fix reported) groups))
  stands reported initial groups message announced fix t =
      let entry : TrackEntry = record blank { initial = initial; used = added (Accepted message announced fix []) groups } in
      let is = both_walks reported (before life entry) (happenings (entry ∷ life.entries)) refl in
      let after = subst (IsReported stores known) is t in
      record { parts_are = after.parts_are; restrictions_are = after.restrictions_are; gradients_are = after.gradients_are; speeds_are = after.speeds_are }

pub returns-then-take_all-clause-stands : goal.returns-then-take_all-clause-stands
returns-then-take_all-clause-stands g c life initial groups message announced fix s =
    let reported = facts c.args.used.now c.args.packets.now in
    let entry : TrackEntry = record blank { initial = initial; used = added (Accepted message announced fix []) groups } in
    let first = c.take_all.ensures.reported (before life entry) (stood _ _ life entry s) in
    stands _ _ life reported initial groups message announced fix (c.take_all-then-take_all.ensures.reported _ first)

-- the first walk met no packet for the second
pub returns-else-take_all-clause-stands : goal.returns-else-take_all-clause-stands
returns-else-take_all-clause-stands g c life initial groups message announced fix s =
    let reported = facts c.args.used.now c.args.packets.now in
    let entry : TrackEntry = record blank { initial = initial; used = added (Accepted message announced fix []) groups } in
    let first = c.take_all.ensures.reported (before life entry) (stood _ _ life entry s) in
    let none : list_any comes_later c.args.packets.now ≡ false = sym c.take_all.ensures.later ∙ c.if-take_all.false in
    stands _ _ life reported initial groups message announced fix
    (subst (IsReported g.T.ProfileStores.stores c.take_all.new.state) (sym (none_later c.args.used.now c.args.packets.now _ none)) first)

-- the first walk takes no more space than for its packets, the second none
pub returns-then-take_all-clause-space : goal.returns-then-take_all-clause-space
returns-then-take_all-clause-space g c =
    let count = length c.args.packets.now in
    let space = space_in g.T.ProfileStores.stores c.args.self.now in
    let inside : count ≤ space = c.requires in
    let split : count + (space - count) ≤ space = omega arith in
    let first : space - count ≤ space_in g.T.ProfileStores.stores c.take_all.new.state =
    omega (arith, c.take_all.ensures.space (space - count) split) in
    let left = c.take_all-then-take_all.ensures.space (space - count) first in
    omega arith

pub returns-else-take_all-clause-space : goal.returns-else-take_all-clause-space
returns-else-take_all-clause-space g c =
    let count = length c.args.packets.now in
    let space = space_in g.T.ProfileStores.stores c.args.self.now in
    let inside : count ≤ space = c.requires in
    let split : count + (space - count) ≤ space = omega arith in
    let left = c.take_all.ensures.space (space - count) split in
    omega arith
