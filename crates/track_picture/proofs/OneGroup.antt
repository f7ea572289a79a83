-- One group more that closes: what became of it is reported by the links and the place before it.
use Rattle.std.proofs.Common.{◌≡◌, List, [], ◌∷◌, ◌++◌, Option, Some, None, refl, ap, sym, ◌∙◌}
use Rattle.balise_groups.specs.declared.message.Closed.{Closed}
use Rattle.balise_groups.specs.declared.message.Closed.TheVariants as closed
use Rattle.balise_groups.specs.declared.message.Message.{Message}
use Rattle.linking.specs.declared.judgement.Verdict.{Verdict}
use Rattle.linking.specs.declared.judgement.Verdict.TheVariants.{Accept, Ignore, Reaction}
use Rattle.linking.specs.Judging.{judgement}
use Rattle.linking.specs.Linking.{KnownLinks}
use Rattle.mode_table.specs.declared.mode.Mode.{Mode}
use Rattle.track_picture.specs.declared.closings.Closing.{Closing}
use Rattle.track_picture.specs.declared.happened.Happened.{Happened}
use Rattle.track_picture.specs.Closings.{closing_of, closing_as, closing_if, closings_in, listed, all_of}
use Rattle.track_picture.specs.Columns.{columns_of}
use Rattle.track_picture.specs.Entry.{TrackEntry, InputEffect, Used, Outcome, blank, added, asking_for}
use Rattle.track_picture.specs.History.{links_of}
use Rattle.track_picture.specs.Sentences.{group_read, judged, outcome_at_first, outcome, after_group, with_closed}
use Rattle.track_picture.specs.StandsFor.{Life, KnownTrack, grown_so_far}
use Rattle.track_picture.proofs.SameParts.{same_parts}

-- where none closes after it
pub entry_with : (ended : Option Closing) → all_of (record { ended = ended; whole = None }) ≡ listed ended
entry_with None = refl
entry_with (Some one) = refl

-- the fix and the packets of an accepted group don't matter
at_first : (mode : Mode) (now : List TrackEntry) (links : KnownLinks) (message : Message) (verdict : Verdict) →
    closing_of links (outcome_at_first message verdict) ≡ closing_of links (outcome mode now message verdict)
at_first mode now links message (Accept announced) = refl
at_first mode now links message Ignore = refl
at_first mode now links message (Reaction a) = refl

pub one_more : (mode : Mode) (life : Life) (initial : InputEffect) (used : Used) (parts : KnownTrack) (group : Closed) →
    parts ≡ columns_of (grown_so_far life initial used) →
    closings_in life.entries initial used.groups ++ closing_as parts.links parts.place group ∷ []
    ≡ closings_in life.entries initial (after_group mode life.entries initial used group).groups
one_more mode life initial used parts (closed.Broken b) s =
    let is = s ∙ sym (same_parts (grown_so_far life initial used)) in
    ap (λ (k : KnownTrack). closings_in life.entries initial used.groups ++ closing_of k.links (Outcome.Broken b) ∷ []) is
one_more mode life initial used parts (closed.Whole message) s =
    let is = s ∙ sym (same_parts (grown_so_far life initial used)) in
    let entry : TrackEntry = record blank { initial = initial; used = used } in
    let all = entry ∷ life.entries in
    let j = judged all message in
    let written : TrackEntry = record blank { initial = initial; used = added (outcome_at_first message j.verdict) (asking_for j.effect used) } in
    let before = closings_in life.entries initial used.groups in
    ap (λ (k : KnownTrack). before ++ closing_of k.links (outcome_at_first message (judgement k.links (group_read k.place message)).verdict) ∷ []) is
    ∙ ap (λ (c : Closing). before ++ c ∷ []) (at_first mode (written ∷ life.entries) (links_of all) message j.verdict)

pub one_if : (mode : Mode) (life : Life) (initial : InputEffect) (happened : Happened) (parts : KnownTrack) (group : Option Closed) →
    parts ≡ columns_of (grown_so_far life initial (record { groups = []; happened = happened })) →
    listed (closing_if parts.links parts.place group)
    ≡ closings_in life.entries initial (with_closed mode life.entries initial group (record { groups = []; happened = happened })).groups
one_if mode life initial happened parts None s = refl
one_if mode life initial happened parts (Some group) s = one_more mode life initial (record { groups = []; happened = happened }) parts group s
