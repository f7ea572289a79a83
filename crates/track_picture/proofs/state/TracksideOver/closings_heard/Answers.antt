use Rattle.std.proofs.Common.{◌≡◌, ◌+◌, ◌≤◌, List, [], Option, length, refl, ap, sym, subst, arith, ◌∙◌}
use Rattle.std.specs.Option.{option_map, option_map_or}
use Rattle.std.proofs.lemmas.List.{length-map}
use Rattle.std.proofs.lemmas.Result.{IfOk-weaker}
use Rattle.telegram.specs.declared.message.Telegram.{Telegram}
use Rattle.balise_groups.specs.Groups.GroupEntry.{Read}
use Rattle.balise_groups.specs.PacketCounts.{packets_in}
use Rattle.mode_table.specs.declared.mode.Mode.{Mode}
use Rattle.track_picture.specs.declared.closings.Closing.{Closing}
use Rattle.track_picture.specs.declared.closings.Closings.{Closings}
use Rattle.track_picture.specs.declared.happened.Happened.{Happened}
use Rattle.track_picture.specs.Closings.{closings_in, all_of}
use Rattle.track_picture.specs.Columns.{StandsForColumns, columns_of}
use Rattle.track_picture.specs.Entry.{TrackEntry, InputEffect, nothing, nothing_happened}
use Rattle.track_picture.specs.History.{place_of}
use Rattle.track_picture.specs.Sentences.{heard, with_closed, with_groups}
use Rattle.track_picture.specs.StandsFor.{Life, Knowledge, grown_so_far, space_in}
use Rattle.track_picture.proofs.Carrying.{carried_in, refused_none}
use Rattle.track_picture.proofs.Standing.{seen_columns as seen}
use Rattle.track_picture.proofs.state.TracksideOver.closings_heard.Goals as goal

abbrev with_telegram : List TrackEntry → Option Telegram → InputEffect
with_telegram entries o = record nothing { heard = option_map (λ t. Read (record { telegram = t; sums = (place_of entries).sums })) o }

abbrev closed_with : Mode → List TrackEntry → Option Telegram → List Closing
closed_with mode entries o =
    closings_in entries (with_telegram entries o) (with_groups mode entries (with_telegram entries o) nothing_happened).groups

pub returns-in_default-clause-closings : goal.returns-in_default-clause-closings
returns-in_default-clause-closings g c life s =
    let none = refused_none _ _ ((c.in_default.ensures.fault _).0 refl) in
    sym (ap (closed_with c.args.mode life.entries) none)

pub returns-clause-closings : goal.returns-clause-closings
returns-clause-closings g c =
    IfOk-weaker c.closings_of.result
    (λ (closings : Closings). (life : Life) (initial : InputEffect) (happened : Happened) → StandsForColumns g.T.ProfileStores.stores c.args.self.now life
    → c.hear.new.self ≡ columns_of (grown_so_far life initial (record { groups = []; happened = happened }))
    → all_of closings ≡ closings_in life.entries initial (with_closed c.args.mode life.entries initial c.hear.new.whole (with_closed c.args.mode life.entries initial c.hear.new.ended (record { groups = []; happened = happened }))).groups)
    (λ (closings : Closings). (life : Life) → StandsForColumns g.T.ProfileStores.stores c.args.self.now life
    → all_of closings ≡ closings_in life.entries (heard life.entries c.args.bytes.now) (with_groups c.args.mode life.entries (heard life.entries c.args.bytes.now) nothing_happened).groups)
    (λ closings reported life s. (let mode = c.args.mode in
    let bytes = c.args.bytes.now in
    let initial = heard life.entries bytes in
    let at = c.copy-parts.ensures ∙ (seen c.self.view_is s).parts_are in
    let carried = carried_in _ _ ((c.in-Ok.ensures.found _).0 refl) in
    let ended = c.hear.ensures.ended life bytes at carried in
    let whole = c.hear.ensures.whole life bytes at carried in
    reported life initial nothing_happened s (c.hear.ensures.stands life bytes at carried)
    ∙ (λ i. closings_in life.entries initial (with_closed mode life.entries initial (whole i) (with_closed mode life.entries initial (ended i) (record { groups = []; happened = nothing_happened }))).groups)))
    c.closings_of.ensures.closings

pub returns-clause-quiet : goal.returns-clause-quiet
returns-clause-quiet g c none space =
    let readings = c.args.self.now.parts.groups.readings in
    let most = space_in g.T.ProfileStores.stores c.args.self.now in
    let enough = subst (λ (o : Option Telegram). option_map_or (λ t. packets_in readings + length t.packets.items) o 0 ≤ most) (carried_in _ _ ((c.in-Ok.ensures.found _).0 refl)) space in
    let count : c.packets.result ≡ packets_in readings =
    c.packets.ensures.number ∙ ap (λ w. packets_in w.parts.groups.readings) c.self-inside.view_is
    ∙ ap (λ (k : Knowledge g.row.T-Gradients.Denot g.row.T-Speeds.Denot). packets_in k.parts.groups.readings) c.self.view_is in
    let own : c.len.result ≡ length c.in-Ok.telegram.packets.items = c.len.ensures ∙ sym (length-map _ _) ∙ ap length c.packets-2.ensures.packets in
    c.closings_of.ensures.quiet none (omega (arith, enough, count, own))
