use Rattle.std.proofs.Common.{◌≡◌, ◌+◌, ◌≤◌, Option, length, refl, sym, ap, subst}
use Rattle.std.specs.Option.{option_map, option_map_or}
use Rattle.std.proofs.lemmas.Result.{on_ok_weaker, IfOk-weaker}
use Rattle.telegram.specs.declared.message.Telegram.{Telegram}
use Rattle.balise_groups.specs.Groups.GroupEntry.{Read}
use Rattle.balise_groups.specs.PacketCounts.{packets_in}
use Rattle.track_picture.specs.Entry.{InputEffect, nothing_happened, nothing}
use Rattle.track_picture.specs.History.{place_of}
use Rattle.track_picture.specs.Sentences.{with_groups}
use Rattle.track_picture.specs.StandsFor.{Life, grown_so_far, space_in}
use Rattle.track_picture.specs.Columns.{StandsForColumns}
use Rattle.track_picture.proofs.Carrying.{carried_in, refused_none}
use Rattle.track_picture.proofs.Standing.{seen_columns as seen}
use Rattle.track_picture.proofs.state.TracksideOver.listen.Goals as goal

pub returns-in-Ok-clause-stands : goal.returns-in-Ok-clause-stands
returns-in-Ok-clause-stands g c =
    on_ok_weaker c.read.result
    (λ taken life s. taken life c.args.bytes.now s (carried_in _ _ ((c.in-Ok.ensures.found _).0 refl)))
    c.read.ensures.stands

pub returns-in-Ok-clause-quiet : goal.returns-in-Ok-clause-quiet
returns-in-Ok-clause-quiet g c space =
    let packets = packets_in c.args.self.now.parts.groups.readings in
    let most = space_in g.T.ProfileStores.stores c.args.self.now in
    c.read.ensures.quiet
    (subst (λ (o : Option Telegram). option_map_or (λ t. packets + length t.packets.items) o 0 ≤ most) (carried_in _ _ ((c.in-Ok.ensures.found _).0 refl)) space)

pub returns-in-Ok-clause-idle : goal.returns-in-Ok-clause-idle
returns-in-Ok-clause-idle g c none =
    let packets = packets_in c.args.self.now.parts.groups.readings in
    c.read.ensures.idle
    (subst (λ (o : Option Telegram). option_map_or (λ t. packets + length t.packets.items) o 0 ≡ 0) (carried_in _ _ ((c.in-Ok.ensures.found _).0 refl)) none)

abbrev with_telegram : Life → Option Telegram → InputEffect
with_telegram life o = record nothing { heard = option_map (λ t. Read (record { telegram = t; sums = (place_of life.entries).sums })) o }

pub returns-in-Err-clause-stands : goal.returns-in-Err-clause-stands
returns-in-Err-clause-stands g c life s =
    let none = refused_none _ _ ((c.in-Err.ensures.fault _).0 refl) in
    let before = seen c.self.view_is s in
    subst
    (λ (o : Option Telegram). StandsForColumns g.T.ProfileStores.stores (record { parts = c.pass_over.new.self; restrictions = c.self.inside.restrictions; gradients = c.self.inside.gradients; speeds = c.self.inside.speeds }) (grown_so_far life (with_telegram life o) (with_groups c.args.mode life.entries (with_telegram life o) nothing_happened)))
    (sym none)
    (record { parts_are = c.pass_over.ensures life before.parts_are; restrictions_are = before.restrictions_are; gradients_are = before.gradients_are; speeds_are = before.speeds_are })

pub returns-in-Ok-clause-none : goal.returns-in-Ok-clause-none
returns-in-Ok-clause-none g c =
    IfOk-weaker c.read.result _ _
    (λ closes taken life s. taken life c.args.bytes.now s (carried_in _ _ ((c.in-Ok.ensures.found _).0 refl)))
    c.read.ensures.none

pub returns-in-Err-clause-none : goal.returns-in-Err-clause-none
returns-in-Err-clause-none g c life s _ =
    let none = refused_none _ _ ((c.in-Err.ensures.fault _).0 refl) in
    ap (λ (o : Option Telegram). (with_groups c.args.mode life.entries (with_telegram life o) nothing_happened).groups) none
