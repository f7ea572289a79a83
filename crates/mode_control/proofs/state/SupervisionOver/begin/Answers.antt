use Rattle.std.proofs.Common.{◌≡◌, true, Option, [], None, ap, sym, subst, ◌∙◌}
use Rattle.mode_table.specs.declared.mode.Mode.{Mode}
use Rattle.track_picture.specs.Sentences.{received}
use Rattle.track_picture.specs.Still.{SameAhead, closes_none}
use Rattle.mode_control.specs.declared.deed.Deed.{Deed}
use Rattle.mode_control.specs.Entry.{initial}
use Rattle.mode_control.specs.History.{tracks}
use Rattle.mode_control.specs.Life.{track_of, grown}
use Rattle.mode_control.specs.StandsFor.{KnownModes, Knowledge, StandsForLife}
use Rattle.mode_control.proofs.Standing.{seen}
use Rattle.mode_control.proofs.state.SupervisionOver.begin.Goals as goal

pub returns-clause-stands : goal.returns-clause-stands
returns-clause-stands g c life s =
    let before = seen c.self.view_is s in
    let mode = c.mode-mode.ensures ∙ ap (λ (k : KnownModes). k.mode) s.parts_are in
    let deed = c.deed-deed.ensures.stands life s in
    let input = c.args.input.now in
    subst (λ (x : Mode × Option Deed). StandsForLife g.T.ProfileStores.stores
    (record { parts = c.note.new.self; track = c.receive.new.self })
    (grown life (initial (received x.0 (tracks life.entries) input) x.1)))
    (λ i. (mode i, deed i))
    (record {
      parts_are = c.note.ensures.stands life (received c.mode-mode.result (tracks life.entries) input) before.parts_are;
      track_is = c.in_ok-closes.ensures.stands (track_of life) before.track_is;
    })

pub returns-clause-none : goal.returns-clause-none
returns-clause-none g c life s is =
    let before = seen c.self.view_is s in
    let mode = c.mode-mode.ensures ∙ ap (λ (k : KnownModes). k.mode) s.parts_are in
    subst (λ (x : Mode). (received x (tracks life.entries) c.args.input.now).used.groups ≡ []) mode
    (c.in_ok-closes.ensures.none (track_of life) before.track_is is)

pub returns-clause-kept : goal.returns-clause-kept
returns-clause-kept g c closes =
    let inside = ap (λ w. w.parts) c.self.view_is in
    let ahead = c.in_ok-closes.ensures.kept (subst (λ w. closes_none w.track.parts c.args.input.now ≡ true) (sym c.self.view_is) closes) in
    let done = c.note.ensures.none (c.deed-deed.ensures.none closes) in (
      done ∙ ap (λ (k : KnownModes). record k { done = None }) inside,
      subst (λ (w : Knowledge g.row.T-Gradients.Denot g.row.T-Speeds.Denot). SameAhead w.track.parts c.receive.new.self.parts) c.self.view_is ahead,
    )
