use Rattle.std.proofs.Common.{◌≡◌, ◌==◌, false, List, is_some, sym, ◌∙◌, subst}
use Rattle.std.specs.Prelude.{All, position}
use Rattle.request_disk.specs.Known.{IsHeld}
use Rattle.request_disk.specs.declared.known.Known.{Known}
use Rattle.request_disk.proofs.Holding.{place_same, held_still, held_more}
use Rattle.request_disk.proofs.known.KnownSectors.hold.Goals as goal

pub returns-clause-held : goal.returns-clause-held
returns-clause-held c = λ sectors medium after absent others one all.
    let s = c.args.entry.sector in let known : List Known = c.args.self.now in
    let none : is_some (position (λ k. k.sector == s) known) ≡ false = place_same s known ∙ absent in
    subst (λ (l : List Known). All (IsHeld sectors after) l) (sym c.add.ensures)
    (held_more (IsHeld sectors after) known c.args.entry (held_still sectors medium after s others known none all) one)
