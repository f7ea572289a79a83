use Rattle.std.proofs.Common.{rules, ◌≡◌, ◌==◌, ℕ, List, Option, Some, None, is_some, sym, ◌∙◌, ap, subst}
use Rattle.std.specs.Prelude.{All, position}
use Rattle.request_disk.specs.declared.known.Known.{Known}
use Rattle.request_disk.specs.Known.{numbers_of, has_number, IsHeld}
use Rattle.request_disk.proofs.Holding.{has_turned, all_turned, held_at}
use Rattle.request_disk.proofs.known.KnownSectors.bytes_of.Goals as goal

pub returns-in-Some-clause-known : goal.returns-in-Some-clause-known
returns-in-Some-clause-known c =
    let found : position (λ k. k.sector == c.args.sector) c.self.inside.entries.items ≡ Some c.in-Some.place = search rules in
    ap (λ (o : Option ℕ). is_some o) (sym found) ∙ has_turned c.args.sector c.self.inside.oldest c.self.inside.entries.items
    ∙ ap (λ (known : List Known). has_number c.args.sector (numbers_of known)) c.self.view_is

pub returns-in-Some-clause-bytes : goal.returns-in-Some-clause-bytes
returns-in-Some-clause-bytes c = λ sectors medium all.
    let found : position (λ k. k.sector == c.args.sector) c.as_slice-known.result.now ≡ Some c.in-Some.place = sym c.place_in.ensures ∙ c.in-Some.is in
    let held : All (IsHeld sectors medium) c.self.inside.entries.items =
    all_turned (IsHeld sectors medium) c.self.inside.oldest c.self.inside.entries.items (subst (λ (l : List Known). All (IsHeld sectors medium) l) (sym c.self.view_is) all) in
    held_at sectors medium c.as_slice-known.result.now c.args.sector c.in-Some.place _ found
    (subst (λ (l : List Known). All (IsHeld sectors medium) l) (sym c.as_slice-known.ensures.value) held)

pub returns-in-None-clause-known : goal.returns-in-None-clause-known
returns-in-None-clause-known c =
    let none : position (λ k. k.sector == c.args.sector) c.self.inside.entries.items ≡ None = search rules in
    ap (λ (o : Option ℕ). is_some o) (sym none) ∙ has_turned c.args.sector c.self.inside.oldest c.self.inside.entries.items
    ∙ ap (λ (known : List Known). has_number c.args.sector (numbers_of known)) c.self.view_is
