use Rattle.std.proofs.Common.{rules, ◌≡◌, ◌++◌, List, length, map, take, drop, sym, ◌∙◌, ap, subst, arith}
use Rattle.std.specs.Prelude.{All}
use Rattle.std.proofs.lemmas.Grind.{common_steps}
use Rattle.std.proofs.lemmas.List.{take_at}
use Rattle.request_disk.specs.Known.{numbers_of, renewed, IsHeld}
use Rattle.request_disk.specs.Medium.{carried}
use Rattle.request_disk.specs.declared.known.Known.{Known}
use Rattle.request_disk.proofs.Holding.{map_turned, numbers_renewed, held_renewed}
use Rattle.request_disk.proofs.known.KnownSectors.carry.Goals as goal

module _ (c : goal.After-self-1) where
  abbrev before : List Known
  before = c.self.inside.entries.items

  abbrev after : List Known
  after = take c.self.inside.entries.len (c.renew.new.known ++ drop (length c.renew.new.known) before)

  renews : drop c.self.inside.oldest after ++ take c.self.inside.oldest after ≡ map (renewed c.args.written.now c.args.requests.now) c.args.self.now
  renews =
      let f : Known → Known = renewed c.args.written.now c.args.requests.now in
      let is : c.renew.new.known ≡ map f before = search rules in
      let size : length c.renew.new.known ≡ c.self.inside.entries.len = grind (arith, common_steps) in
      let all : after ≡ map f before = take_at c.renew.new.known (drop (length c.renew.new.known) before) c.self.inside.entries.len size ∙ is in
      ap (λ (l : List Known). drop c.self.inside.oldest l ++ take c.self.inside.oldest l) all
      ∙ map_turned f c.self.inside.oldest before ∙ ap (map f) c.self.view_is

pub returns-clause-numbers : goal.returns-clause-numbers
returns-clause-numbers c =
    ap (λ (known : List Known). numbers_of known) (renews c)
    ∙ numbers_renewed c.args.written.now c.args.requests.now c.args.self.now

pub returns-clause-held : goal.returns-clause-held
returns-clause-held c = λ medium size all.
    subst (λ (known : List Known). All (IsHeld c.args.sectors (carried c.args.written.now medium c.args.requests.now)) known) (sym (renews c))
    (held_renewed c.args.sectors medium c.args.written.now c.args.requests.now c.args.self.now c.requires size all)
