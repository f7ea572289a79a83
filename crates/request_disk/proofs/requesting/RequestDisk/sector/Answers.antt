use Rattle.std.proofs.Common.{◌≡◌, ℕ, ◌+◌, ◌-◌, List, take, drop, sym, ◌∙◌, ap, arith, rules, Option, Some, None}
use Rattle.disk.specs.State.{sector_of, contents_of}
use Rattle.request_disk.specs.Requesting.{request_state}
use Rattle.request_disk.specs.Requests.{found_in, reported_at}
use Rattle.request_disk.proofs.Found.{bytes_now}
use Rattle.request_disk.proofs.Holding.{if_some}
use Rattle.request_disk.proofs.requesting.RequestDisk.sector.Goals as goal

pub returns-in-Some-clause-bytes : goal.returns-in-Some-clause-bytes
returns-in-Some-clause-bytes c =
    let w = c.args.self.now in
    let at : ℕ = c.in-Some.at in
    let size : at + 512 - at ≡ 512 = omega arith in
    let here : c.deref-in-Some.result.now ≡ w.written = search rules in
    let there : Some at ≡ found_in c.args.sector w.requests = search rules in
    ap (λ (n : ℕ). take n (drop at c.deref-in-Some.result.now)) size
    ∙ ap (λ (l : List ℕ). take 512 (drop at l)) here
    ∙ ap (λ (o : Option ℕ). reported_at w.medium w.written c.args.sector o) there
    ∙ bytes_now w.medium w.written c.args.sector w.requests

pub returns-in-None-clause-bytes : goal.returns-in-None-clause-bytes
returns-in-None-clause-bytes c =
    let w = c.args.self.now in let s = c.args.sector in
    let none : None ≡ found_in s w.requests = search rules in
    let medium : c.self.inside.medium.bytes ≡ w.medium = search rules in
    if_some _ (λ bytes. bytes.now ≡ sector_of c.self.inside.medium.bytes s) (λ bytes. bytes.now ≡ contents_of (request_state w) s)
    (λ bytes is. is ∙ ap (λ (l : List ℕ). sector_of l s) medium ∙ ap (λ (o : Option ℕ). reported_at w.medium w.written s o) none ∙ bytes_now w.medium w.written s w.requests)
    c.bytes_of.result (c.bytes_of.ensures.bytes c.self.inside.sectors c.self.inside.medium.bytes c.self.invariant.held)
