use Rattle.std.proofs.Common.{◌≡◌, ℕ, ◌<◌, false, List, length, is_some, sym, ◌∙◌, ap, subst, rules}
use Rattle.std.specs.Prelude.{All}
use Rattle.disk.specs.State.{State, contents_of}
use Rattle.disk.specs.Record.{state_of}
use Rattle.request_disk.specs.Requests.{found_in}
use Rattle.request_disk.specs.Known.{numbers_of, has_number, IsHeld}
use Rattle.request_disk.specs.Medium.{with_sectors}
use Rattle.request_disk.specs.Requesting.{Requesting, request_state, knows}
use Rattle.request_disk.specs.declared.known.Known.{Known}
use Rattle.request_disk.proofs.Carried.{put_size, put_other, put_one}
use Rattle.request_disk.proofs.Holding.{has_added, or_right, unknown_held, reported_put, reported_others, same_medium}
use Rattle.request_disk.proofs.requesting.RequestDisk.provide.Goals as goal

module _ (c : goal.After-hold) where
  -- the disk as its fields say it
  abbrev w : Requesting
  w = record {
    sectors = c.self.inside.sectors;
    medium = c.self.inside.medium.bytes;
    known = numbers_of c.self.inside.known;
    requests = c.self.inside.requests.items;
    written = c.self.inside.written.items;
    faults = c.self.inside.faults;
    wanted = c.self.inside.wanted;
  }

  unknown : knows c.args.sector w ≡ false
  unknown = let unknown_sector : knows c.args.sector c.args.self.now ≡ false = search rules in ap (λ (v : Requesting). knows c.args.sector v) c.self.view_is ∙ unknown_sector

  below : c.args.sector < w.sectors
  below = subst (λ (v : Requesting). c.args.sector < v.sectors) (sym c.self.view_is) c.requires

  size : length c.args.bytes.now ≡ 512
  size = search rules

  abbrev next : List ℕ
  next = with_sectors c.args.bytes.now w.medium (record { first = c.args.sector; sectors = 1; from = 0 })

  carries : c.carry.new.self.bytes ≡ next
  carries = c.carry.ensures

  abbrev unknown_sector : Known
  unknown_sector = record { sector = c.args.sector; bytes = c.args.bytes.now }

pub invariant_of-self-2 : goal.invariant_of-self-2
invariant_of-self-2 c =
    let m = c.self.inside in let s = c.args.sector in
    let one : IsHeld m.sectors (next c) (unknown_sector c) = record { below = below c; bytes = sym (put_one m.sectors m.medium.bytes c.args.bytes.now s (below c) (size c) c.self.invariant.whole) } in
    let held : All (IsHeld m.sectors (next c)) c.hold.new.self =
    c.hold.ensures.held m.sectors m.medium.bytes (next c) (unknown_held s (w c) (unknown c))
    (put_other m.sectors m.medium.bytes c.args.bytes.now s (below c) (size c) c.self.invariant.whole) one c.self.invariant.held in
    record {
      whole = ap length (carries c) ∙ put_size m.sectors m.medium.bytes c.args.bytes.now s (below c) (size c) c.self.invariant.whole;
      held = subst (λ (medium : List ℕ). All (IsHeld m.sectors medium) c.hold.new.self) (sym (carries c)) held;
      within = c.self.invariant.within;
      only = c.self.invariant.only;
      none = c.self.invariant.none;
      requests_fit = c.self.invariant.requests_fit;
      bytes_fit = c.self.invariant.bytes_fit;
    }

pub returns-clause-same : goal.returns-clause-same
returns-clause-same c = λ is.
    let held : c.args.bytes.now ≡ contents_of (request_state (w c)) c.args.sector = is ∙ sym (ap (λ (v : Requesting). contents_of (request_state v) c.args.sector) c.self.view_is) in
    let S : List ℕ → State = λ medium. state_of (w c).sectors (w c).faults medium (w c).written (w c).requests in
    ap S (carries c ∙ same_medium (w c) c.args.sector c.args.bytes.now (below c) (size c) c.self.invariant.whole (unknown c) held)
    ∙ ap (λ (v : Requesting). request_state v) c.self.view_is

pub returns-clause-reported : goal.returns-clause-reported
returns-clause-reported c = λ _.
    let s = c.args.sector in
    ap (λ (medium : List ℕ). contents_of (state_of (w c).sectors (w c).faults medium (w c).written (w c).requests) s) (carries c)
    ∙ reported_put (w c) s c.args.bytes.now (below c) (size c) c.self.invariant.whole (unknown c)

pub returns-clause-others : goal.returns-clause-others
returns-clause-others c = λ s other.
    ap (λ (medium : List ℕ). contents_of (state_of (w c).sectors (w c).faults medium (w c).written (w c).requests) s) (carries c)
    ∙ reported_others (w c) c.args.sector c.args.bytes.now (below c) (size c) c.self.invariant.whole (unknown c) s other
    ∙ ap (λ (v : Requesting). contents_of (request_state v) s) c.self.view_is

pub returns-clause-known : goal.returns-clause-known
returns-clause-known c =
    let s = c.args.sector in
    or_right (is_some (found_in s c.self.inside.requests.items)) (has_number s (numbers_of c.hold.new.self))
    (ap (λ (numbers : List ℕ). has_number s numbers) c.hold.ensures.numbers ∙ has_added s (numbers_of c.self.inside.known))
