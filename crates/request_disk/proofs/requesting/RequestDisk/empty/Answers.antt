use Rattle.std.proofs.Common.{◌≡◌, ℕ, List, length, sym, ◌∙◌, ap, subst, rules, vec_len}
use Rattle.std.specs.Prelude.{All}
use Rattle.std.proofs.lemmas.List.Elements.{All-nil}
use Rattle.disk.specs.State.{sector_of, contents_of}
use Rattle.disk.specs.Record.{IsWithin}
use Rattle.disk.specs.declared.record.Call.{Call}
use Rattle.disk.proofs.Settling.{fresh_contents}
use Rattle.request_disk.specs.Known.{IsHeld}
use Rattle.request_disk.specs.Medium.{carried}
use Rattle.request_disk.specs.Requests.{IsRequest}
use Rattle.request_disk.specs.Requesting.{Requesting, request_state}
use Rattle.request_disk.proofs.Carried.{carried_now, carried_size}
use Rattle.request_disk.proofs.requesting.RequestDisk.empty.Goals as goal

module _ (c : goal.After-clear-2) where
  abbrev calls : List Call
  calls = c.self.inside.requests.items

  abbrev bytes : List ℕ
  bytes = c.self.inside.written.items

  within : All (IsWithin c.self.inside.sectors (length bytes)) calls
  within = search rules

  carries : c.carry.new.self.bytes ≡ carried bytes c.self.inside.medium.bytes calls
  carries = search rules

pub invariant_of-self : goal.invariant_of-self
invariant_of-self c =
    let m = c.self.inside in
    let W : List ℕ → List Call → Type 0 = λ w l. All (IsHeld m.sectors (carried w m.medium.bytes l)) c.carry-2.new.self in
    let raw : W c.deref-3.result.now c.deref-4.result.now = c.carry-2.ensures.held m.medium.bytes c.self.invariant.whole c.self.invariant.held in
    let held : W (bytes c) (calls c) = subst (λ (w : List ℕ). W w (calls c)) c.deref-3.ensures.value (subst (λ (l : List Call). W c.deref-3.result.now l) c.deref-4.ensures.value raw) in
    record {
      whole = ap length (carries c) ∙ carried_size m.sectors m.medium.bytes (bytes c) (calls c) (within c) c.self.invariant.whole;
      held = subst (λ (medium : List ℕ). All (IsHeld m.sectors medium) c.carry-2.new.self) (sym (carries c)) held;
      within = subst (λ (l : List Call). All (IsWithin m.sectors (vec_len c.clear-2.new.self)) l) (sym c.clear.ensures.items) (All-nil (IsWithin m.sectors (vec_len c.clear-2.new.self)));
      only = subst (λ (l : List Call). All IsRequest l) (sym c.clear.ensures.items) (All-nil IsRequest);
      none = λ _. c.clear-2.ensures.len;
      requests_fit = search rules;
      bytes_fit = search rules;
    }

pub returns-clause-contents : goal.returns-clause-contents
returns-clause-contents c = λ s.
    let m = c.self.inside in
    fresh_contents _ _ _ s c.clear.ensures.items
    ∙ ap (λ (l : List ℕ). sector_of l s) (carries c)
    ∙ carried_now m.sectors m.medium.bytes (bytes c) (calls c) (within c) c.self.invariant.whole s
    ∙ ap (λ (w : Requesting). contents_of (request_state w) s) c.self.view_is
