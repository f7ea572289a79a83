use Rattle.std.proofs.Common.{◌≡◌, ◌∙◌, ℕ, List, ap, sym, subst}
use Rattle.std.specs.Prelude.{Result, Ok}
use Rattle.disk.specs.State.{State, contents_of, IsSynced, Touches}
use Rattle.journal.specs.Heads.{IsHead}
use Rattle.journal.specs.Journals.{IsFound}
use Rattle.journal.specs.UnderWay.{IsUnderWay}
use Rattle.journal.proofs.Finding.{as_it_was}
use Rattle.onboard.specs.declared.heap_unit.Parts.{Parts}
use Rattle.ring.specs.Account.{Account}
use Rattle.ring.specs.ScanState.{newest_in}
use Rattle.ring.specs.Slots.{valid_at, StandsFor}
use Rattle.unit_start.specs.Lives.{IsFoundIn}
use Rattle.unit_start.specs.PowersUp.{Continues}
use Rattle.unit_start.specs.UnitState.{LifeState, PartsState, initial}
use Rattle.unit_start.specs.declared.errors.OpenError.{OpenError}
use Rattle.unit_start.proofs.Afterwards.{found_in, found_on}
use Rattle.onboard.proofs.unit_place.UnitPlace.power_up.Given.{Over}
use Rattle.onboard.proofs.unit_place.UnitPlace.power_up.Goals.{After-power_up_after}
use Rattle.onboard.proofs.unit_place.UnitPlace.power_up.Goals as goal

-- What the power-up goes on from.
module _ (g : Over) (c : goal.After-power_up_after g) where
  abbrev now : State
  now = g.D.WriteDisk.state c.args.disk.now

  found_there : (sectors : ℕ) (image : ℕ → List ℕ) → IsUnderWay sectors image c.args.opening.now → IsHead c.args.opening.now.slots (valid_at c.args.opening.now.slots image) (newest_in c.args.opening.now) c.args.found
      → IsFoundIn sectors image c.journal-place.result c.args.found
  found_there sectors image way head =
      found_in c.args.opening.now c.journal-place.result c.args.found c.journal-place.ensures.slots c.journal-place.ensures.newest sectors image way (c.journal-place.ensures.scanned sectors image way) head

  found_now : (before : State) → now.sectors ≡ before.sectors → IsSynced now → Touches 0 0 before now → IsUnderWay before.sectors (contents_of before) c.args.opening.now
      → IsFoundIn before.sectors (contents_of before) c.journal-place.result c.args.found
      → (reported : Account) → StandsFor before.sectors reported (contents_of before) → IsFound reported now c.journal-place.result c.args.found
  found_now before size synced call way so reported stands =
      found_on before now c.journal-place.result c.args.found reported c.journal-place.ensures.bounds.least size synced call so (c.journal-place.ensures.scanned before.sectors (contents_of before) way) c.journal-place.ensures.events stands

pub returns-in-Err-clause-answers : goal.returns-in-Err-clause-answers
returns-in-Err-clause-answers g c = λ sectors image way head.
    c.in-Err.ensures.answers sectors image c.args.found (found_there g (goal.at.returns-in-Err-clause-answers g c).After-power_up_after sectors image way head)

pub returns-in-Err-clause-up : goal.returns-in-Err-clause-up
returns-in-Err-clause-up g c = λ whole_from d a before honest synced call way head ready.
    let it = (goal.at.returns-in-Err-clause-up g c).After-power_up_after in
    let size = c.requires.sectors ∙ sym way.formatted.size in
    let so = found_there g it before.sectors (contents_of before) way head in
    c.in-Err.ensures.up c.args.found c.args.cold whole_from d a before c.cold_of-recorded_cold.ensures c.state_before.ensures honest size (as_it_was before (now g it) call) so (found_now g it before size synced call way so) ready

pub returns-clause-answers : goal.returns-clause-answers
returns-clause-answers g c = λ sectors image way head.
    let it = (goal.at.returns-clause-answers g c).After-power_up_after in
    let its = c.in-Ok.ensures.answers sectors image c.args.found (found_there g it sectors image way head) in
    record { refused = tt; no_cause = its.no_cause; exact = its.exact }

pub returns-clause-up : goal.returns-clause-up
returns-clause-up g c = λ whole_from d a before honest synced call way head ready.
    let it = (goal.at.returns-clause-up g c).After-power_up_after in
    let size = c.requires.sectors ∙ sym way.formatted.size in
    let so = found_there g it before.sectors (contents_of before) way head in
    let journal = c.power_up_after.new.journal in
    let state = c.power_up_after.new.state in
    let place : Parts = c.deref_mut-place.result.now in
    let was : place ≡ c.args.self.parts.value = c.deref_mut-place.ensures.value in
    let left : LifeState = record { state = state; events = c.events-place.result; moment = place.life.moment; records = place.life.records.items; pairs = place.life.pairs.items } in
    let same : initial state journal.events ≡ left = (λ i. record {
      state = state;
      events = sym c.events-place.ensures.events i;
      moment = sym (ap (λ (parts : Parts). parts.life.moment) was ∙ c.args.self.no_moment) i;
      records = sym (ap (λ (parts : Parts). parts.life.records.items) was ∙ c.args.self.no_records) i;
      pairs = sym (ap (λ (parts : Parts). parts.life.pairs.items) was ∙ c.args.self.no_pairs) i;
    }) in
    let Up : LifeState → Type 0 = λ life. (let answer : Result PartsState OpenError = Ok (record { journal = journal; life = life }) in
    Continues whole_from d a c.args.cold before (g.D.WriteDisk.state c.power_up_after.new.disk) answer) in
    subst Up same (c.in-Ok.ensures.up c.args.found c.args.cold whole_from d a before c.cold_of-recorded_cold.ensures c.state_before.ensures honest size (as_it_was before (now g it) call) so (found_now g it before size synced call way so) ready)
