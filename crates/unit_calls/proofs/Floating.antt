-- A unit that is open along with its caller's medium, call by call.
use Rattle.std.proofs.Common.{◌≡◌, inl, ⊎_elim, ℕ, ◌+◌, ◌<◌, ◌≤◌, List, [], ◌++◌, length, map, refl, sym, ◌∙◌, ap, subst, arith}
use Rattle.std.proofs.lemmas.List.{append-nil, map-append}
use Rattle.disk.specs.State.{State, Platter, IsImage, AtEachMoment}
use Rattle.disk.specs.declared.record.Call.{Call}
use Rattle.events.specs.declared.input.Event.{Event}
use Rattle.journal.specs.JournalState.{JournalState}
use Rattle.journal.specs.Journals.{IsOpen}
use Rattle.request_disk.specs.Requesting.{Requesting, request_state}
use Rattle.unit_start.specs.Events.{pairs_of, account_of, IsAhead}
use Rattle.unit_start.specs.Lives.{Describes, DescribesEither}
use Rattle.unit_start.specs.Releases.{Release}
use Rattle.unit_start.specs.UnitState.{LifeState}
use Rattle.onboard.proofs.Resting.{rest_describes}
use Rattle.relayed_unit.specs.Relayed.{Relayed, StaysOpen}
use Rattle.unit_calls.specs.Histories.{IsPartOf, outputs_of, HasAll, AreOnMedium}
use Rattle.unit_calls.specs.Outputs.{description_of}
use Rattle.unit_calls.specs.declared.outputs.EtcsOutput.{EtcsOutput}
use Rattle.unit_calls.proofs.Carrying.{IsThere, image_there}
use Rattle.unit_calls.proofs.Parts.{part_both, part_front}

-- The medium at a number of requests of the list.
abbrev pub moment_of : Requesting → ℕ → Platter
moment_of disk k = (request_state disk).at k

-- What is so between two calls: of what was handed out, what is held back, the list, and how far it was carried out.
pub record Floats (whole_from sectors : ℕ) (handed : List EtcsOutput) (medium : Platter) (carried : ℕ) (u : Relayed) : Type 0 where
  pub size : u.moored.disk.sectors ≡ sectors
  -- what the medium has where the list begins, what it has where the list ends, and what was accepted
  pub settled : List Event
  pub durable : List Event
  pub accepted : List Event
  pub more : List Event
  pub begins : durable ≡ more ++ settled
  pub opened : IsOpen u.moored.unit.journal (account_of whole_from durable) (request_state u.moored.disk)
  pub ahead : IsAhead durable accepted u.moored.unit.life
  pub given : IsPartOf handed (outputs_of settled)
  pub held : IsPartOf (handed ++ map description_of u.outputs) (outputs_of durable)
  pub moments : (k : ℕ) → k ≤ length u.moored.disk.requests → (image : ℕ → List ℕ) → IsImage (moment_of u.moored.disk k) image
      → DescribesEither whole_from sectors settled durable image
  pub there : IsThere medium (moment_of u.moored.disk carried)
  pub within : carried ≤ length u.moored.disk.requests
  pub said : u.done ≤ carried

module _ {whole_from sectors : ℕ} {handed : List EtcsOutput} {medium : Platter} {carried : ℕ} {before : Relayed} (floats : Floats whole_from sectors handed medium carried before) where
  -- the medium has what was handed out
  pub on_medium : AreOnMedium whole_from sectors handed medium
  on_medium = record {
    durable = floats.settled;
    outputs = floats.given;
    each = λ image is. ⊎_elim
        (λ (describes : Describes whole_from sectors floats.settled image). let so : HasAll whole_from sectors floats.settled image = (floats.settled, [], refl, describes) in so)
        (λ (describes : Describes whole_from sectors floats.durable image). let so : HasAll whole_from sectors floats.settled image = (floats.durable, floats.more, floats.begins, describes) in so)
        (floats.moments carried floats.within image (image_there medium (moment_of before.moored.disk carried) image floats.there is));
  }

  -- the disk, the journal and what is held back are as they were
  pub stays : (after : Relayed) → request_state after.moored.disk ≡ request_state before.moored.disk
      → after.moored.unit.journal ≡ before.moored.unit.journal → after.outputs ≡ before.outputs → after.done ≤ carried
      → (accepted : List Event) → IsAhead floats.durable accepted after.moored.unit.life → Floats whole_from sectors handed medium carried after
  stays after same journal outputs said accepted ahead =
      let Journal : JournalState → Type 0 = λ j. IsOpen j (account_of whole_from floats.durable) (request_state before.moored.disk) in
      let Opened : State → Type 0 = λ s. IsOpen after.moored.unit.journal (account_of whole_from floats.durable) s in
      let Held : List Release → Type 0 = λ o. IsPartOf (handed ++ map description_of o) (outputs_of floats.durable) in
      let Moments : State → Type 0 = λ s. (k : ℕ) → k ≤ s.clock → (image : ℕ → List ℕ) → IsImage (s.at k) image → DescribesEither whole_from sectors floats.settled floats.durable image in
      let There : State → Type 0 = λ s. IsThere medium (s.at carried) in
      let Within : State → Type 0 = λ s. carried ≤ s.clock in record {
        size = ap (λ (s : State). s.sectors) same ∙ floats.size;
        settled = floats.settled;
        durable = floats.durable;
        accepted = accepted;
        more = floats.more;
        begins = floats.begins;
        opened = subst Opened (sym same) (subst Journal (sym journal) floats.opened);
        ahead = ahead;
        given = floats.given;
        held = subst Held (sym outputs) floats.held;
        moments = subst Moments (sym same) floats.moments;
        there = subst There (sym same) floats.there;
        within = subst Within (sym same) floats.within;
        said = said;
      }

  -- the next request is carried out
  pub carries : (after : Platter) → carried < length before.moored.disk.requests → IsThere after (moment_of before.moored.disk (carried + 1))
      → Floats whole_from sectors handed after (carried + 1) before
  carries after less there = let said = floats.said in record {
    size = floats.size;
    settled = floats.settled;
    durable = floats.durable;
    accepted = floats.accepted;
    more = floats.more;
    begins = floats.begins;
    opened = floats.opened;
    ahead = floats.ahead;
    given = floats.given;
    held = floats.held;
    moments = floats.moments;
    there = there;
    within = omega (arith, less);
    said = omega (arith, said);
  }

  -- a flush is prepared, where no request is left
  pub prepares : length before.moored.disk.requests ≡ 0 → (after : Relayed) → after.moored.disk.sectors ≡ before.moored.disk.sectors
      → AtEachMoment (request_state before.moored.disk) (request_state after.moored.disk) (DescribesEither whole_from before.moored.disk.sectors floats.durable floats.accepted)
      → IsOpen after.moored.unit.journal (account_of whole_from floats.accepted) (request_state after.moored.disk)
      → IsAhead floats.accepted floats.accepted after.moored.unit.life → after.outputs ≡ before.moored.unit.life.pairs → after.done ≡ 0
      → Floats whole_from sectors handed medium carried after
  prepares none after same each opened ahead outputs undone =
      let within = floats.within in
      let pairs : List Release = before.moored.unit.life.pairs in
      let T : ℕ → (ℕ → List ℕ) → Type 0 = λ n image. DescribesEither whole_from n floats.durable floats.accepted image in
      let M : Platter → Type 0 = λ p. IsThere medium p in
      let O : List EtcsOutput → Type 0 = λ l. IsPartOf (handed ++ map description_of pairs) l in
      let Held : List Release → Type 0 = λ o. IsPartOf (handed ++ map description_of o) (outputs_of floats.accepted) in
      let front : IsPartOf handed (outputs_of floats.durable) = part_front handed (map description_of before.outputs) (outputs_of floats.durable) floats.held in record {
        size = same ∙ floats.size;
        settled = floats.durable;
        durable = floats.accepted;
        accepted = floats.accepted;
        more = floats.ahead.more;
        begins = floats.ahead.accepted_is;
        opened = opened;
        ahead = ahead;
        given = front;
        held = subst Held (sym outputs) (subst O (sym (ap (λ (l : List Release). map description_of l) floats.ahead.pairs_are ∙ map-append description_of (pairs_of floats.durable) pairs))
            (part_both handed (outputs_of floats.durable) (map description_of pairs) front));
        moments = λ k most image is. subst (λ (n : ℕ). T n image) floats.size (each.each k (omega (arith, none)) most image is);
        there = subst M (sym (each.kept carried within)) floats.there;
        within = omega (arith, within, none);
        said = omega (arith, undone);
      }

  -- what is held back is handed out, and the list is empty
  pub releases : length before.moored.disk.requests ≤ before.done → (after : Relayed) → after.moored.disk.requests ≡ []
      → after.moored.disk.sectors ≡ before.moored.disk.sectors → StaysOpen before.moored after.moored
      → after.moored.unit.life ≡ before.moored.unit.life → after.outputs ≡ [] → after.done ≡ 0
      → Floats whole_from sectors (handed ++ map description_of before.outputs) medium 0 after
  releases all after none same (closed, shut, contents, opened) life outputs undone =
      let disk : Requesting = before.moored.disk in
      let next : Requesting = after.moored.disk in
      let within = floats.within in
      let said = floats.said in
      let end : carried ≡ length disk.requests = omega (arith, within, said, all) in
      let clock : length next.requests ≡ 0 = ap (λ (l : List Call). length l) none in
      let C : ℕ → Type 0 = λ k. IsThere medium (moment_of disk k) in
      let N : ℕ → Type 0 = λ k. IsThere medium (moment_of next k) in
      let T : ℕ → (ℕ → List ℕ) → Type 0 = λ n image. Describes whole_from n floats.durable image in
      let P : List EtcsOutput → Type 0 = λ l. IsPartOf l (outputs_of floats.durable) in
      let Held : List Release → Type 0 = λ o. IsPartOf ((handed ++ map description_of before.outputs) ++ map description_of o) (outputs_of floats.durable) in
      let last : IsThere medium (moment_of disk (length disk.requests)) = subst C end floats.there in
      let its : IsOpen after.moored.unit.journal (account_of whole_from floats.durable) (request_state next) = opened (account_of whole_from floats.durable) floats.opened in
      let now : IsThere medium (moment_of next (length next.requests)) = record {
        contents = λ s. last.contents s ∙ sym (contents s);
        closed = λ s shut_there. last.closed s (closed s);
      } in record {
        size = same ∙ floats.size;
        settled = floats.durable;
        durable = floats.durable;
        accepted = floats.accepted;
        more = [];
        begins = refl;
        opened = its;
        ahead = subst (λ (l : LifeState). IsAhead floats.durable floats.accepted l) (sym life) floats.ahead;
        given = floats.held;
        held = subst Held (sym outputs) (subst P (sym (append-nil (handed ++ map description_of before.outputs))) floats.held);
        moments = λ k most image is.
            let at : k ≡ length next.requests = omega (arith, most, clock) in
            let I : ℕ → Type 0 = λ n. IsImage (moment_of next n) image in
            inl (subst (λ (n : ℕ). T n image) (same ∙ floats.size) (rest_describes whole_from after.moored.unit.journal floats.durable (request_state next) its image (subst I at is)));
        there = subst N clock now;
        within = omega arith;
        said = omega (arith, undone);
      }
