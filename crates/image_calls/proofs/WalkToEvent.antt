-- The life of an event is reported by the steps from a block on that begins with a power-up, or can't be read.
use Rattle.std.proofs.Common.{◌≡◌, ◌∙◌, ◌⊎◌, inl, inr, ⊎_elim, ℕ, zero, suc, ◌+◌, ◌-◌, ◌<◌, ◌≤◌, ◌==◌, nat_lt, Bool, true, false, if◌then◌else◌, List, [], ◌∷◌, ◌++◌, Option, Some, None, Result, Ok, Err, refl, sym, ap, subst, arith}
use Rattle.std.proofs.lemmas.Bool.{cases_lt}
use Rattle.blocks.specs.declared.block.Block.{Block}
use Rattle.blocks.specs.declared.records.BlockRecord.{BlockRecord}
use Rattle.events.specs.declared.input.Event.{Event}
use Rattle.events.specs.declared.input.Event.TheVariants.{PowerUp, Input}
use Rattle.events.specs.declared.kept.Kept.{Kept}
use Rattle.lives.specs.Steps.{Step, whole_valid_at, known_before, step_by, record_step, record_steps, follows_on, slot_steps, kept_before_next, block_at, steps_from, steps_of, before_number, steps_since, number_of_life}
use Rattle.lives.specs.declared.visit.Unknown.{Unknown}
use Rattle.lives.specs.declared.visit.Unknown.TheVariants.{BeforeOldest, Gap, WithinBlock}
use Rattle.lives.proofs.Places.{at_number}
use Rattle.mode_table.specs.declared.statuses.Cold.{Cold}
use Rattle.ring.specs.Slots.{Valid}
use Rattle.image_calls.specs.Asking.{IsFresh}
use Rattle.image_calls.specs.ImageDisk.{image_of}
use Rattle.image_calls.specs.Links.{cold_in, first_cold}
use Rattle.image_calls.specs.Lived.{Lived, is_requested, up_to, life_after, later_life, life_up_to}
use Rattle.image_calls.specs.declared.images.Ring.{Ring}

-- no head before a block says that it is within it
abbrev IsOfHead : Result Kept Unknown → Type 0
IsOfHead (Err WithinBlock) = ⊥
IsOfHead _ = Unit {0}

of_kept_before_next : (o : Option Block) → IsOfHead (kept_before_next o)
of_kept_before_next None = tt
of_kept_before_next (Some b) = tt

of_before : (slots : ℕ) (valids : ℕ → Option Valid) (from : ℕ) (later : Bool) → IsOfHead (if later then kept_before_next (block_at slots valids (from - 1)) else Err BeforeOldest)
of_before slots valids from true = of_kept_before_next (block_at slots valids (from - 1))
of_before slots valids from false = tt

-- ---- what a life after a power-up hangs on

-- its first step makes the life, whatever was known before
anew : (known : Result Kept Unknown) (cold : Cold) (block : Block) (life : ℕ) (r : BlockRecord) (at : Option Lived) → r.event ≡ PowerUp cold → IsOfHead known
    → life_after (Step.Begins block life known r) at ≡ life_after (Step.Begins block life known r) None
anew (Ok kept) cold block life r at is of = rw is refl
anew (Err WithinBlock) cold block life r at is of = absurd of
anew (Err other) cold block life r at is of = refl

of_known_if : (reason : Unknown) (kept : Kept) (first : Bool) → IsOfHead (Err reason) → IsOfHead (if first then Ok kept else Err reason)
of_known_if reason kept true of = tt
of_known_if reason kept false of = of

of_known : (before : Result Kept Unknown) (number : ℕ) → IsOfHead before → IsOfHead (known_before before number)
of_known (Ok kept) number of = tt
of_known (Err reason) number of = of_known_if reason _ (number == 0) of

cold_there : (event : Event) (cold : Cold) → cold_in event ≡ Some cold → event ≡ PowerUp cold
cold_there (PowerUp said) cold is = let e : Some said ≡ Some cold = is in let same : said ≡ cold = cc in ap PowerUp same
cold_there (Input input) cold is = absurd (let e : None ≡ Some cold = is in cc)

module _ (number event : ℕ) where
  abbrev is : Step → Bool
  is step = is_requested number event step

  skip : (step : Step) (rest : List Step) (at : Option Lived) → is step ≡ false → later_life (up_to is (step ∷ rest)) at ≡ later_life (up_to is rest) (life_after step at)
  skip step rest at other = ap (λ (b : Bool). later_life (if b then step ∷ [] else step ∷ up_to is rest) at) other

  first_if : (step : Step) (rest : List Step) (at : Option Lived) (b : Bool) → life_after step at ≡ life_after step None
      → later_life (if b then step ∷ [] else step ∷ up_to is rest) at ≡ later_life (if b then step ∷ [] else step ∷ up_to is rest) None
  first_if step rest at true same = same
  first_if step rest at false same = ap (λ (life : Option Lived). later_life (up_to is rest) life) same

  -- what is reported after a step is what it makes of the life
  first_matters : (step : Step) (rest : List Step) (at : Option Lived) → life_after step at ≡ life_after step None → later_life (up_to is (step ∷ rest)) at ≡ later_life (up_to is (step ∷ rest)) None
  first_matters step rest at same = first_if step rest at (is step) same

  -- ---- steps of other blocks aren't asked for

  other_step : (e : Event) (b : Block) (life : ℕ) (before : Result Kept Unknown) (r : BlockRecord) → (b.number == number) ≡ false → is (step_by e b life before r) ≡ false
  other_step (PowerUp cold) b life before r other = ap (λ (c : Bool). if c then r.number == event else false) other
  other_step (Input input) b life before r other = ap (λ (c : Bool). if c then r.number == event else false) other

  other_records : (b : Block) (before : Result Kept Unknown) (records : List BlockRecord) (rest : List Step) (at : Option Lived) → (b.number == number) ≡ false
      → later_life (up_to is (record_steps b before records ++ rest)) at ≡ later_life (up_to is rest) (later_life (record_steps b before records) at)
  other_records b before [] rest at other = refl
  other_records b before (r ∷ later) rest at other =
      let step : Step = record_step b (number_of_life b.kept.lives later) before r in
      skip step (record_steps b (Err WithinBlock) later ++ rest) at (other_step r.event b (number_of_life b.kept.lives later) before r other)
      ∙ other_records b (Err WithinBlock) later rest (life_after step at) other

  other_block : (b : Block) (before : Result Kept Unknown) (follows : Bool) (rest : List Step) (at : Option Lived) → (b.number == number) ≡ false
      → later_life (up_to is ((if follows then record_steps b before b.records.items else Step.Missing ∷ record_steps b (Err Gap) b.records.items) ++ rest)) at
      ≡ later_life (up_to is rest) (later_life (if follows then record_steps b before b.records.items else Step.Missing ∷ record_steps b (Err Gap) b.records.items) at)
  other_block b before true rest at other = other_records b before b.records.items rest at other
  other_block b before false rest at other = other_records b (Err Gap) b.records.items rest None other

  other_slot : (n : ℕ) (before : Result Kept Unknown) (o : Option Block) (rest : List Step) (at : Option Lived) → ((b : Block) → o ≡ Some b → (b.number == number) ≡ false)
      → later_life (up_to is (slot_steps n before o ++ rest)) at ≡ later_life (up_to is rest) (later_life (slot_steps n before o) at)
  other_slot n before None rest at other = refl
  other_slot n before (Some b) rest at other = other_block b before (follows_on before b.records.items) rest at (other b refl)

  module _ (slots : ℕ) (valids : ℕ → Option Valid) (own : (n : ℕ) (b : Block) → block_at slots valids n ≡ Some b → b.number ≡ n) where
    -- what the head before the next number says, after so many numbers
    abbrev after_numbers : ℕ → ℕ → Result Kept Unknown → Result Kept Unknown
    after_numbers zero k before = before
    after_numbers (suc m) k before = after_numbers m (suc k) (kept_before_next (block_at slots valids k))

    after_some : (m k : ℕ) (before : Result Kept Unknown) → after_numbers (suc m) k before ≡ kept_before_next (block_at slots valids (k + m))
    after_some zero k before = let same : k ≡ k + 0 = omega arith in ap (λ (n : ℕ). kept_before_next (block_at slots valids n)) same
    after_some (suc m) k before =
        let same : suc k + m ≡ k + suc m = omega arith in
        after_some m (suc k) (kept_before_next (block_at slots valids k)) ∙ ap (λ (n : ℕ). kept_before_next (block_at slots valids n)) same

    earlier : (m n k : ℕ) (before : Result Kept Unknown) (at : Option Lived) → k + m ≤ number
        → (life : Option Lived) × (later_life (up_to is (steps_from slots valids (m + n) k before)) at
        ≡ later_life (up_to is (steps_from slots valids n (k + m) (after_numbers m k before))) life)
    earlier zero n k before at low =
        let none : k ≡ k + 0 = omega arith in
        let size : 0 + n ≡ n = omega arith in
        (at, ap (λ (i : ℕ). later_life (up_to is (steps_from slots valids i k before)) at) size ∙ ap (λ (i : ℕ). later_life (up_to is (steps_from slots valids n i before)) at) none)
    earlier (suc m) n k before at low =
        let size : suc m + n ≡ suc (m + n) = omega arith in
        let place : suc k + m ≡ k + suc m = omega arith in
        let next : Result Kept Unknown = kept_before_next (block_at slots valids k) in
        let other = (λ (b : Block) (is_there : block_at slots valids k ≡ Some b). (let mine : b.number ≡ k = own k b is_there in let e : (b.number == number) ≡ false = grind (arith, mine, low) in e)) in
        let found = earlier m n (suc k) next (later_life (slot_steps k before (block_at slots valids k)) at) (omega (arith, low)) in (
          found.0,
          ap (λ (i : ℕ). later_life (up_to is (steps_from slots valids i k before)) at) size
              ∙ other_slot k before (block_at slots valids k) (steps_from slots valids (m + n) (suc k) next) at other
              ∙ found.1
              ∙ ap (λ (i : ℕ). later_life (up_to is (steps_from slots valids n i (after_numbers m (suc k) next))) found.0) place,
        )

    -- ---- from a block on that begins a life

    fresh_records : (b : Block) (before : Result Kept Unknown) (records : List BlockRecord) (rest : List Step) (at : Option Lived) (cold : Cold) → first_cold records ≡ Some cold → IsOfHead before
        → later_life (up_to is (record_steps b before records ++ rest)) at ≡ later_life (up_to is (record_steps b before records ++ rest)) None
    fresh_records b before [] rest at cold is_cold of = absurd (let e : None ≡ Some cold = is_cold in cc)
    fresh_records b before (r ∷ later) rest at cold is_cold of =
        let powers : r.event ≡ PowerUp cold = cold_there r.event cold is_cold in
        let life : ℕ = number_of_life b.kept.lives later in
        let begins : record_step b life before r ≡ Step.Begins b life (known_before before r.number) r = ap (λ (e : Event). step_by e b life before r) powers in
        first_matters (record_step b life before r) (record_steps b (Err WithinBlock) later ++ rest) at
        (subst (λ (s : Step). life_after s at ≡ life_after s None) (sym begins) (anew (known_before before r.number) cold b life r at powers (of_known before r.number of)))

    fresh_block : (b : Block) (before : Result Kept Unknown) (follows : Bool) (rest : List Step) (at : Option Lived) (cold : Cold) → first_cold b.records.items ≡ Some cold → IsOfHead before
        → later_life (up_to is ((if follows then record_steps b before b.records.items else Step.Missing ∷ record_steps b (Err Gap) b.records.items) ++ rest)) at
        ≡ later_life (up_to is ((if follows then record_steps b before b.records.items else Step.Missing ∷ record_steps b (Err Gap) b.records.items) ++ rest)) None
    fresh_block b before true rest at cold is_cold of = fresh_records b before b.records.items rest at cold is_cold of
    fresh_block b before false rest at cold is_cold of = refl

    fresh_slot : (n : ℕ) (before : Result Kept Unknown) (o : Option Block) (rest : List Step) (at : Option Lived)
        → ((b : Block) → o ≡ Some b → (cold : Cold) × (first_cold b.records.items ≡ Some cold)) → IsOfHead before
        → later_life (up_to is (slot_steps n before o ++ rest)) at ≡ later_life (up_to is (slot_steps n before o ++ rest)) None
    fresh_slot n before None rest at begins of = refl
    fresh_slot n before (Some b) rest at begins of =
        let found = begins b refl in fresh_block b before (follows_on before b.records.items) rest at found.0 found.1 of

    pub since_fresh : (from : ℕ) → 1 < from → from ≤ number → ((b : Block) → block_at slots valids from ≡ Some b → (cold : Cold) × (first_cold b.records.items ≡ Some cold))
        → later_life (up_to is (steps_since slots valids 1 number from)) None ≡ later_life (up_to is (steps_of slots valids 1 number)) None
    since_fresh from some within begins =
        let m : ℕ = from - 2 in
        let one : from - 1 ≡ suc m = omega (arith, some) in
        let n : ℕ = number - from in
        let left : number + 1 - from ≡ suc n = omega (arith, within) in
        let all : number + 1 - 1 ≡ suc m + suc n = omega (arith, some, within) in
        let place : 1 + suc m ≡ from = omega (arith, some) in
        let prior : 1 + m ≡ from - 1 = omega (arith, some) in
        let low : 1 + suc m ≤ number = omega (arith, some, within) in
        let head : Result Kept Unknown = before_number slots valids 1 from in
        let later : nat_lt 1 from ≡ true = grind (arith, some) in
        let after : after_numbers (suc m) 1 (Err BeforeOldest) ≡ head =
        after_some m 1 (Err BeforeOldest) ∙ ap (λ (i : ℕ). kept_before_next (block_at slots valids i)) prior
        ∙ sym (ap (λ (b : Bool). if b then kept_before_next (block_at slots valids (from - 1)) else Err BeforeOldest) later) in
        let found = earlier (suc m) (suc n) 1 (Err BeforeOldest) None low in
        let anyhow = fresh_slot from head (block_at slots valids from) (steps_from slots valids n (suc from) (kept_before_next (block_at slots valids from))) found.0 begins (of_before slots valids from (nat_lt 1 from)) in
        ap (λ (i : ℕ). later_life (up_to is (steps_from slots valids i from head)) None) left
        ∙ sym anyhow
        ∙ sym (ap (λ (b : Result Kept Unknown). later_life (up_to is (steps_from slots valids (suc n) from b)) found.0) after)
        ∙ sym (ap (λ (i : ℕ). later_life (up_to is (steps_from slots valids (suc n) i (after_numbers (suc m) 1 (Err BeforeOldest)))) found.0) place)
        ∙ sym found.1
        ∙ sym (ap (λ (i : ℕ). later_life (up_to is (steps_from slots valids i 1 (Err BeforeOldest))) None) all)

begins_there : (bytes : List ℕ) (ring : Ring) (from : ℕ) → IsFresh bytes ring from → (b : Block) → block_at ring.slots (whole_valid_at ring.slots ring.whole (image_of bytes)) from ≡ Some b
    → (cold : Cold) × (first_cold b.records.items ≡ Some cold)
begins_there bytes ring from (inl none) b there = absurd (let no : None ≡ Some b = sym none ∙ there in cc)
begins_there bytes ring from (inr held) b there =
    let same : held.0 ≡ b = (let e : Some held.0 ≡ Some b = sym held.2 ∙ there in cc) in
    (held.1, ap (λ (x : Block). first_cold x.records.items) (sym same) ∙ held.3)

-- .. of an image, where a search for a block that begins so ends
pub since_from : (number event : ℕ) (ring : Ring) (bytes : List ℕ) (from : ℕ) → 1 ≤ from → from ≤ number → (from ≡ 1) ⊎ IsFresh bytes ring from
    → later_life (up_to (is_requested number event) (steps_since ring.slots (whole_valid_at ring.slots ring.whole (image_of bytes)) 1 number from)) None ≡ life_up_to bytes ring number event
since_from number event ring bytes from some within (inl one) =
    let valids : ℕ → Option Valid = whole_valid_at ring.slots ring.whole (image_of bytes) in
    ap (λ (n : ℕ). later_life (up_to (is_requested number event) (steps_since ring.slots valids 1 number n)) None) one
since_from number event ring bytes from some within (inr is_fresh) = ⊎_elim
    (λ (later : 1 < from). since_fresh number event ring.slots (whole_valid_at ring.slots ring.whole (image_of bytes)) (λ n b there. at_number ring.slots ring.whole n (image_of bytes) b there) from later within
    (begins_there bytes ring from is_fresh))
    (λ (first : from ≤ 1). (let one : from ≡ 1 = omega (arith, some, first) in
    ap (λ (n : ℕ). later_life (up_to (is_requested number event) (steps_since ring.slots (whole_valid_at ring.slots ring.whole (image_of bytes)) 1 number n)) None) one))
    (cases_lt 1 from)
