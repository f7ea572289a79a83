-- A text has one answer: a life, or a first fault.
use Rattle.std.proofs.Common.{◌≡◌, ◌⊎◌, ℕ, List, Bool, true, false, Option, Some, None, Result, Ok, Err, is_ok, is_some, unwrap_or, refl, sym, ap, ◌∙◌, subst, inl, inr}
use Rattle.std.specs.Prelude.{IsUtf8}
use Rattle.std.specs.Str.{is_utf8}
use Rattle.std.proofs.lemmas.Bool.{false≢true}
use Rattle.std.proofs.lemmas.Str.{IsUtf8-from_is_utf8, is_utf8-from_IsUtf8}
use Rattle.serde_json.specs.Data.{Data}
use Rattle.serde_json.specs.Read.{read}
use Rattle.mode_table.specs.declared.statuses.Cold.{Cold}
use Rattle.events.specs.declared.step.Step.{Step}
use Rattle.simulator.specs.Lives.{life_in}
use Rattle.simulator.specs.declared.fault.ScenarioFault.{ScenarioFault}
use Rattle.simulator.specs.declared.fault.ScenarioFault.TheVariants.{NotJson}
use Rattle.simulator.proofs.ValueFaults.{Fits, of_life}
use Rattle.simulator.specs.Scenarios.{IsReading, Describes, FaultOf}
use Rattle.simulator.specs.Laws.{DescribesALife, HasAFault}

same_value : (bytes : List ℕ) (d e : Data) → IsReading bytes d → IsReading bytes e → d ≡ e
same_value bytes d e one other = ap (λ o. unwrap_or o d) (sym one.1 ∙ other.1)

-- what two values answer that are one
same_life : (d e : Data) (r s : Result (Cold × List Step) ScenarioFault) → d ≡ e → life_in d ≡ r → life_in e ≡ s → r ≡ s
same_life d e r s same one other = sym one ∙ ap life_in same ∙ other

life_or : Result (Cold × List Step) ScenarioFault → Cold × List Step → Cold × List Step
life_or (Ok life) other = life
life_or (Err fault) other = other

fault_or : Result (Cold × List Step) ScenarioFault → ScenarioFault → ScenarioFault
fault_or (Ok life) other = other
fault_or (Err fault) other = fault

-- ---- NotJson

value_fits : (d : Data) → life_in d ≡ Err NotJson → ⊥
value_fits d is = (subst (λ (r : Result (Cold × List Step) ScenarioFault). Fits r) is (of_life d)).fits

pub no_value : (bytes : List ℕ) → FaultOf bytes NotJson → (d : Data) → ¬ IsReading bytes d
no_value bytes (inl none) = none.1
no_value bytes (inr value) = λ e other. value_fits value.0 value.2

-- ---- a life or a fault

of_life_in : (bytes : List ℕ) (d : Data) → IsReading bytes d → (r : Result (Cold × List Step) ScenarioFault) → life_in d ≡ r → DescribesALife bytes ⊎ HasAFault bytes
of_life_in bytes d reading (Ok life) is = inl (life.0, life.1, (d, reading, is))
of_life_in bytes d reading (Err fault) is = inr (fault, inr (d, reading, is))

of_read : (bytes : List ℕ) → IsUtf8 bytes → (o : Option Data) → read bytes ≡ o → DescribesALife bytes ⊎ HasAFault bytes
of_read bytes text None is = inr (NotJson, inl (refl, λ d reading. false≢true (ap is_some (sym is ∙ reading.1))))
of_read bytes text (Some d) is = of_life_in bytes d (text, is) (life_in d) refl

of_text : (bytes : List ℕ) (b : Bool) → is_utf8 bytes ≡ b → DescribesALife bytes ⊎ HasAFault bytes
of_text bytes false is = inr (NotJson, inl (refl, λ d reading. false≢true (sym is ∙ is_utf8-from_IsUtf8 bytes reading.0)))
of_text bytes true is = of_read bytes (IsUtf8-from_is_utf8 bytes is) (read bytes) refl

pub life_or_fault : (bytes : List ℕ) → DescribesALife bytes ⊎ HasAFault bytes
life_or_fault bytes = of_text bytes (is_utf8 bytes) refl

-- ---- one of them

reported_both : (bytes : List ℕ) (c : Cold) (s : List Step) (f : ScenarioFault) → Describes bytes c s → FaultOf bytes f → ⊥
reported_both bytes c s f life (inl none) = none.1 life.0 life.1
reported_both bytes c s f life (inr value) =
    false≢true (sym (ap is_ok (same_life life.0 value.0 (Ok (c, s)) (Err f) (same_value bytes life.0 value.0 life.1 value.1) life.2 value.2)))

pub not_both : (bytes : List ℕ) → DescribesALife bytes → HasAFault bytes → ⊥
not_both bytes life fault = reported_both bytes life.0 life.1 fault.0 life.2 fault.1

pub one_life : (bytes : List ℕ) (c e : Cold) (s t : List Step) → Describes bytes c s → Describes bytes e t → (c ≡ e) × (s ≡ t)
unfolding life_or
one_life bytes c e s t one other =
    let same = same_life one.0 other.0 (Ok (c, s)) (Ok (e, t)) (same_value bytes one.0 other.0 one.1 other.1) one.2 other.2 in
    (ap (λ r. (life_or r (c, s)).0) same, ap (λ r. (life_or r (c, s)).1) same)

pub one_fault : (bytes : List ℕ) (f g : ScenarioFault) → FaultOf bytes f → FaultOf bytes g → f ≡ g
unfolding fault_or
one_fault bytes f g (inl none) (inl also) = none.0 ∙ sym also.0
one_fault bytes f g (inl none) (inr value) = absurd (none.1 value.0 value.1)
one_fault bytes f g (inr value) (inl none) = absurd (none.1 value.0 value.1)
one_fault bytes f g (inr value) (inr also) =
    ap (λ r. fault_or r f) (same_life value.0 also.0 (Err f) (Err g) (same_value bytes value.0 also.0 value.1 also.1) value.2 also.2)
