-- What an object of one member asks for, by its name.
use Rattle.std.proofs.Common.{◌≡◌, ℕ, List, codes, Result, Err, sym, ap, ◌∙◌}
use Rattle.serde_json.specs.Data.{Data, no_members}
use Rattle.serde_json.specs.Find.{get}
use Rattle.serde_json.proofs.Views.{get_member-put_other}
use Rattle.simulator.specs.Shapes.{object_of_one}
use Rattle.simulator.specs.Steps.{drive, telegram, clock, driver, flush, or_else, by_key}
use Rattle.simulator.specs.declared.step_kinds.StepKind.{StepKind}
use Rattle.simulator.specs.declared.fault.ScenarioFault.{ScenarioFault}
use Rattle.simulator.specs.declared.fault.ScenarioFault.TheVariants.{Shape}

abbrev IsNot : List ℕ → List ℕ → Type 0
IsNot name key = name ≡ key → ⊥

other_than : (name key : List ℕ) (v : Data) (this : Data → Result StepKind ScenarioFault) (other : Result StepKind ScenarioFault) → IsNot name key → or_else (get key (object_of_one name v)) this other ≡ other
other_than name key v this other differs = ap (λ o. or_else o this other) (get_member-put_other key name v no_members (λ same. differs (sym same)))

pub by_none : (name : List ℕ) (v : Data) → IsNot name (codes "drive") → IsNot name (codes "telegram") → IsNot name (codes "clock") → IsNot name (codes "driver") → IsNot name (codes "flush")
    → by_key (object_of_one name v) ≡ Err Shape
unfolding by_key
by_none name v a b c d e =
    other_than name (codes "drive") v drive _ a ∙ other_than name (codes "telegram") v telegram _ b ∙ other_than name (codes "clock") v clock _ c
    ∙ other_than name (codes "driver") v driver _ d ∙ other_than name (codes "flush") v flush _ e
