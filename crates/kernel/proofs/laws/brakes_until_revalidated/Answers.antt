use Rattle.std.proofs.Common.{◌≡◌, Bool, true, false, not, cond, refl}
use Rattle.driver.proofs.Revalidated.{revalidated}
use Rattle.driver.specs.Data.{is_valid}
use Rattle.driver.specs.Revalidating.{revalidation_of, is_whole}
use Rattle.events.specs.declared.output.Brake.{Brake}
use Rattle.events.specs.declared.output.Brake.TheVariants as brake
use Rattle.mode_control.specs.History.{deeds}
use Rattle.mode_control.specs.Life.{left_at_power_up}
use Rattle.kernel.specs.Lives.{life_of}
use Rattle.kernel.proofs.laws.brakes_until_revalidated.Goals as goal

-- it is the first row
while_not : (revalidated : Bool) (other : Brake) → (revalidated ≡ true → ⊥) → cond (not revalidated) brake.Emergency other ≡ brake.Emergency
while_not true other not_so = absurd (not_so refl)
while_not false other not_so = refl

pub returns : goal.returns
returns c events not_so =
    let life = life_of events in
    let level_valid = is_valid (left_at_power_up life).level in
    let entries = deeds life.entries in
    while_not (is_whole (revalidation_of level_valid entries)) _
    (λ (h : is_whole (revalidation_of level_valid entries) ≡ true). not_so ((revalidated level_valid entries).0 h))
