use Rattle.std.proofs.Common.{rules, ◌∙◌, ap, subst}
use Rattle.c_numbers.specs.KeptItems.{DescribesKept}
use Rattle.events.specs.declared.kept.Kept.{Kept}
use Rattle.events.specs.declared.output.Output.{Output}
use Rattle.kernel.specs.Lives.{life_of}
use Rattle.kernel.specs.declared.showing.Motion.{Motion}
use Rattle.mode_table.specs.Modes.{number_of as mode_number}
use Rattle.unit_calls.proofs.driver_values.driver_reported.Goals as goal

pub returns : goal.returns
returns c = λ events knows.
    let life = life_of events in
    let entry = c.acceptance-accepts_entry.ensures events knows in
    let driver = c.driver-driver.ensures life knows.life_is in
    record {
      kept = subst (λ (k : Kept). DescribesKept k c.kept_reported.result) (c.kept.ensures.lists events knows) c.kept_reported.ensures;
      speed = c.get.ensures.value ∙ ap (λ (m : Motion). m.speed) (c.motion.ensures life knows.life_is);
      mode = c.number.ensures ∙ ap (λ (o : Output). mode_number o.mode) (c.output.ensures life knows.life_is);
      accepts = c.acceptances.ensures events knows;
      identity = λ text. entry;
      running_number = λ number. entry;
      train_data = λ train. entry;
      revalidated = search (rules, driver);
      identity_status = search (rules, driver);
      running_number_status = search (rules, driver);
      train_status = search (rules, driver);
      gave_identity = search (rules, driver);
      gave_level = search (rules, driver);
      gave_train = search (rules, driver);
      has_left = search (rules, driver);
    }
