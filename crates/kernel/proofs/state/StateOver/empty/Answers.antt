use Rattle.std.proofs.Common.{[], refl, subst}
use Rattle.driver.specs.declared.datum.Datum.TheVariants.{Unknown}
use Rattle.events.specs.declared.kept.Kept.{Kept}
use Rattle.events.specs.Nothing.{nothing_kept}
use Rattle.mode_table.specs.declared.statuses.Cold.TheVariants as cold
use Rattle.mode_control.specs.StandsFor.{StandsForLife}
use Rattle.kernel.proofs.state.StateOver.empty.Goals as goal

pub returns-clause-stands : goal.returns-clause-stands
returns-clause-stands g c =
    let window = c.new.ensures.nothing nothing_kept cold.Unknown in
    let limit = c.no_speed.ensures in
    let supervised = subst (λ (k : Kept). StandsForLife g.T.ProfileStores.stores c.new-2.result (record { kept = k; cold = cold.Unknown; entries = [] }))
    c.nothing.ensures c.new-2.ensures.stands in
    record {
      life_is = record { parts_are = λ i. record { window = window i; limit = limit i; position = Unknown }; supervision_is = supervised; carried_is = tt; still_is = tt };
      counts_are = refl;
    }
