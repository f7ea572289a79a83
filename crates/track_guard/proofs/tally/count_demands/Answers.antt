use Rattle.std.proofs.Common.{◌≡◌, ℕ, suc, ◌+◌, List, ◌++◌, length, Option, None, Some, refl, ap, ◌∙◌, arith}
use Rattle.events.specs.declared.output.Brake.{Brake}
use Rattle.telegram.specs.declared.fault.TelegramFault.{TelegramFault}
use Rattle.track_guard.specs.Demands.{demands_in, fault_found, list_of, packets_found}
use Rattle.track_guard.specs.Guarding.{brake_of, brake_of_all, stronger, tally_of, tally_with}
use Rattle.track_guard.specs.declared.demanding.Demand.{Demand}
use Rattle.track_guard.specs.declared.tally.Tally.{Tally}
use Rattle.track_guard.proofs.tally.count_demands.Goals as goal

abbrev counted : ℕ → Brake → Tally
counted n brake = record { count = n; brake = brake }

joined : (d : Option Demand) (ds : List Demand) → tally_with d (tally_of ds) ≡ tally_of (list_of d ++ ds)
joined None ds = refl
joined (Some d) ds =
    let more : length ds + 1 ≡ suc (length ds) = omega arith in
    ap (λ (n : ℕ). counted n (stronger (brake_of d.action) (brake_of_all ds))) more

pub returns : goal.returns
returns c =
    let s = c.args.situation in
    let bytes = c.args.bytes.now in
    let packets = demands_in s bytes (packets_found bytes) in
    let refused = c.refused_demand.result in (
      list_of refused ++ packets,
      record {
        carried = λ t carries.
            ap (λ (ds : List Demand). ds ++ packets)
            (c.refused_demand.ensures ∙ ap (λ (f : Option TelegramFault). fault_found s bytes f) (c.fault_of-fault.ensures.carried t carries));
        refused = λ e refuses.
            ap (λ (ds : List Demand). ds ++ packets)
            (c.refused_demand.ensures ∙ ap (λ (f : Option TelegramFault). fault_found s bytes f) (c.fault_of-fault.ensures.refused e refuses));
      },
      c.with.ensures.all ∙ ap (tally_with refused) c.tally_found-found.ensures.all ∙ joined refused packets,
    )
