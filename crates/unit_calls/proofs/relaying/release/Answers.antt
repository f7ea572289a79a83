use Rattle.std.proofs.Common.{rules, ◌≡◌, List, Some, None, refl, ◌∙◌, ap, subst, arith}
use Rattle.unit_start.specs.Releases.{Release}
use Rattle.relayed_unit.specs.Relayed.{release_refusal}
use Rattle.unit_calls.specs.Handles.{Handing}
use Rattle.unit_calls.specs.Outputs.{last_of, AreHanded}
use Rattle.unit_calls.specs.declared.status.Status.TheVariants.{NoRoom}
use Rattle.unit_calls.proofs.Releasing.{no_cause, its_cause, small, refused, released}
use Rattle.unit_calls.proofs.relaying.release.Goals as goal

pub returns-then-outputs-lt-MOST_PENDING : goal.returns-then-outputs-lt-MOST_PENDING
returns-then-outputs-lt-MOST_PENDING c =
    let h : Handing = record { places = c.args.outputs.now; handed = c.args.outputs.now; counted = c.args.count.now; count = c.args.count.now; status = NoRoom } in
    small c.args.opened.now c.args.opened.now h (omega arith) (refl, refl, refl, refl)

pub returns-in-Ok : goal.returns-in-Ok
returns-in-Ok c =
    let none : release_refusal c.args.opened.now.unit ≡ None = no_cause _ c.release.result c.in-Ok.released c.in-Ok.is c.release.ensures.exact in
    let handed : c.as_slice.result.now ≡ c.args.opened.now.unit.outputs = c.as_slice.ensures.value ∙ c.in-Ok.ensures.released in
    let again : c.as_slice-in-Ok.result.now ≡ c.args.opened.now.unit.outputs = c.as_slice-in-Ok.ensures.value ∙ c.in-Ok.ensures.released in
    released _ _ _ (omega arith) none (record {
      done = refl;
      outputs = subst (λ (l : List Release). AreHanded l c.args.outputs.now c.hand_out.new.outputs) handed c.hand_out.ensures;
      counted = search (rules, c.in-Ok.ensures.released);
      last = c.last_of-opened.ensures ∙ ap (λ (l : List Release). last_of l c.args.opened.now.last) again;
      released = record {
        emptied = c.in-Ok.ensures.emptied;
        wants_nothing = c.in-Ok.ensures.wants_nothing;
        idle = c.release.ensures.idle;
        failed = c.release.ensures.failed;
        unit = c.release.ensures.unit;
        sectors = c.release.ensures.sectors;
        known = c.release.ensures.known;
        stands = c.in-Ok.ensures.stands;
      };
    })

pub returns-in-Err : goal.returns-in-Err
returns-in-Err c =
    let cause : release_refusal c.args.opened.now.unit ≡ Some c.in-Err.error = its_cause _ c.release.result c.in-Err.error c.in-Err.is c.release.ensures.exact in
    refused _ _ _ (omega arith) c.in-Err.error cause
    (c.of_release.ensures, refl, refl, (λ i. record { unit = c.in-Err.ensures.refused i; last = c.args.opened.now.last }))
