use Rattle.std.proofs.Common.{rules, ◌≡◌, Some, None, [], ◌++◌, append_assoc, sym, ◌∙◌, ap, subst, refl, IsTrue, take, List}
use Rattle.std.proofs.lemmas.List.{take_all, append-nil}
use Rattle.disk.specs.State.{State, contents_of}
use Rattle.events.specs.declared.input.Event.{Event}
use Rattle.events.specs.declared.step.Step.{Step}
use Rattle.whole_lives.specs.Runs.{accepted_by, flush_one, durable_by}
use Rattle.whole_lives.specs.Written.{earlier_one, earlier_by, IsLastWritten}
use Rattle.whole_lives.proofs.LastBlock.{last_on}
use Rattle.onboard.specs.declared.released.Released.{Released}
use Rattle.whole_lives.proofs.Onward.{stepped, stopped}
use Rattle.whole_lives.proofs.Stopping.{stood_on, stopped_here, done_before}
use Rattle.unit_start.specs.UnitState.{UnitState}
use Rattle.onboard.specs.Progress.{progress_of}
use Rattle.whole_lives.specs.Stops.{AllStand, AreAfter}
use Rattle.whole_lives.proofs.RunEnds.{going_first, finished, unflushed}
use Rattle.whole_lives.proofs.steps.run.Goals as goal

pub loop-k-init : goal.loop-k-init
loop-k-init g c = record {
  sectors = refl;
  honest = refl;
  faults = refl;
  stood = (tt, refl);
  going = λ whole_from s honest opened ahead. (
    [],
    sym (append-nil c.args.out.now.items),
    going_first whole_from s c.args.steps.now (g.D.WriteDisk.state c.args.unit.now.disk) c.args.unit.now.journal c.args.unit.now.life opened ahead,
  );
  last = λ whole_from earlier s honest opened ahead last. last;
}

pub returns-in-Err-clause-ran : goal.returns-in-Err-clause-ran
returns-in-Err-clause-ran g c = λ whole_from s honest opened ahead.
    let so = c.loop-k.invariant.going whole_from s honest opened ahead in
    let going = so.2 in
    let still : IsTrue (g.D.WriteDisk.state c.loop-k.unit.disk).honest = subst IsTrue (sym c.loop-k.invariant.honest) honest in
    let step = c.in-Err.ensures.stepped whole_from going.durable (accepted_by s (take c.loop-k.k c.args.steps.now)) still going.opened going.ahead in
    let end = stopped whole_from s c.args.steps.now c.loop-k.k (search rules) c.step_at.result _ c.step_at.ensures (g.D.WriteDisk.state c.args.unit.now.disk) (g.D.WriteDisk.state c.loop-k.unit.disk) c.loop-k.invariant.sectors c.loop-k.unit.journal c.loop-k.unit.life so.0 going (g.D.WriteDisk.state c.take.new.unit.disk) c.args.out.now.items c.take.new.out.items (c.in-Err.ensures.nothing ∙ so.1) step.0 in (
      end.0,
      done_before s c.args.steps.now c.loop-k.k c.in-Err.error _ _ _ _ c.in-Err.ensures.named end.1 end.2,
      unflushed whole_from s c.args.steps.now c.loop-k.k (g.D.WriteDisk.state c.args.unit.now.disk) (g.D.WriteDisk.state c.loop-k.unit.disk) (g.D.WriteDisk.state c.take.new.unit.disk) c.loop-k.unit.journal c.loop-k.unit.life so.0 c.in-Err.error end.0.durable_at_end
          c.loop-k.invariant.sectors going c.in-Err.ensures.named (λ full. ap (λ (u : UnitState _). g.D.WriteDisk.state u.disk) (c.in-Err.ensures.full full).1) (end.2.0 ∙ sym going.durable_is),
    )

pub loop-k-preserved : goal.loop-k-preserved
loop-k-preserved g c = record {
  sectors = search rules;
  honest = search rules;
  faults = search rules;
  stood = stood_on (progress_of c.args.unit.now.journal c.args.unit.now.life) (progress_of c.loop-k.unit.journal c.loop-k.unit.life) c.args.steps.now c.loop-k.k (search rules) c.step_at.result _ c.step_at.ensures
      c.loop-k.invariant.stood.0 c.loop-k.invariant.stood.1 (progress_of c.take.new.unit.journal c.take.new.unit.life) c.in-Ok.ensures.stood.0 c.in-Ok.ensures.stood.1;
  going = λ whole_from s honest opened ahead.
      let so = c.loop-k.invariant.going whole_from s honest opened ahead in
      let going = so.2 in
      let still : IsTrue (g.D.WriteDisk.state c.loop-k.unit.disk).honest = subst IsTrue (sym c.loop-k.invariant.honest) honest in
      let step = c.in-Ok.ensures.stepped whole_from going.durable (accepted_by s (take c.loop-k.k c.args.steps.now)) still going.opened going.ahead in (
        so.0 ++ step.1.0,
        step.1.1 ∙ ap (λ (l : List Released). l ++ step.1.0) so.1 ∙ append_assoc c.args.out.now.items so.0 step.1.0,
        stepped whole_from s c.args.steps.now c.loop-k.k (search rules) c.step_at.result _ c.step_at.ensures (g.D.WriteDisk.state c.args.unit.now.disk) (g.D.WriteDisk.state c.loop-k.unit.disk) c.loop-k.invariant.sectors c.loop-k.unit.journal c.loop-k.unit.life so.0 going (g.D.WriteDisk.state c.take.new.unit.disk) c.take.new.unit.journal c.take.new.unit.life step.1.0 (c.take.ensures.counted.sectors) step.0 step.1.2,
      );
  last = λ whole_from earlier s honest opened ahead last.
      let so = c.loop-k.invariant.going whole_from s honest opened ahead in
      let going = so.2 in
      let old : State = g.D.WriteDisk.state c.loop-k.unit.disk in
      let new : State = g.D.WriteDisk.state c.take.new.unit.disk in
      let still : IsTrue old.honest = subst IsTrue (sym c.loop-k.invariant.honest) honest in
      let first = take c.loop-k.k c.args.steps.now in
      let here = accepted_by s first in
      let before = earlier_by earlier s s first in
      let B : List Event → Type 0 = λ l. IsLastWritten old.sectors before l (contents_of old) in
      let A : List Event → Type 0 = λ l. IsLastWritten new.sectors (earlier_one before l here c.step_at.result) (flush_one l here c.step_at.result) (contents_of new) in
      let was : B going.durable = subst B (sym going.durable_is) (c.loop-k.invariant.last whole_from earlier s honest opened ahead last) in
      last_on earlier s c.args.steps.now c.loop-k.k c.step_at.result _ new.sectors (contents_of new) (search rules) c.step_at.ensures
      (subst A going.durable_is (c.in-Ok.ensures.last whole_from before going.durable here still going.opened going.ahead was));
}

pub returns-clause-ran : goal.returns-clause-ran
returns-clause-ran g c = λ whole_from s honest opened ahead.
    let so = c.loop-k.invariant.going whole_from s honest opened ahead in
    let end = finished whole_from s c.args.steps.now c.loop-k.k (g.D.WriteDisk.state c.args.unit.now.disk) (g.D.WriteDisk.state c.loop-k.unit.disk) c.loop-k.unit.journal c.loop-k.unit.life so.0 c.args.out.now.items c.loop-k.out.items so.1 so.2 in
    let all = take_all c.loop-k.k c.args.steps.now (search rules) in
    (end.0, (end.1 ∙ search rules, subst (λ (l : List Step). AreAfter s l end.0.durable_at_end end.0.accepted_at_end end.0.released) all end.2), tt)

pub returns-in-Err-clause-stopped : goal.returns-in-Err-clause-stopped
returns-in-Err-clause-stopped g c = stopped_here (progress_of c.args.unit.now.journal c.args.unit.now.life) (progress_of c.loop-k.unit.journal c.loop-k.unit.life) c.args.steps.now c.loop-k.k (search rules) c.step_at.result _ c.step_at.ensures
    c.loop-k.invariant.stood.0 c.loop-k.invariant.stood.1 c.in-Err.error c.in-Err.ensures.stopped

pub returns-clause-stopped : goal.returns-clause-stopped
returns-clause-stopped g c =
    let A : List Step → Type 0 = λ l. AllStand (progress_of c.args.unit.now.journal c.args.unit.now.life) l in
    subst A (take_all c.loop-k.k c.args.steps.now (search rules)) c.loop-k.invariant.stood.0

pub returns-in-Err-clause-full : goal.returns-in-Err-clause-full
returns-in-Err-clause-full g c = λ full. (c.in-Err.ensures.full full).0

pub returns-in-Err-clause-named : goal.returns-in-Err-clause-named
returns-in-Err-clause-named g c = λ none. (let clash : Some c.loop-k.k ≡ None = sym c.in-Err.ensures.named ∙ none in absurd cc)

pub returns-clause-last : goal.returns-clause-last
returns-clause-last g c = λ whole_from earlier s honest opened ahead last.
    let new : State = g.D.WriteDisk.state c.loop-k.unit.disk in
    let L : List Step → Type 0 = λ l. IsLastWritten new.sectors (earlier_by earlier s s l) (durable_by s l) (contents_of new) in
    subst L (take_all c.loop-k.k c.args.steps.now (search rules)) (c.loop-k.invariant.last whole_from earlier s honest opened ahead last)
