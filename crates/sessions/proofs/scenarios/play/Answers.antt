use Rattle.std.proofs.Common.{ℕ, List, IsTrue, subst}
use Rattle.disk.specs.State.{State}
use Rattle.events.specs.declared.input.Event.{Event}
use Rattle.events.specs.declared.step.Step.{Step}
use Rattle.unit_start.specs.Lives.{IsReady}
use Rattle.sessions.specs.Sessions.{Session}
use Rattle.sessions.proofs.Description.{said}
use Rattle.sessions.proofs.scenarios.play.Goals as goal

pub returns-in_default : goal.returns-in_default
returns-in_default g c = record {
  reported = (
    c.in-Ok.life.0,
    c.in-Ok.life.1.items,
    c.in-Ok.ensures.ok,
    (
      c.in_default.ensures,
      said _ c.describe-status.result _ _ _ c.describe-status.ensures.status c.describe-status.ensures.line,
    ),
  );
}

pub returns : goal.returns
returns g c =
    let old : State = g.D.WriteDisk.state c.in-Some.disk in
    let new : State = g.D.WriteDisk.state c.run_life-disk.result.0 in
    let S : List Step → Type 0 = λ steps. (whole_from : ℕ) (durable accepted : List Event) → IsTrue old.honest → IsReady whole_from durable accepted old
    → Session whole_from durable accepted c.in-Ok.life.0 steps old new (g.W.Write.contents c.args.out) (g.W.Write.contents c.run_life-disk.new.out) c.run_life-disk.result.1 in
    record {
      reported = (
        c.in-Ok.life.0,
        c.in-Ok.life.1.items,
        c.in-Ok.ensures.ok,
        (
          c.in-Some.disk,
          c.in-Some.ensures,
          c.run_life-disk.ensures.counted,
          subst S c.as_slice.ensures.value c.run_life-disk.ensures.session,
        ),
      );
    }
