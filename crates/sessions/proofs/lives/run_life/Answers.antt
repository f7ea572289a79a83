use Rattle.std.proofs.Common.{◌∷◌, List, OnOk, subst}
use Rattle.std.specs.Io.KnownBytes.{Appends}
use Rattle.disk.specs.State.{State}
use Rattle.events.specs.declared.input.Event.{Event}
use Rattle.events.specs.declared.input.Event.TheVariants.{PowerUp}
use Rattle.mode_table.specs.declared.statuses.Cold.{Cold}
use Rattle.onboard.specs.declared.released.Released.{Released}
use Rattle.whole_lives.specs.Runs.{IsOfLife, Lives}
use Rattle.whole_lives.specs.Stops.{OnlyOpens, IsDone, IsUnflushed}
use Rattle.whole_lives.specs.Written.{LeavesLast}
use Rattle.sessions.specs.Reasons.{status_of}
use Rattle.sessions.specs.Sessions.{report_of}
use Rattle.sessions.proofs.Description.{said}
use Rattle.sessions.proofs.lives.run_life.Goals as goal

pub returns-clause-session : goal.returns-clause-session
returns-clause-session g c whole_from durable accepted honest ready =
    let old : State = g.D.WriteDisk.state c.args.disk in
    let new : State = g.D.WriteDisk.state c.live-disk.result.0 in
    let steps = c.args.steps.now in
    let ended = c.live-disk.result.1 in
    let out : List Released = c.live-disk.new.out.items in
    let answer = c.describe_life-status.result in
    let L : List Released → Type 0 = λ before. (found : List Event) × (power_up_cold : Cold)
    × (lived : Lives whole_from durable accepted found c.args.cold power_up_cold steps old new before out)
    × IsDone (PowerUp power_up_cold ∷ found) steps (OnlyOpens whole_from durable accepted found power_up_cold old new) ended lived.steps_taken lived.durable_at_end lived.accepted_at_end lived.released
    × IsUnflushed whole_from (IsOfLife whole_from old.sectors durable accepted found power_up_cold) steps ended lived.durable_at_end old new
    × LeavesLast found power_up_cold steps ended new in
    let lived = subst L c.new-released.ensures.items (c.live-disk.ensures.life whole_from durable accepted honest ready) in
    let A : List Released → Type 0 = λ l. OnOk answer (Appends (g.W.Write.contents c.args.out.now) (g.W.Write.contents c.describe_life-status.new.out) (report_of l ended)) in
    record {
      found = lived.0;
      power_up_cold = lived.1;
      released = out;
      ended = ended;
      life = lived.2;
      done = lived.3;
      unflushed = lived.4;
      last = lived.5;
      stopped = c.live-disk.ensures.stopped;
      reported = said (status_of ended) answer (report_of out ended) _ _ c.describe_life-status.ensures.status (subst A c.as_slice.ensures.value c.describe_life-status.ensures.lines);
    }
