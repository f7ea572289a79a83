use Rattle.std.proofs.Common.{◌≡◌, ◌<◌, ◌≤◌, length, inl, ⊎_elim, refl, sym, ap, subst, arith}
use Rattle.std.proofs.lemmas.Bool.{cases_lt}
use Rattle.disk.specs.State.{State, contents_of}
use Rattle.events.specs.declared.step.Step.TheVariants.{Flush}
use Rattle.whole_lives.specs.Written.{earlier_one, IsLastWritten}
use Rattle.whole_lives.proofs.LastBlock.{still_last, next_last}
use Rattle.whole_lives.proofs.Stepping.{quiet_step, flush_step}
use Rattle.whole_lives.proofs.Stopping.{no_cause, flush_stops}
use Rattle.onboard.specs.Answers.{flush_refusal}
use Rattle.onboard.specs.Progress.{Progress, progress_of}
use Rattle.unit_start.specs.UnitState.{UnitState}
use Rattle.onboard.specs.declared.errors.FlushError.TheVariants.{DeviceFault}
use Rattle.whole_lives.proofs.steps.flush_onto.Goals as goal

pub returns-then-is_err-clause-stepped : goal.returns-then-is_err-clause-stepped
returns-then-is_err-clause-stepped g c = λ whole_from durable accepted honest opened ahead.
    (quiet_step whole_from Flush c.args.unit.now.journal durable accepted ahead.more (g.D.WriteDisk.state c.args.unit.now.disk) opened ahead.accepted_is, tt)

pub returns-in-Ok-clause-stepped : goal.returns-in-Ok-clause-stepped
returns-in-Ok-clause-stepped g c = λ whole_from durable accepted honest opened ahead. (
  flush_step whole_from durable accepted ahead.more (g.D.WriteDisk.state c.args.unit.now.disk) (g.D.WriteDisk.state c.flush.new.self.disk) c.flush.ensures.flushes.counted.sectors ahead.accepted_is (c.flush.ensures.flushes.any_moment whole_from durable accepted honest opened ahead),
  c.in-Ok.ensures.flushes.flushed whole_from durable accepted honest opened ahead,
)

pub returns-in-Err-clause-stepped : goal.returns-in-Err-clause-stepped
returns-in-Err-clause-stepped g c = λ whole_from durable accepted honest opened ahead. (
  flush_step whole_from durable accepted ahead.more (g.D.WriteDisk.state c.args.unit.now.disk) (g.D.WriteDisk.state c.flush.new.self.disk) c.flush.ensures.flushes.counted.sectors ahead.accepted_is (c.flush.ensures.flushes.any_moment whole_from durable accepted honest opened ahead),
  tt,
)

pub returns-then-is_err-clause-stopped : goal.returns-then-is_err-clause-stopped
returns-then-is_err-clause-stopped g c = inl refl

pub returns-in-Ok-clause-stood : goal.returns-in-Ok-clause-stood
returns-in-Ok-clause-stood g c =
    let so : Progress = progress_of c.args.unit.now.journal c.args.unit.now.life in
    (no_cause (flush_refusal so.failed so.pending so.newest) c.flush.result _ (λ e. e ≡ DeviceFault) c.in-Ok.is c.flush.ensures.flushes.exact, c.in-Ok.ensures.flushes.gone_on)

pub returns-in-Err-clause-stopped : goal.returns-in-Err-clause-stopped
returns-in-Err-clause-stopped g c =
    flush_stops (progress_of c.args.unit.now.journal c.args.unit.now.life) c.args.k c.flush.result c.in-Err.error g.D.WriteDisk.state c.args.unit.now.disk c.flush.new.self.disk c.in-Err.is c.flush.ensures.flushes.exact c.flush.ensures.flushes.counted
    (λ none. ap (λ (u : UnitState _). u.disk) (c.flush.ensures.nothing none))

pub returns-in-Ok-clause-last : goal.returns-in-Ok-clause-last
returns-in-Ok-clause-last g c = λ whole_from earlier durable accepted honest opened ahead last.
    let old : State = g.D.WriteDisk.state c.args.unit.now.disk in
    let new : State = g.D.WriteDisk.state c.flush.new.self.disk in
    let life = c.args.unit.now.life in
    let L : State → Type 0 = λ s. IsLastWritten s.sectors (earlier_one earlier durable accepted Flush) accepted (contents_of s) in
    ⊎_elim
    (λ (some : 0 < length life.records). next_last earlier durable accepted life ahead new.sectors (contents_of new) some (c.in-Ok.ensures.flushes.last whole_from durable accepted honest opened ahead some))
    (λ (ge : length life.records ≤ 0).
    let none : length life.records ≡ 0 = omega (arith, ge) in
    subst L (sym (ap (λ (u : UnitState _). g.D.WriteDisk.state u.disk) (c.flush.ensures.nothing none))) (still_last earlier durable accepted life ahead old.sectors (contents_of old) none last))
    (cases_lt 0 (length life.records))
