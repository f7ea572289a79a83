use Rattle.std.proofs.Common.{◌≡◌, sym, subst, ap}
use Rattle.disk.specs.State.{State, contents_of}
use Rattle.journal.specs.Journals.{IsOpen}
use Rattle.journal.specs.JournalState.{JournalState as Journal}
use Rattle.unit_start.specs.Events.{account_of}
use Rattle.whole_lives.specs.Runs.{IsStepped}
use Rattle.events.specs.declared.step.Step.TheVariants.{Accept}
use Rattle.whole_lives.specs.Written.{IsLastWritten}
use Rattle.whole_lives.proofs.Stepping.{quiet_step}
use Rattle.whole_lives.proofs.Stopping.{no_cause, accept_stops}
use Rattle.onboard.specs.Answers.{refusal_of}
use Rattle.onboard.specs.Progress.{Progress, progress_of}
use Rattle.onboard.specs.declared.errors.AcceptError.TheVariants.{NoMemory}
use Rattle.whole_lives.proofs.steps.accept_one.Goals as goal

pub returns-in-Ok-clause-stepped : goal.returns-in-Ok-clause-stepped
returns-in-Ok-clause-stepped g c = λ whole_from durable accepted honest opened ahead.
    let old : State = g.D.WriteDisk.state c.args.unit.now.disk in
    let same : g.D.WriteDisk.state c.accept.new.self.disk ≡ old = ap g.D.WriteDisk.state c.accept.ensures.device.0 in
    let S : State → Type 0 = λ d. IsStepped whole_from (Accept c.args.input) durable accepted old d in
    let O : State → Type 0 = λ d. IsOpen c.accept.new.self.journal (account_of whole_from durable) d in
    let J : Journal → Type 0 = λ j. IsOpen j (account_of whole_from durable) old in (
      subst S (sym same) (quiet_step whole_from (Accept c.args.input) c.args.unit.now.journal durable accepted ahead.more old opened ahead.accepted_is),
      (subst O (sym same) (subst J (sym c.accept.ensures.device.1) opened), c.in-Ok.ensures.accepted durable accepted ahead),
    )

pub returns-in-Err-clause-stepped : goal.returns-in-Err-clause-stepped
returns-in-Err-clause-stepped g c = λ whole_from durable accepted honest opened ahead.
    let old : State = g.D.WriteDisk.state c.args.unit.now.disk in
    let same : g.D.WriteDisk.state c.accept.new.self.disk ≡ old = ap g.D.WriteDisk.state c.accept.ensures.device.0 in
    let S : State → Type 0 = λ d. IsStepped whole_from (Accept c.args.input) durable accepted old d in
    (subst S (sym same) (quiet_step whole_from (Accept c.args.input) c.args.unit.now.journal durable accepted ahead.more old opened ahead.accepted_is), tt)

pub returns-in-Ok-clause-stood : goal.returns-in-Ok-clause-stood
returns-in-Ok-clause-stood g c =
    let so : Progress = progress_of c.args.unit.now.journal c.args.unit.now.life in
    (no_cause (refusal_of so.failed so.pending so.moment c.args.input) c.accept.result _ (λ e. e ≡ NoMemory) c.in-Ok.is c.accept.ensures.exact, c.in-Ok.ensures.gone_on)

pub returns-in-Err-clause-stopped : goal.returns-in-Err-clause-stopped
returns-in-Err-clause-stopped g c =
    accept_stops (progress_of c.args.unit.now.journal c.args.unit.now.life) c.args.unit.now.life.state c.args.k c.args.input c.accept.result c.in-Err.error c.in-Err.is c.accept.ensures.exact c.accept.ensures.quiet

pub returns-in-Ok-clause-last : goal.returns-in-Ok-clause-last
returns-in-Ok-clause-last g c = λ whole_from earlier durable accepted honest opened ahead last.
    let L : State → Type 0 = λ s. IsLastWritten s.sectors earlier durable (contents_of s) in
    subst L (sym (ap g.D.WriteDisk.state c.accept.ensures.device.0)) last
