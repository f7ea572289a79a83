use Rattle.std.proofs.Common.{◌≡◌, ◌∷◌, false, inl, inr, [], List, refl, sym, subst, ap, IsTrue}
use Rattle.disk.specs.State.{State, contents_of, Counted}
use Rattle.events.specs.declared.input.Event.{Event}
use Rattle.events.specs.declared.input.Event.TheVariants.{PowerUp}
use Rattle.mode_table.specs.declared.statuses.Cold.{Cold}
use Rattle.unit_start.specs.Answers.{is_device, wants_memory}
use Rattle.unit_start.specs.Events.{record_of}
use Rattle.unit_start.specs.declared.errors.OpenError.{OpenError}
use Rattle.unit_start.proofs.InParts.{cause_of}
use Rattle.unit_start.proofs.PoweringUp.{counted_on}
use Rattle.whole_lives.specs.Answers.{live_failed}
use Rattle.whole_lives.specs.Runs.{IsOfLife, Lives}
use Rattle.whole_lives.specs.Written.{LeavesLast}
use Rattle.onboard.specs.Progress.{Progress}
use Rattle.whole_lives.specs.Stops.{StepsEnd, OnlyOpens, IsDone, IsUnflushed}
use Rattle.whole_lives.proofs.Stopping.{begins, same_done, done_opened, not_opening}
use Rattle.whole_lives.proofs.WholeLives.{lives_refused, lives_ran, unflushed_on, same_unflushed}
use Rattle.whole_lives.proofs.living.live.Goals as goal

pub returns-in-Ok-clause-life : goal.returns-in-Ok-clause-life
returns-in-Ok-clause-life g c = λ whole_from d a honest ready.
    let up = c.in-Ok.ensures.powers_up.up whole_from d a honest ready in
    let still : IsTrue (g.D.WriteDisk.state c.in-Ok.unit.disk).honest = subst IsTrue (sym c.in-Ok.ensures.powers_up.counted.honest) honest in
    let ran = c.run-result.ensures.ran whole_from (PowerUp up.power_up_cold ∷ up.found) still up.opened up.ahead in
    let lived = lives_ran whole_from d a up.found c.args.cold up.power_up_cold c.args.steps.now (g.D.WriteDisk.state c.args.disk) (g.D.WriteDisk.state c.in-Ok.unit.disk) up.opens (g.D.WriteDisk.state c.run-result.new.unit.disk) c.args.out.now.items c.run-result.new.out.items up.recorded c.in-Ok.ensures.powers_up.counted.sectors ran.0 in
    let U : Type 0 = OnlyOpens whole_from d a up.found up.power_up_cold (g.D.WriteDisk.state c.args.disk) (g.D.WriteDisk.state c.run-result.new.unit.disk) in
    let T : State → Type 0 = λ s. (x : List Event) × (w : Cold)
    × (x' : Lives whole_from d a x c.args.cold w c.args.steps.now (g.D.WriteDisk.state c.args.disk) s c.args.out.now.items c.run-result.new.out.items) × IsDone (PowerUp w ∷ x) c.args.steps.now (OnlyOpens whole_from d a x w (g.D.WriteDisk.state c.args.disk) s) c.run-result.result x'.steps_taken x'.durable_at_end x'.accepted_at_end x'.released
    × IsUnflushed whole_from (IsOfLife whole_from (g.D.WriteDisk.state c.args.disk).sectors d a x w) c.args.steps.now c.run-result.result x'.durable_at_end (g.D.WriteDisk.state c.args.disk) s
    × LeavesLast x w c.args.steps.now c.run-result.result s in
    let I = IsOfLife whole_from (g.D.WriteDisk.state c.args.disk).sectors d a up.found up.power_up_cold in
    subst T (sym (ap g.D.WriteDisk.state c.close.ensures)) (
      up.found,
      up.power_up_cold,
      lived.0,
      same_done (PowerUp up.power_up_cold ∷ up.found) c.args.steps.now U c.run-result.result _ _ _ _ _ _ _ _ lived.1 lived.2 lived.3 lived.4 (done_opened (PowerUp up.power_up_cold ∷ up.found) c.args.steps.now U c.run-result.result _ _ _ _ ran.1),
      same_unflushed whole_from I c.args.steps.now c.run-result.result ran.0.durable_at_end lived.0.durable_at_end (g.D.WriteDisk.state c.args.disk) (g.D.WriteDisk.state c.run-result.new.unit.disk) lived.2
          (unflushed_on whole_from d a up.found c.args.cold up.power_up_cold c.args.steps.now (g.D.WriteDisk.state c.args.disk) (g.D.WriteDisk.state c.in-Ok.unit.disk) up.opens (g.D.WriteDisk.state c.run-result.new.unit.disk) c.run-result.result ran.0.durable_at_end c.in-Ok.ensures.powers_up.counted.sectors ran.2),
      c.run-result.ensures.last whole_from up.found (PowerUp up.power_up_cold ∷ up.found) still up.opened up.ahead (record_of up.found (PowerUp up.power_up_cold) ∷ [], refl, up.last),
    )

pub returns-in-Err-clause-life : goal.returns-in-Err-clause-life
returns-in-Err-clause-life g c = λ whole_from d a honest ready.
    let back = c.in-Err.ensures.powers_up.up whole_from d a honest ready in
    let lived = lives_refused whole_from d a back.found c.args.cold back.power_up_cold c.args.steps.now (g.D.WriteDisk.state c.args.disk) (g.D.WriteDisk.state c.in-Err.disk) back.opens c.args.out.now.items in
    (back.found, back.power_up_cold, lived.0, (lived.1, back.opens.at_each_moment), (λ full. absurd cc), tt)

pub returns-in-Ok-clause-counted : goal.returns-in-Ok-clause-counted
returns-in-Ok-clause-counted g c =
    let old : State = g.D.WriteDisk.state c.args.disk in
    let C : State → Type 0 = λ s. Counted (live_failed c.run-result.result) old s in
    subst C (sym (ap g.D.WriteDisk.state c.close.ensures))
    (counted_on (live_failed c.run-result.result) old (g.D.WriteDisk.state c.in-Ok.unit.disk) (g.D.WriteDisk.state c.run-result.new.unit.disk) c.in-Ok.ensures.powers_up.counted c.run-result.ensures.counted)

pub returns-in-Err-clause-counted : goal.returns-in-Err-clause-counted
returns-in-Err-clause-counted g c = c.in-Err.ensures.powers_up.counted

pub returns-in-Ok-clause-stopped : goal.returns-in-Ok-clause-stopped
returns-in-Ok-clause-stopped g c =
    let E : Progress → Type 0 = λ p. StepsEnd p c.args.steps.now c.run-result.result in
    let fresh = c.in-Ok.ensures.powers_up.fresh in
    inr (c.in-Ok.unit.journal.newest, c.in-Ok.ensures.powers_up.next, subst E (begins c.in-Ok.unit.journal c.in-Ok.unit.life fresh.0 fresh.2 fresh.3) c.run-result.ensures.stopped)

pub returns-in-Err-clause-stopped : goal.returns-in-Err-clause-stopped
returns-in-Err-clause-stopped g c =
    let old : State = g.D.WriteDisk.state c.args.disk in
    inl (c.in-Err.error, refl, λ honest. cause_of old.sectors (contents_of old) c.in-Err.error c.in-Err.ensures.memory (c.in-Err.ensures.powers_up.answers honest).refused)

pub returns-in-Ok-clause-unopened : goal.returns-in-Ok-clause-unopened
returns-in-Ok-clause-unopened g c = λ e is. absurd (not_opening c.run-result.result e c.run-result.ensures.named is)

pub returns-in-Err-clause-unopened : goal.returns-in-Err-clause-unopened
returns-in-Err-clause-unopened g c = λ e is.
    let same : c.in-Err.error ≡ e = cc is in
    let M : OpenError → Type 0 = λ x. wants_memory x ≡ false in
    (refl, subst M same c.in-Err.ensures.memory)

pub returns-in-Ok-clause-nothing_added : goal.returns-in-Ok-clause-nothing_added
returns-in-Ok-clause-nothing_added g c = λ honest e is none. absurd (not_opening c.run-result.result e c.run-result.ensures.named is)

pub returns-in-Err-clause-nothing_added : goal.returns-in-Err-clause-nothing_added
returns-in-Err-clause-nothing_added g c = λ honest e is none.
    let same : c.in-Err.error ≡ e = cc is in
    let N : OpenError → Type 0 = λ x. is_device x ≡ false in
    c.in-Err.ensures.powers_up.nothing_added honest (subst N (sym same) none)

pub returns-in-Ok-clause-no_cause : goal.returns-in-Ok-clause-no_cause
returns-in-Ok-clause-no_cause g c = λ honest extends. (c.in-Ok.ensures.powers_up.answers honest).no_cause

pub returns-in-Err-clause-no_cause : goal.returns-in-Err-clause-no_cause
returns-in-Err-clause-no_cause g c = λ honest extends. absurd (extends c.in-Err.error refl)
