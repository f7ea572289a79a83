use Rattle.unit_calls.proofs.refusals.refusals_reported.Goals as goal

pub returns : goal.returns
returns c = λ events knows.
    let entry = c.reason-entry.ensures events knows in
    record { actions = c.reasons.ensures events knows; identity = λ text. entry; running_number = λ number. entry; train_data = λ train. entry }
