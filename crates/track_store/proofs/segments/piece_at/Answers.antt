use Rattle.track_store.proofs.segments.piece_at.Goals as goal

pub returns-in-Some-clause-value : goal.returns-in-Some-clause-value
returns-in-Some-clause-value g c = c.in-Some.ensures.0

pub returns-in-Some-clause-next : goal.returns-in-Some-clause-next
returns-in-Some-clause-next g c = c.in-Some.ensures.1

pub returns-clause-value : goal.returns-clause-value
returns-clause-value g c = c.last_value.ensures c.args.place c.started-count.ensures

pub returns-clause-next : goal.returns-clause-next
returns-clause-next g c = c.start_beyond.ensures c.args.place c.started-count.ensures
