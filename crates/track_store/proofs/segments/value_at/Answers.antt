use Rattle.track_store.proofs.segments.value_at.Goals as goal

pub returns : goal.returns
returns g c = c.last_value.ensures c.args.place c.started.ensures
