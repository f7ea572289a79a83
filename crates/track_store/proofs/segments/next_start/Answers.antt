use Rattle.track_store.proofs.segments.next_start.Goals as goal

pub returns : goal.returns
returns g c = c.start_beyond.ensures c.args.place c.started.ensures
