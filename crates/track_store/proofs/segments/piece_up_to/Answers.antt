use Rattle.track_store.proofs.segments.piece_up_to.Goals as goal

pub returns-clause-within : goal.returns-clause-within
returns-clause-within g c = c.last_piece.ensures.within

pub returns-clause-before : goal.returns-clause-before
returns-clause-before g c = c.last_piece.ensures.before c.args.place c.counted_below.ensures c.requires.ahead

pub returns-clause-value : goal.returns-clause-value
returns-clause-value g c = c.last_piece.ensures.value c.args.place c.counted_below.ensures
