use Rattle.unit_calls.proofs.opening.unit_begin_call.Given as goal

abbrev pub ghost-begin : goal.ghost-begin
ghost-begin g a = g.medium
