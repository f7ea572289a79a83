use Rattle.unit_calls.proofs.opening.begin.Given as goal

abbrev pub ghost-begin : goal.ghost-begin
ghost-begin g a = g.medium
