use Rattle.request_disk.proofs.requesting.RequestDisk.on.Given as goal

abbrev pub ghost-of : goal.ghost-of
ghost-of g a = g.medium
