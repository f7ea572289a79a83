use Rattle.request_disk.proofs.Noted.{sync_touches}
use Rattle.request_disk.proofs.requesting.RequestDiskWriteDisk.sync.Goals as goal

pub returns-clause-moments : goal.returns-clause-moments
returns-clause-moments c = sync_touches c.args.self.now c.note.new.self c.has_space.ensures.kept c.note.ensures
