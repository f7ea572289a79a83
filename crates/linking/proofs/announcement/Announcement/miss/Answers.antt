use Rattle.std.proofs.Common.{rules}
use Rattle.linking.proofs.announcement.Announcement.miss.Goals as goal

pub returns : goal.returns
returns c = search rules
