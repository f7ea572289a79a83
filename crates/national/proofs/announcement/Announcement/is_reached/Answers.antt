use Rattle.std.proofs.Common.{rules}
use Rattle.national.proofs.announcement.Announcement.is_reached.Goals as goal

pub returns-in-Some : goal.returns-in-Some
returns-in-Some c = search rules
