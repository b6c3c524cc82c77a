-- As many as the scans.
use Rattle.std.proofs.Common.{sym}
use Rattle.reel.proofs.Scans.{length-scans}
use Rattle.reel.proofs.held.Reel.count.Goals as goal

pub returns : goal.returns
returns c = sym (length-scans c.args.self)
