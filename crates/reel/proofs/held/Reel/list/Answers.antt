-- The first knots of the array.
use Rattle.std.proofs.Common.{rules}
use Rattle.reel.specs.Machine.{scans}
use Rattle.reel.proofs.held.Reel.list.Goals as goal

pub returns : goal.returns
unfolding scans
returns c = search rules
