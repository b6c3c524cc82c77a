-- No scans.
use Rattle.std.proofs.Common.{refl}
use Rattle.reel.specs.Machine.{scans}
use Rattle.reel.proofs.held.Reel.empty.Goals as goal

pub returns-clause-none : goal.returns-clause-none
unfolding scans
returns-clause-none c = refl
