-- The empty list is accepted.
use Rattle.std.proofs.Common.{refl}
use Rattle.calls.specs.Calls.{clear}
use Rattle.reel.specs.Machine.{scans}
use Rattle.reel.proofs.held.Promises.{accepts}
use Rattle.reel.proofs.held.Reel.clear.Goals as goal

pub returns : goal.returns
unfolding scans
returns c = accepts clear c.args.self _ refl refl refl refl refl
