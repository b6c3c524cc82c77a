-- The reason of the first cause is found of the knots and the new one.
use Rattle.std.proofs.Common.{◌∙◌}
use Rattle.calls.specs.Reason.{reason_for}
use Rattle.reel.proofs.held.Reel.append_reason.Goals as goal

pub returns : goal.returns
unfolding reason_for
returns c = c.reason.ensures ∙ (rw c.list.ensures at c.append_cause.ensures).reason
