-- The reason is that of the block.
use Rattle.std.proofs.Common.{◌∙◌}
use Rattle.calls.specs.Reason.{reason_for}
use Rattle.reel.proofs.held.Reel.read_reason.Goals as goal

pub returns : goal.returns
unfolding reason_for
returns c = c.reason.ensures ∙ c.read.ensures.reads.reason
