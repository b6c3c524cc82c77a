-- The number of the first fault of the block, or its list.
use Rattle.std.proofs.Common.{refl, sym, ◌∙◌, ap}
use Rattle.std.proofs.Math.Option.{some}
use Rattle.block.specs.Block.{block}
use Rattle.calls.specs.Calls.{read}
use Rattle.reel.specs.Machine.{scans}
use Rattle.reel.proofs.held.Promises.{refuses, accepts, changed-stands}
use Rattle.reel.proofs.held.Reel.read.Goals as goal

pub returns-in-Err-clause-does : goal.returns-in-Err-clause-does
returns-in-Err-clause-does c =
    refuses (read c.args.bytes.now) c.args.self c.cause.result c.refused.result c.refused.ensures
    (sym c.in-Err.ensures.reads.found ∙ ap some (sym c.cause.ensures))

-- what stands then is the list that the reader found
pub invariant_of-result-clause-standing : goal.invariant_of-result-clause-standing
invariant_of-result-clause-standing c =
    let found = c.in-Ok.ensures.reads in
    rw found.knots (changed-stands (read c.args.bytes.now) c.args.self (sym found.found))

pub returns-in-Ok-clause-does : goal.returns-in-Ok-clause-does
unfolding scans
returns-in-Ok-clause-does c =
    let found = c.in-Ok.ensures.reads in
    accepts (read c.args.bytes.now) c.args.self _ (sym found.found) refl refl refl found.knots

pub returns-in-Ok-clause-again : goal.returns-in-Ok-clause-again
unfolding scans
returns-in-Ok-clause-again c =
    let found = c.in-Ok.ensures in
    λ ok plain. ap block found.reads.knots ∙ found.block_value (sym found.reads.found) plain
