-- The line of the first cause, or those of the block's list.
use Rattle.std.proofs.Common.{sym}
use Rattle.report_lines.proofs.Opening.{reported-refusal, reported_reel, two-knots}
use Rattle.report_lines.proofs.lines.put_report.Goals as goal

pub returns-in-Err-clause-put : goal.returns-in-Err-clause-put
returns-in-Err-clause-put c = rw (reported-refusal _ (sym c.in-Err.ensures.verdict)) c.put_refused.ensures.put

pub put_reel-requires : goal.put_reel-requires
put_reel-requires c = (rw c.in-Ok.ensures.list (two-knots _ (sym c.in-Ok.ensures.verdict)), c.requires)

pub returns-in-Ok-clause-put : goal.returns-in-Ok-clause-put
returns-in-Ok-clause-put c = rw (reported_reel _ (sym c.in-Ok.ensures.verdict), ← c.in-Ok.ensures.list) c.put_reel.ensures.put
