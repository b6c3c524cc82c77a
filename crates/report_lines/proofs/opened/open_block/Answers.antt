-- Over the limit 1, and else what read refuses, then 8, or the block's list.
use Rattle.std.proofs.Common.{arith}
use Rattle.report_lines.proofs.Opening.{opens_refused, opens_few, opens_list}
use Rattle.report_lines.proofs.opened.open_block.Goals as goal

pub returns-in-Refused : goal.returns-in-Refused
returns-in-Refused c = opens_refused c.args.bytes.now (omega arith) c.read-handed.ensures.does c.in-Refused.cause c.in-Refused.is

pub returns-then-count-lt-KNOTS_MIN : goal.returns-then-count-lt-KNOTS_MIN
returns-then-count-lt-KNOTS_MIN c =
    opens_few c.args.bytes.now (omega arith) c.read-handed.ensures.does c.in_default.not-Refused
    (omega (arith, c.if-count-lt-KNOTS_MIN.true, c.count.ensures))

pub returns : goal.returns
returns c =
    opens_list c.args.bytes.now (omega arith) c.read-handed.ensures.does c.in_default.not-Refused
    (omega (arith, c.if-count-lt-KNOTS_MIN.false, c.count.ensures))
