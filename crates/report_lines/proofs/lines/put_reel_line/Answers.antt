-- The word, the piece count and the total, one behind another.
use Rattle.text.specs.Text.{decimal}
use Rattle.reel.specs.Machine.{reply_of}
use Rattle.report_lines.specs.Report.{space, line_feed, shown}
use Rattle.report_lines.proofs.Texts.{put-behind}
use Rattle.report_lines.proofs.lines.put_reel_line.Goals as goal

pub returns-clause-put : goal.returns-clause-put
returns-clause-put c =
    put-behind (shown (reply_of c.args.total)) line_feed
    (put-behind (decimal c.args.pieces) space c.put_bytes-named.ensures c.put_number-counted.ensures.put) c.put_answer.ensures.put
