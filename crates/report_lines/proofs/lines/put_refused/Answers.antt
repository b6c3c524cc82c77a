-- The word, and the number of the cause behind it.
use Rattle.text.specs.Text.{decimal}
use Rattle.report_lines.specs.Report.{line_feed, refused_line}
use Rattle.report_lines.proofs.Texts.{put-behind}
use Rattle.report_lines.proofs.lines.put_refused.Goals as goal

pub returns-clause-put : goal.returns-clause-put
unfolding refused_line
returns-clause-put c =
    rw (← c.number.ensures) (put-behind (decimal c.number.result) line_feed c.put_bytes-named.ensures c.put_number.ensures.put)
