-- Six numbers, each with what stands behind it.
use Rattle.text.specs.Text.{decimal}
use Rattle.reel.specs.Machine.{reply_of}
use Rattle.report_lines.specs.Report.{space, line_feed, shown}
use Rattle.report_lines.proofs.Texts.{put-behind}
use Rattle.report_lines.proofs.fields.put_row.Goals as goal

pub returns-clause-put : goal.returns-clause-put
returns-clause-put c =
    let row = c.args.row in
    let from = put-behind (decimal row.from) space c.put_number-indexed.ensures.put c.put_number-started.ensures.put in
    let to = put-behind (decimal row.to) space from c.put_number-ended.ensures.put in
    let value = put-behind (shown (reply_of row.value)) space to c.put_answer-valued.ensures.put in
    let trend = put-behind (shown (reply_of row.trend)) space value c.put_answer-trended.ensures.put in
    put-behind (shown (reply_of row.total)) line_feed trend c.put_answer.ensures.put
