-- The digits, and the byte behind them.
use Rattle.text.proofs.Sets.{put_one, put-put}
use Rattle.report_lines.proofs.fields.put_number.Goals as goal

pub returns-clause-put : goal.returns-clause-put
returns-clause-put c = put-put c.put_decimal-end.ensures.put (put_one _ _ _)
