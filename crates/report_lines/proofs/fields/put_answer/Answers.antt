-- The number of the answer, and the byte behind it.
use Rattle.text.proofs.Sets.{put_one, put-put}
use Rattle.report_lines.proofs.fields.put_answer.Goals as goal

pub returns-clause-put : goal.returns-clause-put
returns-clause-put c = put-put c.put_shown-end.ensures.put (put_one _ _ _)
