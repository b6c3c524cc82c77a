-- The reel's line behind those of its pieces.
use Rattle.text.proofs.Sets.{put-put}
use Rattle.reel.specs.Machine.{scans}
use Rattle.report_lines.proofs.Texts.{reel_is}
use Rattle.report_lines.proofs.lines.put_reel.Goals as goal

pub returns-clause-put : goal.returns-clause-put
returns-clause-put c =
    put-put c.put_pieces-at.ensures.put
    (rw (reel_is (scans c.args.reel) _ c.total.ensures.replies, c.count-pieces.ensures) at c.put_reel_line.ensures.put)
