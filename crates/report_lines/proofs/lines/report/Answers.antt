-- The text stands at the start of its room.
use Rattle.std.proofs.Common.{arith}
use Rattle.report_lines.proofs.Texts.{put_first}
use Rattle.report_lines.proofs.lines.report.Goals as goal

pub returns : goal.returns
returns c =
    let p = c.put_report-length.ensures in
    let t = put_first p.put (omega (arith, p.upper_bound, c.room-text.ensures)) in
    record { within = t.0; is = t.1 }
