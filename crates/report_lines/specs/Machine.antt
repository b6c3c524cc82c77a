-- What the functions of the report find and write.
use Rattle.std.specs.Prelude.{List, ◌≡◌, ℕ, suc, ◌*◌, ◌-◌, ◌≤◌, length, take, Result, IfOk}
use Rattle.rounding.specs.Limits.{knots_max}
use Rattle.scans.specs.Scan.{Scan, at}
use Rattle.scans.specs.RefusalTable.{first}
use Rattle.knot.specs.Machine.{refusal}
use Rattle.knot.specs.declared.table.Refusal.{Refusal}
use Rattle.block.specs.Reading.{list_of}
use Rattle.scans.specs.Pieces.{mark}
use Rattle.calls.specs.Calls.{value, trend, total, reply_to}
use Rattle.reel.specs.Machine.{reply_of, scans}
use Rattle.reel.specs.declared.held.Reel.{Reel}
use Rattle.report_lines.specs.Report.{piece_text, report_causes, report_of}
use Rattle.report_lines.specs.declared.row.Row.{Row}
use Rattle.report_lines.specs.declared.room.Report.{Report}

-- what is found of a block: the first of the report's causes; and where none holds, a reel with the block's list
pub record Opens (r : Result Reel Refusal) (bytes : List ℕ) : Type 0 where
  pub verdict : refusal r ≡ first (report_causes bytes)
  pub list : IfOk r (λ reel. scans reel ≡ list_of bytes)

-- what is asked of piece k
pub record Asks (row : Row) (scans : List Scan) (k : ℕ) : Type 0 where
  pub index : row.index ≡ k
  pub from : row.from ≡ (at scans k).position
  pub to : row.to ≡ (at scans (suc k)).position
  pub value : reply_of row.value ≡ reply_to (value (mark scans k)) scans
  pub trend : reply_of row.trend ≡ reply_to (trend (mark scans k)) scans
  pub total : reply_of row.total ≡ reply_to (total k (suc k)) scans

-- the text of that
abbrev pub row_text : Row → List ℕ
row_text row =
    piece_text row.index row.from row.to (reply_of row.value) (reply_of row.trend) (reply_of row.total)

-- the greatest length of a piece's line, and room for such a line of every piece
abbrev pub line_max : ℕ
line_max = 126

abbrev pub lines_max : ℕ
lines_max = line_max * (knots_max - 1)

-- room for every report: those lines, and the reel's of at most 47 bytes
abbrev pub room_max : ℕ
room_max = 16384

-- the report of a block: its bytes stand first in the text
pub record Reports (r : Report) (bytes : List ℕ) : Type 0 where
  pub within : r.length ≤ length r.text
  pub is : take r.length r.text ≡ report_of bytes
