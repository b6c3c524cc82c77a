-- Before turn k the lines of the pieces before k stand, each of at most 126 bytes.
use Rattle.std.proofs.Common.{◌*◌, ◌-◌, ◌≡◌, ◌≤◌, length}
use Rattle.text.specs.Text.{Put}
use Rattle.reel.specs.Machine.{scans}
use Rattle.report_lines.specs.Report.{piece_lines}
use Rattle.report_lines.proofs.lines.put_pieces.Given as goal

abbrev pub invariant-loop-k : goal.invariant-loop-k
invariant-loop-k l = record {
  pieces : l.k ≤ length (scans l.reel) - 1;
  put : Put l.fn.out 0 (piece_lines (scans l.reel) l.k) l.at l.out;
  within : l.at ≤ 126 * l.k;
  room : length l.out ≡ length l.fn.out;
}
