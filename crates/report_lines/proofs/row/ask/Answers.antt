-- A list that can stand has at most 129 scans, at positions of 16 bits.
use Rattle.std.proofs.Common.{arith}
use Rattle.reel.proofs.Scans.{stands}
use Rattle.report_lines.proofs.row.ask.Goals as goal

pub overflow_add-k : goal.overflow_add-k
overflow_add-k c = omega (arith, (stands c.args.reel).count, c.requires)

pub overflow_mul-x : goal.overflow_mul-x
overflow_mul-x c =
    omega (arith, (stands c.args.reel).position c.args.k (omega (arith, c.requires)), c.position-from.ensures)

pub overflow_add-k-2 : goal.overflow_add-k-2
overflow_add-k-2 c = omega (arith, (stands c.args.reel).count, c.requires)
