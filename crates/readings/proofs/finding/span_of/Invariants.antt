-- j knots are passed, and word i is that of knot j.
use Rattle.std.proofs.Common.{get_or}
use Rattle.block.specs.Bytes.{words}
use Rattle.block.specs.Fields.{knot_count}
use Rattle.readings.proofs.Spans.{Come}
use Rattle.readings.proofs.finding.span_of.Given as goal

abbrev pub invariant-loop-j : goal.invariant-loop-j
invariant-loop-j l = Come l.edition (words l.block) (knot_count (get_or (words l.block) 0 0)) l.k l._j l.i
