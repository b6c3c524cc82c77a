-- The knots that were passed are stored behind the header, and word i is the next.
use Rattle.block_writer.proofs.Stored.{Knots}
use Rattle.block_writer.proofs.writer.write.Given as goal

abbrev pub invariant-loop-knot : goal.invariant-loop-knot
invariant-loop-knot l = Knots l.initial.out l.knots l.out l.i l.knot-index
