-- The first j coefficient words are stored behind the knot's word.
use Rattle.block_writer.proofs.Stored.{Coefficients}
use Rattle.block_writer.proofs.writer.write_knot.Given as goal

abbrev pub invariant-loop-j : goal.invariant-loop-j
invariant-loop-j l = Coefficients l.initial.out l.i l.list l.out l.j
