-- Between two knots the definition gives from here what it gives of the whole; within one, so do its coefficient words.
use Rattle.block.specs.Bytes.{words}
use Rattle.block_reader.proofs.reader.Come.{Come, Coefficients}
use Rattle.block_reader.proofs.reader.read_knots.Given as goal

abbrev pub invariant-loop-j : goal.invariant-loop-j
invariant-loop-j l = Coefficients (words l.block) l.i l.m l.coefficients l.j

abbrev pub invariant-loop-k : goal.invariant-loop-k
invariant-loop-k l = Come l.edition (words l.block) l.count l.knots l.k l.i
