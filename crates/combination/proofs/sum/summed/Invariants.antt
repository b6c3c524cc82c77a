-- After some turns as many knots of the sum stand, and the iterators have what is left of both lists.
use Rattle.std.proofs.Common.{◌≡◌, drop}
use Rattle.std.specs.Iterator.Adapters.{enumerate_source, enumerate_count, zip_first, zip_second}
use Rattle.std.specs.Slice.Iter.{iter_rest}
use Rattle.combination.proofs.sum.Come.{Come}
use Rattle.combination.proofs.sum.summed.Given as goal

abbrev pub invariant-loop-k : goal.invariant-loop-k
invariant-loop-k l = record {
  ahead : iter_rest (zip_first (enumerate_source l.k-iterator)) ≡ drop (enumerate_count l.k-iterator) l.knots;
  its_ahead : iter_rest (zip_second (enumerate_source l.k-iterator)) ≡ drop (enumerate_count l.k-iterator) l.others;
  come : Come l.alpha l.beta l.knots l.others l.sums (enumerate_count l.k-iterator);
}
