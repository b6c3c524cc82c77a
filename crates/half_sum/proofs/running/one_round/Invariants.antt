-- Below the index each entry is its running sum, and sum is that of the entries so far.
use Rattle.std.proofs.Common.{◌≡◌}
use Rattle.hermite.specs.Polynomial.{coefficient}
use Rattle.hermite.specs.RunningSums.{rounds}
use Rattle.knot_weights.proofs.Lists.{Replaced}
use Rattle.half_sum.proofs.RunningSums.{sum_below}
use Rattle.half_sum.proofs.running.one_round.Given as goal

abbrev pub invariant-loop-x : goal.invariant-loop-x
invariant-loop-x l = record {
  sum_is : l.sum ≡ sum_below (coefficient l.initial.w) l.x-index;
  filled : Replaced l.w (coefficient l.initial.w) (rounds 1 (coefficient l.initial.w)) l.x-index;
}
