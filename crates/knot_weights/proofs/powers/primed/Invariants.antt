-- At j the array holds the first j numbers w'.
use Rattle.std.proofs.Common.{pos}
use Rattle.hermite.specs.Slope
use Rattle.hermite.specs.Polynomial.{coefficient}
use Rattle.knot_weights.proofs.Lists.{Replaced}
use Rattle.knot_weights.proofs.powers.primed.Given as goal

abbrev pub invariant-loop-j : goal.invariant-loop-j
invariant-loop-j l = Replaced l.v (λ j. pos 0) (Slope.primed (coefficient l.w)) l.j
