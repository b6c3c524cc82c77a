-- At i, u is that of step 2 after m − i turns.
use Rattle.std.proofs.Common.{◌≡◌, ◌-◌}
use Rattle.hermite.specs.Polynomial.{coefficient}
use Rattle.rounding.specs.HalfSum.{descended}
use Rattle.half_sum.proofs.steps.descended.Given as goal

abbrev pub invariant-loop-i : goal.invariant-loop-i
invariant-loop-i l = l.u ≡ descended (coefficient l.g) l.s.a l.s.d (l.m - l.i) l.i
