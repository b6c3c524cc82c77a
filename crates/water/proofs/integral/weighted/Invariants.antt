-- At j, `sum` is the sum of the terms before it.
use Rattle.std.proofs.Common.{◌-◌, ◌≡◌}
use Rattle.integer.specs.Sum
use Rattle.water.proofs.integral.Terms.{term}
use Rattle.water.proofs.integral.weighted.Given as goal

abbrev pub invariant-loop-j : goal.invariant-loop-j
invariant-loop-j l = l.sum ≡ Sum.sum (l.j - 1) (term l.c l.w)
