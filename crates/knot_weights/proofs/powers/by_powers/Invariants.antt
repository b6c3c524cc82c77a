-- At j the array holds the first j products, and power is base^j.
use Rattle.std.proofs.Common.{◌≡◌, pos}
use Rattle.knot_weights.specs.Machine.{power as power_of, by_powers}
use Rattle.knot_weights.proofs.Lists.{Replaced}
use Rattle.knot_weights.proofs.powers.by_powers.Given as goal

abbrev pub invariant-loop-j : goal.invariant-loop-j
invariant-loop-j l =
    record { power_is : l.power ≡ power_of l.base l.j; filled : Replaced l.w (λ j. pos 0) (by_powers l.base l.c) l.j }
