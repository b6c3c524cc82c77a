-- After j turns the power is h ^ j, and no product of an order below j is too large.
use Rattle.std.proofs.Common.{◌≡◌, ◌≤◌, ◌<◌, ◌^◌, ℕ}
use Rattle.rounding.specs.Limits.{size_max}
use Rattle.rounding.specs.Size.{product}
use Rattle.knot.proofs.size.list_reason.Given as goal

abbrev pub invariant-loop-j : goal.invariant-loop-j
invariant-loop-j l = record {
  power : l.power ≡ l.h ^ l.j;
  small : (i : ℕ) → i < l.j → product l.h l.list i ≤ size_max;
}
