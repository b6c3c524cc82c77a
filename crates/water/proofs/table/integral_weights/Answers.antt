-- `water::table::integral_weights` meets its contract, by one test of the whole table.
use Rattle.std.proofs.Common.{refl}
use Rattle.hermite.specs.Water
use Rattle.water.proofs.table.Recurrence.{by_test}
use Rattle.water.proofs.table.integral_weights.Goals as goal

pub returns : goal.returns
unfolding Water.c
returns c = by_test _ refl refl
