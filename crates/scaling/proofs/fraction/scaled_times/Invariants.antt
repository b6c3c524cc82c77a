-- After so many turns v is u scaled as often.
use Rattle.std.proofs.Common.{◌≡◌}
use Rattle.rounding.specs.Scaling.{scaled_times}
use Rattle.scaling.proofs.fraction.scaled_times.Given as goal

abbrev pub invariant-loop : goal.invariant-loop
invariant-loop l = l.v ≡ scaled_times l.counter l.u l.s.a l.s.d
