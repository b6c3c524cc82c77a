-- The buffer keeps its length.
use Rattle.std.proofs.Common.{◌≡◌, length}
use Rattle.replay.proofs.script.run.Given as goal

abbrev pub invariant-loop : goal.invariant-loop
invariant-loop g l = length l.buffer ≡ 65536
