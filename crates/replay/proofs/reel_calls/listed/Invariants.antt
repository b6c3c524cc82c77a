-- What is kept has room; each turn reads a field more.
use Rattle.std.proofs.Common.{◌≤◌, length}
use Rattle.fields.specs.Split.{left}
use Rattle.replay.proofs.reel_calls.listed.Given as goal

abbrev pub invariant-loop-fields : goal.invariant-loop-fields
invariant-loop-fields l = l.count ≤ length l.room

abbrev pub decreases-loop-fields : goal.decreases-loop-fields
decreases-loop-fields l = length (left l.fields)
