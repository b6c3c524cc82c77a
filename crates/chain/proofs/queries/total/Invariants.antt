-- sum is the total of the pieces passed.
use Rattle.std.proofs.Common.{◌≡◌, ◌+◌, ◌-◌, ◌≤◌, length, drop, take}
use Rattle.std.specs.Slice.Iter.{windows_size, windows_rest}
use Rattle.knot.specs.Machine.{scans}
use Rattle.scans.specs.Queries.{total_over}
use Rattle.chain.proofs.queries.total.Given as goal

abbrev pub invariant-loop-pair : goal.invariant-loop-pair
invariant-loop-pair l =
    let rest = windows_rest l.pair-iterator in
    let all = take (l.j + 1 - l.i) (drop l.i l.knots) in
    let passed = length all - length rest in record {
      size : windows_size l.pair-iterator ≡ 2;
      least : 1 ≤ length rest;
      most : length rest ≤ length all;
      rest : rest ≡ drop passed all;
      sum : l.sum ≡ total_over (scans l.knots) l.i (l.i + passed);
    }
