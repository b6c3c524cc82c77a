-- The first of its causes, or the sum of the knots.
use Rattle.std.proofs.Common.{arith, ◌≡◌, length, w32, to_z-of_z, sym, ◌∙◌, ap}
use Rattle.std.proofs.Math.Option.{some}
use Rattle.knot.proofs.Lists as Lists
use Rattle.reel.specs.Machine.{scans}
use Rattle.reel.proofs.Scans.{stands, length-scans}
use Rattle.reel.proofs.held.Promises.{sum-refuses, sum-stands, sum-accepts}
use Rattle.reel.proofs.held.Reel.combine.Goals as goal

pub combine-requires : goal.combine-requires
combine-requires c = rw c.list.ensures (stands c.args.self)

-- what is found is found of the reels' scans
pub returns-in-Err : goal.returns-in-Err
returns-in-Err c =
    let found = rw (to_z-of_z {w = w32} c.ranges.alpha, to_z-of_z {w = w32} c.ranges.beta, c.list.ensures, c.list-2.ensures) at c.in-Err.ensures in
    sum-refuses c.args.alpha c.args.beta c.args.self c.args.other c.cause.result c.refused.result c.refused.ensures
    (sym found.cause ∙ ap some (sym c.cause.ensures))

pub returns-in-Ok : goal.returns-in-Ok
unfolding scans
returns-in-Ok c =
    let found = rw (to_z-of_z {w = w32} c.ranges.alpha, to_z-of_z {w = w32} c.ranges.beta, c.list.ensures, c.list-2.ensures) at c.in-Ok.ensures in
    let many : length c.list.result.now ≡ c.args.self.count =
    omega (arith, Lists.length-scans c.list.result.now, ap length c.list.ensures, length-scans c.args.self) in
    sum-accepts c.args.alpha c.args.beta c.args.self c.args.other _ (sym found.cause) (rw many at found.are)

pub invariant_of-result : goal.invariant_of-result
invariant_of-result c =
    let found = rw (to_z-of_z {w = w32} c.ranges.alpha, to_z-of_z {w = w32} c.ranges.beta, c.list.ensures, c.list-2.ensures) at c.in-Ok.ensures in
    let many : length c.list.result.now ≡ c.args.self.count =
    omega (arith, Lists.length-scans c.list.result.now, ap length c.list.ensures, length-scans c.args.self) in
    record {
      room = found.room;
      few = c.args.self.few;
      standing = rw (← many, found.are) (sum-stands c.args.alpha c.args.beta c.args.self c.args.other (sym found.cause));
    }
