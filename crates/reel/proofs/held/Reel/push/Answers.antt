-- The list with a knot stored behind it.
use Rattle.std.proofs.Common.{arith, ◌∙◌, length-set}
use Rattle.reel.specs.Machine.{scans}
use Rattle.reel.proofs.Scans.{scans_appended}
use Rattle.reel.proofs.held.Reel.push.Goals as goal

pub returns : goal.returns
unfolding scans
returns c = scans_appended c.args.self.now c.args.knot c.requires.room

pub invariant_of-self : goal.invariant_of-self
invariant_of-self c =
    let r = c.args.self.now in
    record {
      room = length-set r.knots r.count c.args.knot ∙ r.room;
      few = omega (arith, c.requires.room);
      standing = rw (scans_appended r c.args.knot c.requires.room) c.requires.standing;
    }
