-- The list with a knot stored in place k.
use Rattle.std.proofs.Common.{◌∙◌, length-set}
use Rattle.reel.specs.Machine.{scans}
use Rattle.reel.proofs.Scans.{scans-corrected}
use Rattle.reel.proofs.held.Reel.put.Goals as goal

pub returns : goal.returns
unfolding scans
returns c = scans-corrected c.args.self.now c.args.k c.args.knot c.requires.there

pub invariant_of-self : goal.invariant_of-self
invariant_of-self c =
    let r = c.args.self.now in
    record {
      room = length-set r.knots c.args.k c.args.knot ∙ r.room;
      few = r.few;
      standing = rw (scans-corrected r c.args.k c.args.knot c.requires.there) c.requires.standing;
    }
