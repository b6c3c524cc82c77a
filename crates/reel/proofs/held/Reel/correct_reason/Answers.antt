-- The reason of the first cause is found of the knots and the corrected one.
use Rattle.std.proofs.Common.{arith, ◌∙◌, ap, length}
use Rattle.calls.specs.Reason.{reason_for}
use Rattle.knot.proofs.Lists.{length-scans}
use Rattle.reel.specs.Machine.{scans}
use Rattle.reel.proofs.Scans.{stands}
use Rattle.reel.proofs.held.Found.{close_beside}
use Rattle.reel.proofs.held.Reel.correct_reason.Goals as goal

pub correct_in_list-requires : goal.correct_in_list-requires
correct_in_list-requires c =
    rw c.list.ensures (λ h. close_beside (scans c.args.self) (stands c.args.self) c.args.k
    (omega (arith, h, length-scans c.list.result.now, ap length c.list.ensures)))

pub returns : goal.returns
unfolding reason_for
returns c = c.reason.ensures ∙ (rw c.list.ensures at c.correct_in_list.ensures).reason
