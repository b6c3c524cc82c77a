-- The reason of the first cause of a sum.
use Rattle.std.proofs.Common.{w32, to_z-of_z, ◌∙◌}
use Rattle.calls.specs.Reason.{sum_reason}
use Rattle.reel.proofs.Scans.{stands}
use Rattle.reel.proofs.held.Reel.combine_reason.Goals as goal

pub combine-requires : goal.combine-requires
combine-requires c = rw c.list.ensures (stands c.args.self)

pub returns : goal.returns
unfolding sum_reason
returns c =
    c.reason.ensures ∙
    (rw (to_z-of_z {w = w32} c.ranges.alpha, to_z-of_z {w = w32} c.ranges.beta, c.list.ensures, c.list-2.ensures) at c.combine.ensures).reason
