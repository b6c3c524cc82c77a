-- The knots beside knot k are the scans beside scan k, and the new one lies where it lies.
use Rattle.knot.proofs.Lists.{length-scans}
use Rattle.following.proofs.Neighbours.{own_list}
use Rattle.first_cause.proofs.Beside.{place_is, left_lies, left_near, right_lies, right_near}
use Rattle.first_cause.proofs.changes.correct_in_list.Goals as goal

pub correct_cause-requires : goal.correct_cause-requires
correct_cause-requires c inside =
    let knots = c.args.knots.now in
    let here = rw c.in_ok-old.ensures.ok_part at c.get.ensures.lookup.3 in
    let old = c.in_ok-old.old.now in (
      left_near knots c.args.k old here c.last-left.result c.last-left.ensures.value c.neighbour_position.result c.neighbour_position.ensures
          (c.requires inside),
      right_near knots c.args.k old here c.get-right.result c.get-right.ensures.lookup.3 c.neighbour_position-2.result c.neighbour_position-2.ensures
          (c.requires inside),
    )

pub returns : goal.returns
returns c =
    let knots = c.args.knots.now in
    let here = rw c.in_ok-old.ensures.ok_part at c.get.ensures.lookup.3 in
    let old = c.in_ok-old.old.now in
    rw (
      left_lies knots c.args.k old here c.last-left.result c.last-left.ensures.value c.neighbour_position.result c.neighbour_position.ensures,
      right_lies knots c.args.k old here c.get-right.result c.get-right.ensures.lookup.3 c.neighbour_position-2.result c.neighbour_position-2.ensures,
      place_is knots c.args.k old here,
      ← length-scans knots,
    ) at (c.correct_cause.ensures (own_list c.last-left.result) (own_list c.get-right.result))
