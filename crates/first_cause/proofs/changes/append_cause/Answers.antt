-- The causes in their order, of the scans; the last knot is the last scan.
use Rattle.std.proofs.Common.{arith, refl, sym, ◌∙◌, length}
use Rattle.std.proofs.lemmas.Result.{err_from_is_err_and}
use Rattle.scans.specs.Scan.{scan_of, before}
use Rattle.scans.specs.SizeRule.{append_products}
use Rattle.scans.specs.RefusalTable.{position_causes}
use Rattle.scans.specs.Order.{append_causes}
use Rattle.scans.proofs.Reason.{others}
use Rattle.scans.proofs.Order.{append-position, append-size}
use Rattle.knot.specs.Machine.{scans}
use Rattle.knot.proofs.Lists.{length-scans}
use Rattle.following.proofs.Neighbours.{own_list, lying_own, end_is}
use Rattle.first_cause.proofs.Finds.{refuses, breaks, passes}
use Rattle.first_cause.proofs.changes.append_cause.Goals as goal

pub returns-in_err-follow_reason : goal.returns-in_err-follow_reason
returns-in_err-follow_reason c =
    let failed = err_from_is_err_and c.from_residual-in_err-follow_reason.result c.from_residual-in_err-follow_reason.ensures.1 in
    let held = scans c.args.knots.now in
    let C = c.args.coefficients.now in
    let x = c.args.position in
    let last = before held (length held) in
    let is = end_is c.last-last.result c.args.knots.now c.last-last.ensures.value in
    let lies = lying_own c.last-last.result c.neighbour_position.result c.neighbour_position.ensures ∙ is in
    let placed = rw lies at (c.in_ok-position_cause.ensures (own_list c.last-last.result)) in
    let found = rw (is, c.of-knot.ensures, ← length-scans c.args.knots.now) at c.in_err-follow_reason.ensures in
    rw (failed.1, failed.2)
    (breaks (append_causes (length held) last x C) (append_products (length held) last (scan_of x C)) (scan_of x C) _
    (append-size (length held) last x C (omega (arith, length-scans c.args.knots.now)) (sym c.in_ok-list_cause.ensures) (sym placed))
    found)

pub returns : goal.returns
returns c =
    let held = scans c.args.knots.now in
    let C = c.args.coefficients.now in
    let x = c.args.position in
    let last = before held (length held) in
    let is = end_is c.last-last.result c.args.knots.now c.last-last.ensures.value in
    let lies = lying_own c.last-last.result c.neighbour_position.result c.neighbour_position.ensures ∙ is in
    let placed = rw lies at (c.in_ok-position_cause.ensures (own_list c.last-last.result)) in
    let found = rw (is, c.of-knot.ensures, ← length-scans c.args.knots.now) at c.in_ok-follow_reason.ensures in
    passes (append_causes (length held) last x C) (append_products (length held) last (scan_of x C)) (scan_of x C) c.of-knot.result c.of-knot.ensures
    (append-size (length held) last x C (omega (arith, length-scans c.args.knots.now)) (sym c.in_ok-list_cause.ensures) (sym placed))
    found

pub returns-in_err-position_cause : goal.returns-in_err-position_cause
returns-in_err-position_cause c =
    let failed = err_from_is_err_and c.from_residual-in_err-position_cause.result c.from_residual-in_err-position_cause.ensures.1 in
    let held = scans c.args.knots.now in
    let C = c.args.coefficients.now in
    let x = c.args.position in
    let last = before held (length held) in
    let is = lying_own c.last-last.result c.neighbour_position.result c.neighbour_position.ensures ∙
    end_is c.last-last.result c.args.knots.now c.last-last.ensures.value in
    let found = rw is at (c.in_err-position_cause.ensures (own_list c.last-last.result)) in
    rw (failed.1, failed.2)
    (refuses (append_causes (length held) last x C) (append_products (length held) last (scan_of x C)) (scan_of x C) _
    (append-position (length held) last x C (omega (arith, length-scans c.args.knots.now)) (sym c.in_ok-list_cause.ensures) (sym found))
    (others (position_causes last x) (refl, (refl, tt)) (sym found)))

pub overflow_cast-position : goal.overflow_cast-position
overflow_cast-position c =
    let placed = c.in_ok-position_cause.ensures (own_list c.last-last.result) in
    grind (arith, placed)

pub follow_reason-requires-clause-close : goal.follow_reason-requires-clause-close
follow_reason-requires-clause-close c =
    let placed = rw (lying_own c.last-last.result c.neighbour_position.result c.neighbour_position.ensures)
    at (c.in_ok-position_cause.ensures (own_list c.last-last.result)) in
    grind (arith, placed)
