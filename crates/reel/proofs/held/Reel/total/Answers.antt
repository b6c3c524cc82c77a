-- 8 and 9, or the total of its pieces i to j − 1.
use Rattle.std.proofs.Common.{[], length, refl, sym, ◌∙◌, ap}
use Rattle.scans.proofs.Order.{in_range}
use Rattle.scans.specs.Queries.{total_over}
use Rattle.knot.proofs.Lists as Lists
use Rattle.integer.proofs.Within.{result_is}
use Rattle.calls.specs.Calls as Calls
use Rattle.reel.specs.Machine.{scans}
use Rattle.reel.proofs.Scans.{stands}
use Rattle.reel.proofs.held.Promises.{refuses, answers}
use Rattle.reel.proofs.held.Reel.total.Goals as goal

pub returns-in-Err : goal.returns-in-Err
returns-in-Err c =
    let found = rw (← Lists.length-scans c.list-knots.result.now, c.list-knots.ensures) at c.in-Err.ensures in
    refuses (Calls.total c.args.i c.args.j) c.args.self c.in-Err.cause c.refused.result c.refused.ensures (sym found)

pub total-requires : goal.total-requires
total-requires c =
    let knots = c.list-knots.result.now in
    let h = in_range (length knots) c.args.i c.args.j (sym c.in-Ok.ensures) in
    (rw c.list-knots.ensures (stands c.args.self), h.order, h.last)

pub returns-in-Ok : goal.returns-in-Ok
returns-in-Ok c =
    let r = c.args.self in
    let found = rw (← Lists.length-scans c.list-knots.result.now, c.list-knots.ensures) at c.in-Ok.ensures in
    answers (Calls.total c.args.i c.args.j) r _ (total_over (scans r) c.args.i c.args.j) [] (sym found) refl
    (result_is c.total.result c.total.type_inv ∙ c.total.ensures ∙ ap (λ s. total_over s c.args.i c.args.j) c.list-knots.ensures) refl refl
