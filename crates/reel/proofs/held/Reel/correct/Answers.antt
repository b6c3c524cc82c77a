-- The first of its causes, or the list with other coefficients in place k.
use Rattle.std.proofs.Common.{arith, refl, sym, ◌∙◌, ap, length, set}
use Rattle.std.proofs.Math.Option.{some}
use Rattle.calls.specs.Calls.{correct}
use Rattle.knot.proofs.Lists as Lists
use Rattle.reel.specs.Machine.{scans}
use Rattle.reel.proofs.Scans.{length-scans, stands}
use Rattle.reel.proofs.held.Found.{close_beside, correct-there}
use Rattle.reel.proofs.held.Promises.{refuses_by, accepts, changed-stands}
use Rattle.reel.proofs.held.Reel.correct.Goals as goal

pub correct_in_list-requires : goal.correct_in_list-requires
correct_in_list-requires c = rw c.list.ensures (λ h. close_beside (scans c.args.self) (stands c.args.self) c.args.k
    (omega (arith, h, Lists.length-scans c.list.result.now, ap length c.list.ensures)))

pub returns-in-Err : goal.returns-in-Err
returns-in-Err c =
    let found = rw c.list.ensures at c.in-Err.ensures in
    refuses_by (correct c.args.k c.args.coefficients.now) c.args.self c.cause.result (sym found.fault ∙ ap some (sym c.cause.ensures))

pub returns-in-Ok : goal.returns-in-Ok
returns-in-Ok c =
    let r = c.args.self in
    let found = rw c.list.ensures at c.in-Ok.ensures in
    accepts (correct c.args.k c.args.coefficients.now) r c.put.new.self (sym found.fault) refl refl refl
    (c.put.ensures ∙ ap (set (scans r) c.args.k) found.knot)

-- no cause holds, so there is a knot k
pub put-requires-clause-there : goal.put-requires-clause-there
put-requires-clause-there c =
    let found = rw c.list.ensures at c.in-Ok.ensures in
    omega (arith, correct-there (scans c.args.self) c.args.k c.args.coefficients.now (sym found.fault), length-scans c.args.self)

pub put-requires-clause-standing : goal.put-requires-clause-standing
put-requires-clause-standing c =
    let found = rw c.list.ensures at c.in-Ok.ensures in
    rw found.knot (changed-stands (correct c.args.k c.args.coefficients.now) c.args.self (sym found.fault))
