-- The first of its causes, or the list with one knot more.
use Rattle.std.proofs.Common.{arith, refl, sym, ◌∙◌, ap, [], ◌∷◌, ◌++◌}
use Rattle.std.proofs.Math.Option.{some}
use Rattle.calls.specs.Calls.{append}
use Rattle.reel.specs.Machine.{scans}
use Rattle.reel.proofs.Scans.{length-scans}
use Rattle.reel.proofs.held.Found.{append-room}
use Rattle.reel.proofs.held.Promises.{refuses_by, accepts, changed-stands}
use Rattle.reel.proofs.held.Reel.append.Goals as goal

pub returns-in-Err : goal.returns-in-Err
returns-in-Err c =
    let found = rw c.list.ensures at c.in-Err.ensures in
    refuses_by (append c.args.position c.args.coefficients.now) c.args.self c.cause.result (sym found.fault ∙ ap some (sym c.cause.ensures))

pub returns-in-Ok : goal.returns-in-Ok
returns-in-Ok c =
    let r = c.args.self in
    let found = rw c.list.ensures at c.in-Ok.ensures in
    accepts (append c.args.position c.args.coefficients.now) r c.push.new.self (sym found.fault) refl refl refl
    (c.push.ensures ∙ ap (λ s. scans r ++ s ∷ []) found.knot)

-- no cause holds, so there is room
pub push-requires-clause-room : goal.push-requires-clause-room
push-requires-clause-room c =
    let found = rw c.list.ensures at c.in-Ok.ensures in
    omega (arith, append-room (scans c.args.self) c.args.position c.args.coefficients.now (sym found.fault), length-scans c.args.self)

pub push-requires-clause-standing : goal.push-requires-clause-standing
push-requires-clause-standing c =
    let found = rw c.list.ensures at c.in-Ok.ensures in
    rw found.knot (changed-stands (append c.args.position c.args.coefficients.now) c.args.self (sym found.fault))
