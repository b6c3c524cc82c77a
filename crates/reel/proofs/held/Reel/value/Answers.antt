-- 8 and 7, or the value of its scans.
use Rattle.std.proofs.Common.{[], refl, sym, ◌∙◌, ap}
use Rattle.integer.proofs.Within.{result_is}
use Rattle.calls.specs.Calls as Calls
use Rattle.scans.specs.Queries.{value_at}
use Rattle.reel.specs.Machine.{scans}
use Rattle.reel.proofs.Scans.{stands}
use Rattle.reel.proofs.held.Found.{reached}
use Rattle.reel.proofs.held.Promises.{refuses, answers}
use Rattle.reel.proofs.held.Reel.value.Goals as goal

pub returns-in-Err : goal.returns-in-Err
returns-in-Err c =
    let found = rw c.list-knots.ensures at c.in-Err.ensures in
    refuses (Calls.value c.args.x) c.args.self c.in-Err.cause c.refused.result c.refused.ensures (sym found)

pub value-requires : goal.value-requires
value-requires c =
    let found = rw c.list-knots.ensures at c.in-Ok.ensures in
    reached c.list-knots.result.now (scans c.args.self) c.args.x c.list-knots.ensures (stands c.args.self) (sym found)

pub returns-in-Ok : goal.returns-in-Ok
returns-in-Ok c =
    let r = c.args.self in
    let found = rw c.list-knots.ensures at c.in-Ok.ensures in
    answers (Calls.value c.args.x) r _ (value_at (scans r) c.args.x) [] (sym found) refl
    (result_is c.value.result c.value.type_inv ∙ c.value.ensures ∙ ap (λ s. value_at s c.args.x) c.list-knots.ensures) refl refl
