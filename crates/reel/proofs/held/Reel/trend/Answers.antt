-- 8 and 7, or the trend of its scans.
use Rattle.std.proofs.Common.{[], refl, sym, ◌∙◌, ap}
use Rattle.integer.proofs.Within.{result_is}
use Rattle.calls.specs.Calls as Calls
use Rattle.scans.specs.Queries.{trend_at}
use Rattle.reel.specs.Machine.{scans}
use Rattle.reel.proofs.Scans.{stands}
use Rattle.reel.proofs.held.Found.{reached}
use Rattle.reel.proofs.held.Promises.{refuses, answers}
use Rattle.reel.proofs.held.Reel.trend.Goals as goal

pub returns-in-Err : goal.returns-in-Err
returns-in-Err c =
    let found = rw c.list-knots.ensures at c.in-Err.ensures in
    refuses (Calls.trend c.args.x) c.args.self c.in-Err.cause c.refused.result c.refused.ensures (sym found)

pub trend-requires : goal.trend-requires
trend-requires c =
    let found = rw c.list-knots.ensures at c.in-Ok.ensures in
    reached c.list-knots.result.now (scans c.args.self) c.args.x c.list-knots.ensures (stands c.args.self) (sym found)

pub returns-in-Ok : goal.returns-in-Ok
returns-in-Ok c =
    let r = c.args.self in
    let found = rw c.list-knots.ensures at c.in-Ok.ensures in
    answers (Calls.trend c.args.x) r _ (trend_at (scans r) c.args.x) [] (sym found) refl
    (result_is c.trend.result c.trend.type_inv ∙ c.trend.ensures ∙ ap (λ s. trend_at s c.args.x) c.list-knots.ensures) refl refl
