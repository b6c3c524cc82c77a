-- Between two knots: what is too large with the left gap, whatever is on the right; and with the right gap, where the left one names nothing.
use Rattle.std.proofs.Common.{true, sym, ◌∙◌}
use Rattle.std.proofs.Math.Option.{some}
use Rattle.std.proofs.lemmas.Result.{err_from_is_err_and}
use Rattle.scans.specs.Scan.{scan_of, left_list, right_list}
use Rattle.scans.proofs.SizeRule.{at_gap, left-found, left_passed}
use Rattle.knot.specs.Machine.{scan}
use Rattle.following.proofs.causes.size_reason.Goals as goal

pub returns-in_err-left_reason-in-Some-Some : goal.returns-in_err-left_reason-in-Some-Some
returns-in_err-left_reason-in-Some-Some c A B =
    let failed = err_from_is_err_and c.from_residual.result c.from_residual.ensures.1 in
    let between = c.in-Some-Some in
    let s = scan c.args.knot.now in
    rw (between.is-0, between.is-1, failed.1, failed.2)
    (sym (left-found c.args.k (scan_of between.before A) s (some (scan_of between.after B))
    (at_gap c.args.k (left_list s) c.gap-in-Some-Some.ensures c.in_err-left_reason-in-Some-Some.ensures)))

pub returns-in_ok-left_reason-in-Some-Some : goal.returns-in_ok-left_reason-in-Some-Some
returns-in_ok-left_reason-in-Some-Some c A B =
    let between = c.in-Some-Some in
    let s = scan c.args.knot.now in
    rw (between.is-0, between.is-1)
    (sym (left_passed c.args.k true (scan_of between.before A) s (scan_of between.after B)
    (λ e. at_gap c.args.k (left_list s) c.gap-in-Some-Some.ensures c.in_ok-left_reason-in-Some-Some.ensures) ∙
    at_gap c.args.k (right_list s) c.gap-in-Some-Some-2.ensures c.right_reason-in-Some-Some.ensures))
