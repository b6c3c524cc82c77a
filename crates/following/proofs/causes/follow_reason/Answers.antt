-- What is too large of the held knot with the new gap; and of the new knot, where the held one names nothing.
use Rattle.std.proofs.Common.{true, [], ◌-◌, refl, sym, ◌∙◌}
use Rattle.std.proofs.lemmas.Result.{err_from_is_err_and}
use Rattle.scans.specs.Scan.{right_list}
use Rattle.scans.proofs.SizeRule.{at_gap, held_found, held-passed}
use Rattle.knot.specs.Machine.{scan}
use Rattle.following.proofs.Neighbours.{own_list, lying_own}
use Rattle.following.proofs.causes.follow_reason.Goals as goal
use Rattle.following.proofs.causes.follow_reason.Goals.{in-Some+in_ok-right_reason, in_default}

pub returns-in_err-right_reason : goal.returns-in_err-right_reason
returns-in_err-right_reason c =
    let failed = err_from_is_err_and c.from_residual.result c.from_residual.ensures.1 in
    let held = scan c.in-Some.held.now in
    rw (c.in-Some.is, failed.1, failed.2)
    (sym (held_found c.args.k held (scan c.args.next.now)
    (at_gap (c.args.k - 1) (right_list held) c.gap.ensures c.in_err-right_reason.ensures)))

pub returns : goal.returns
returns c =
    let is = lying_own c.args.last c.neighbour_position.result c.neighbour_position.ensures in
    (rw is at (c.size_reason.ensures (own_list c.args.last) [])) ∙ elim c.match-last.branch [
      | in-Some+in_ok-right_reason w ↦
          let held = scan w.in-Some.held.now in
          rw w.in-Some.is
          (sym (held-passed c.args.k true held (scan c.args.next.now)
          (λ e. at_gap (c.args.k - 1) (right_list held) w.gap.ensures w.in_ok-right_reason.ensures)))
      | in_default w ↦ rw w.in_default.is refl
    ]
