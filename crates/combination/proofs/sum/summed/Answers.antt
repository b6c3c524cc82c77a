-- Each knot that is formed is the sum's; the first that is too large is named, and where none is, all of them stand.
use mathlib.Core.Path.{refl, sym, ◌∙◌, ap, subst}
use Prim.Native.Nat.{◌+◌}
use lib.ListN.{drop}
use mir.Facts.{to_z-of_z}
use Rattle.std.specs.Prelude.{None}
use Rattle.std.specs.Iterator.Adapters.{enumerate_source}
use Rattle.std.proofs.lemmas.Result.{err_from_is_err_and}
use Rattle.std.proofs.lemmas.Slice.Zip.{either_empty_from_Zip}
use Rattle.combination.proofs.sum.Come.{Come, turn, same-grade, close, fails, one_more, all_stand}
use Rattle.combination.proofs.sum.summed.Goals as goal

pub combined_knot-next-requires-clause-alike : goal.combined_knot-next-requires-clause-alike
combined_knot-next-requires-clause-alike c =
    let come = rw (to_z-of_z c.ranges.alpha, to_z-of_z c.ranges.beta) at c.loop-k.invariant.come in
    let steps = c.in-Some.ensures.steps in
    same-grade _ _ _ _ c.requires (turn _ _ _ _ come c.loop-k.invariant.ahead c.loop-k.invariant.its_ahead steps.0 steps.1)

pub returns-in_err-follow_reason : goal.returns-in_err-follow_reason
returns-in_err-follow_reason c =
    let come = rw (to_z-of_z c.ranges.alpha, to_z-of_z c.ranges.beta) at c.loop-k.invariant.come in
    let formed = rw (to_z-of_z c.ranges.alpha, to_z-of_z c.ranges.beta) at c.combined_knot-next.ensures in
    let steps = c.in-Some.ensures.steps in
    let failed = err_from_is_err_and c.from_residual.result c.from_residual.ensures.1 in
    rw (failed.1, failed.2)
    (fails _ _ _ _ c.requires (turn _ _ _ _ come c.loop-k.invariant.ahead c.loop-k.invariant.its_ahead steps.0 steps.1)
    c.combined_knot-next.result _ formed c.last.ensures.item _
    c.in_err-follow_reason.ensures)

pub follow_reason-requires-clause-close : goal.follow_reason-requires-clause-close
follow_reason-requires-clause-close c =
    let come = rw (to_z-of_z c.ranges.alpha, to_z-of_z c.ranges.beta) at c.loop-k.invariant.come in
    let formed = rw (to_z-of_z c.ranges.alpha, to_z-of_z c.ranges.beta) at c.combined_knot-next.ensures in
    let steps = c.in-Some.ensures.steps in
    close _ _ _ _ c.requires (turn _ _ _ _ come c.loop-k.invariant.ahead c.loop-k.invariant.its_ahead steps.0 steps.1)
    c.combined_knot-next.result _ formed c.last.ensures.item

pub loop-k-preserved : goal.loop-k-preserved
loop-k-preserved c =
    let come = rw (to_z-of_z c.ranges.alpha, to_z-of_z c.ranges.beta) at c.loop-k.invariant.come in
    let formed = rw (to_z-of_z c.ranges.alpha, to_z-of_z c.ranges.beta) at c.combined_knot-next.ensures in
    let steps = c.in-Some.ensures.steps in
    let this = turn _ _ _ _ come c.loop-k.invariant.ahead c.loop-k.invariant.its_ahead steps.0 steps.1 in
    let next = ap (λ n. n + 1) steps.1 ∙ sym steps.2 in record {
      ahead = this.first.later ∙ ap (λ n. drop n c.args.knots.now) next;
      its_ahead = this.other.later ∙ ap (λ n. drop n c.args.others.now) next;
      come = rw (to_z-of_z c.ranges.alpha, to_z-of_z c.ranges.beta)
          (subst (Come c.args.alpha c.args.beta c.args.knots.now c.args.others.now _) next
          (one_more _ _ _ _ c.requires this c.combined_knot-next.result _ formed c.last.ensures.item c.in_ok-follow_reason.ensures));
    }

pub returns : goal.returns
returns c =
    let come = rw (to_z-of_z c.ranges.alpha, to_z-of_z c.ranges.beta) at c.loop-k.invariant.come in
    all_stand _ _ _ _ c.requires come c.loop-k.invariant.ahead c.loop-k.invariant.its_ahead
    (either_empty_from_Zip _ (enumerate_source c.next.new.self) None refl c.in-None.ensures.steps.0)
