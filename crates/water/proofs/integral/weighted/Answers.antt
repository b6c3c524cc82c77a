-- `water::integral::weighted` meets its contract: each term fits, and each sum of them.
use Rattle.std.proofs.Common.{◌≡◌, ◌-◌, ◌+◌, arith}
use Rattle.integer.specs.Sum
use Rattle.integer.proofs.Within.{computed_is}
use Rattle.water.proofs.integral.Terms.{machine_term, term_fits, machine_sum, sum_fits}
use Rattle.water.proofs.integral.weighted.Goals as goal

pub loop-j-init : goal.loop-j-init
unfolding Sum.sum
loop-j-init c =
    let e = machine_term c.args.c.now c.args.w.now c.requires.2 c.requires.3 0 (omega arith) in
    computed_is e (term_fits c.args.c.now c.args.w.now c.requires.2 c.requires.3 0 (omega arith))

-- what a turn makes, before that it fits: a wrong term fails here
pub loop-j-preserved : goal.loop-j-preserved
loop-j-preserved c =
    let before : c.loop-j.j + 1 - 1 ≡ c.loop-j.j = omega arith in
    rw before
    (computed_is
    (machine_sum c.args.c.now c.args.w.now c.requires.2 c.requires.3 _ c.loop-j.j c.loop-j.auto.j (omega arith) c.loop-j.invariant)
    (sum_fits c.args.c.now c.args.w.now c.requires.2 c.requires.3 c.loop-j.j (omega arith)))

pub overflow_add-sum : goal.overflow_add-sum
overflow_add-sum c =
    rw (machine_sum c.args.c.now c.args.w.now c.requires.2 c.requires.3 _ c.loop-j.j c.loop-j.auto.j (omega arith) c.loop-j.invariant)
    (sum_fits c.args.c.now c.args.w.now c.requires.2 c.requires.3 c.loop-j.j (omega arith))
