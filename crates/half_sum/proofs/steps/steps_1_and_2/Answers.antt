-- The rounds leave g_0 to g_7, on which step 2 works.
use mathlib.Core.Path.{◌∙◌}
use Prim.Native.Nat.{◌*◌}
use native.Mathlib.Omega.{arith}
use Rattle.hermite.specs.Polynomial.{coefficient}
use Rattle.rounding.specs.Limits.{size_max}
use Rattle.rounding.proofs.Agree.{descended-agree}
use Rattle.rounding.proofs.Bounds.{g_within}
use Rattle.integer.proofs.Within.{result_is}
use Rattle.half_sum.proofs.RunningSums.{lists-sums}
use Rattle.half_sum.proofs.steps.steps_1_and_2.Goals as goal

pub descended-requires : goal.descended-requires
descended-requires c =
    let g = lists-sums c.args.n c.args.w.now c.rounds.ensures in (
      c.requires.0,
      record {
        count = g.count;
        small = λ j h. rw (g.entry j h)
            (g_within (7 * size_max) c.args.n j (coefficient c.args.w.now) c.requires.1 h (λ i k. c.requires.2.small i (omega arith)));
      },
    )

pub returns : goal.returns
returns c =
    let g = lists-sums c.args.n c.args.w.now c.rounds.ensures in (
      result_is c.descended.result c.descended.type_inv ∙ c.descended.ensures ∙
          descended-agree c.args.s.a c.args.s.d c.args.m 0 (λ j h. g.entry j (omega arith)),
      g,
    )
