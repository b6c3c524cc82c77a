-- Grade −1, and the steps on the array of w'.
use mathlib.Core.Path.{◌≡◌, refl, ◌∙◌}
use Prim.Native.Nat.{ℕ, suc, ◌-◌}
use native.Mathlib.Omega.{arith}
use lib.IntN.{ℤ}
use Rattle.hermite.specs.Polynomial.{coefficient}
use Rattle.hermite.specs.Slope.{primed}
use Rattle.knot_weights.proofs.Lists.{primed-weights}
use Rattle.integer.proofs.Within.{result_is}
use Rattle.half_sum.specs.Machine.{steps_1_and_2, lower_steps_1_and_2}
use Rattle.rounding.proofs.Agree.{steps_1_and_2_agree}
use Rattle.half_sum.proofs.steps.lower_steps_1_and_2.Goals as goal

pub returns-then-m-eq0 : goal.returns-then-m-eq0
unfolding lower_steps_1_and_2
returns-then-m-eq0 c = rw c.if-m-eq0.true refl

pub steps_1_and_2-requires : goal.steps_1_and_2-requires
steps_1_and_2-requires c = (omega arith, c.requires.1, primed-weights c.requires.2 c.primed.ensures)

one_lower : (m k n a d : ℕ) (w : ℕ → ℤ) → m ≡ suc k → steps_1_and_2 k n a d (primed w) ≡ lower_steps_1_and_2 m n a d w
unfolding lower_steps_1_and_2
one_lower m k n a d w e = rw e refl

pub returns : goal.returns
returns c =
    let m = c.args.m in
    let s = c.args.s in
    result_is c.steps_1_and_2.result c.steps_1_and_2.type_inv ∙ c.steps_1_and_2.ensures.0 ∙
    steps_1_and_2_agree (m - 1) c.args.n s.a s.d (λ j h. c.primed.ensures.entry j (omega arith)) ∙
    one_lower m (m - 1) c.args.n s.a s.d (coefficient c.args.w.now) (omega arith)
