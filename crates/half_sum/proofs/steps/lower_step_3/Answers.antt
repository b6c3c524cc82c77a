-- Grade −1, and the scalings of any other.
use mathlib.Core.Path.{◌≡◌, refl, ◌∙◌, ap}
use Prim.Native.Nat.{ℕ, suc, ◌+◌, ◌-◌}
use native.Mathlib.Omega.{arith}
use lib.IntN.{ℤ}
use mir.Facts.{to_z-of_z}
use Rattle.integer.proofs.Within.{result_is}
use Rattle.rounding.specs.Scaling.{scaled_times}
use Rattle.half_sum.specs.Machine.{lower_step_3}
use Rattle.half_sum.proofs.steps.lower_step_3.Goals as goal

pub returns-then-m-eq0 : goal.returns-then-m-eq0
unfolding lower_step_3
returns-then-m-eq0 c = rw c.if-m-eq0.true refl

one_lower : (m k n b d : ℕ) (u : ℤ) → m ≡ suc k → scaled_times (n + 1) u b d ≡ lower_step_3 m n b d u
unfolding lower_step_3
one_lower m k n b d u e = rw e refl

pub returns : goal.returns
returns c =
    let m = c.args.m in
    let s = c.args.complement in
    result_is c.scaled_times.result c.scaled_times.type_inv ∙ c.scaled_times.ensures ∙
    ap (λ z. scaled_times (c.args.n + 1) z s.a s.d) (to_z-of_z c.ranges.u) ∙ one_lower m (m - 1) c.args.n s.a s.d c.args.u (omega arith)
