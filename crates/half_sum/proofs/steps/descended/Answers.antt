-- One turn more of step 2, in 64 bits.
use mathlib.Core.Path.{◌≡◌, ◌∙◌, ap}
use mathlib.Core.List.{List}
use Prim.Native.Nat.{ℕ, suc, ◌+◌, ◌*◌, ◌-◌, ◌^◌, ◌≤◌, ◌<◌}
use native.Mathlib.Omega.{arith}
use lib.Dec.{lit<}
use lib.IntN.{ℤ, pos, ◌+ℤ◌, ◌*ℤ◌}
use lib.Signed.{mag}
use mir.Syntax.{w64}
use mir.Val.{SFits, to_z, of_z}
use mir.Facts.{to_z-of_z}
use Rattle.integer.specs.Within.{Within}
use Rattle.integer.proofs.Within.{within-natural, within_mul, within-fits, computed_is, result_is}
use Rattle.hermite.specs.HalfSum.{value_unit}
use Rattle.hermite.specs.Polynomial.{coefficient}
use Rattle.rounding.specs.HalfSum.{descended}
use Rattle.rounding.specs.Limits.{size_max, grade_max}
use Rattle.rounding.specs.Scaling.{scaled}
use Rattle.rounding.proofs.Bounds.{descended-fits}
use Rattle.knot_weights.specs.Machine.{Weights}
use Rattle.scaling.specs.declared.fraction.Fraction.{Fraction}
use Rattle.half_sum.proofs.steps.descended.Goals as goal

-- at a fraction s and the sums G
module _ (s : Fraction) (G : List ℤ) (weights : Weights (6435 * (7 * size_max)) G) where
  unit-is : (j : ℕ) → j ≤ 7 → pos value_unit *ℤ to_z w64 (of_z w64 (coefficient G j)) ≡ pos value_unit *ℤ coefficient G j
  unit-is j h = ap (λ z. pos value_unit *ℤ z) (to_z-of_z (within-fits w64 (coefficient G j) (lit< tt) (weights.small j h)))

  unit-fits : (j : ℕ) → j ≤ 7 → SFits w64 (pos value_unit *ℤ coefficient G j)
  unit-fits j h = within-fits w64 _ (lit< tt) (within_mul (pos value_unit) (coefficient G j) (within-natural value_unit) (weights.small j h))

  u-within : (k i : ℕ) → i + k ≤ 7 → Within (2 ^ 63 - 1) (descended (coefficient G) s.a s.d k i)
  u-within k i h = descended-fits (coefficient G) s.a s.d k i s.divides.at_least s.proper h (λ j l. weights.small j (omega arith))

  u-fits : (k i : ℕ) → i + k ≤ 7 → SFits w64 (descended (coefficient G) s.a s.d k i)
  u-fits k i h = within-fits w64 _ (lit< tt) (u-within k i h)

  -- one turn more: u is that of i, and r what it scales to
  turn : (m i : ℕ) (u r : ℤ) → m ≤ grade_max → i ≤ m → 0 < i → u ≡ descended (coefficient G) s.a s.d (m - i) i → mag r < 2 ^ 63 → r ≡ scaled u s.a s.d →
      to_z w64 (of_z w64 r) +ℤ to_z w64 (of_z w64 (pos value_unit *ℤ to_z w64 (of_z w64 (coefficient G (i - 1))))) ≡
      descended (coefficient G) s.a s.d (m - (i - 1)) (i - 1)
  unfolding descended
  turn m i u r low within some is held scales =
      let next : m - (i - 1) ≡ suc (m - i) = omega arith in
      let back : suc (i - 1) ≡ i = omega arith in
      rw (next, back, unit-is (i - 1) (omega arith), to_z-of_z (unit-fits (i - 1) (omega arith)), result_is r held)
      (ap (λ z. z +ℤ pos value_unit *ℤ coefficient G (i - 1)) (scales ∙ ap (λ z. scaled z s.a s.d) is))

pub loop-i-preserved : goal.loop-i-preserved
loop-i-preserved c =
    let i = c.loop-i.i in
    let u_is = turn c.args.s c.args.g.now c.requires.1 c.args.m i _ c.scaled.result c.requires.0 c.loop-i.auto.i c.loop-i-test.true
    c.loop-i.invariant c.scaled.type_inv c.scaled.ensures in
    computed_is u_is (u-fits c.args.s c.args.g.now c.requires.1 (c.args.m - (i - 1)) (i - 1) (omega arith))

pub loop-i-init : goal.loop-i-init
unfolding descended
loop-i-init c =
    let m = c.args.m in
    let none : m - m ≡ 0 = omega arith in
    rw none
    (computed_is (unit-is c.args.s c.args.g.now c.requires.1 m c.requires.0) (unit-fits c.args.s c.args.g.now c.requires.1 m c.requires.0))

pub scaled-requires : goal.scaled-requires
scaled-requires c =
    rw c.loop-i.invariant
    (u-within c.args.s c.args.g.now c.requires.1 (c.args.m - c.loop-i.i) c.loop-i.i (omega arith))

pub overflow_add-u : goal.overflow_add-u
overflow_add-u c =
    let i = c.loop-i.i in
    let u_is = turn c.args.s c.args.g.now c.requires.1 c.args.m i _ c.scaled.result c.requires.0 c.loop-i.auto.i c.loop-i-test.true
    c.loop-i.invariant c.scaled.type_inv c.scaled.ensures in
    rw u_is (u-fits c.args.s c.args.g.now c.requires.1 (c.args.m - (i - 1)) (i - 1) (omega arith))
