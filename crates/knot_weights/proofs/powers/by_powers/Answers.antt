-- The next product and the next power, in 64 bits; above the last coefficient the products are 0.
use mathlib.Core.Path.{◌≡◌, refl, ap, ap₂}
use mathlib.Core.List.{List}
use Prim.Native.Nat.{ℕ, ◌+◌, ◌≤◌}
use native.Mathlib.Numerals.{add-one}
use native.Mathlib.Omega.{arith}
use lib.Dec.{lit<}
use lib.IntN.{ℤ, ◌*ℤ◌}
use mir.Syntax.{w64, w32}
use mir.Val.{SFits, to_z, of_z}
use mir.Facts.{to_z-of_z}
use Rattle.std.proofs.Common.{rules}
use Rattle.integer.specs.Within.{Within}
use Rattle.integer.proofs.Within.{fits-within, within_mul, within-fits, computed_is}
use Rattle.hermite.specs.Polynomial.{coefficient}
use Rattle.rounding.specs.Limits.{gap_max, grade_max}
use Rattle.knot_weights.specs.Machine.{power as power_of, by_powers}
use Rattle.knot_weights.proofs.Lists.{replaced_zeros, replaced_more}
use Rattle.knot_weights.proofs.SignedPowers.{power-most}
use Rattle.knot_weights.proofs.powers.by_powers.Goals as goal

pub loop-j-init : goal.loop-j-init
unfolding power_of
loop-j-init c = record { power_is = refl; filled = replaced_zeros _ }

-- one turn: z is the base, and power the one of this turn
module _ (z power : ℤ) (C : List ℤ) (j : ℕ) (is : power ≡ power_of z j) (low : j ≤ grade_max) (near : Within gap_max z) where
  product_is : SFits w32 (coefficient C j) → to_z w64 (of_z w64 (to_z w32 (of_z w32 (coefficient C j)))) *ℤ power ≡ by_powers z C j
  product_is fits =
      ap₂ (λ x y. x *ℤ y) (computed_is (to_z-of_z fits) (within-fits w64 (coefficient C j) (lit< tt) (fits-within w32 (coefficient C j) fits))) is

  product-fits : SFits w32 (coefficient C j) → SFits w64 (by_powers z C j)
  product-fits fits = within-fits w64 _ (lit< tt) (within_mul _ _ (fits-within w32 (coefficient C j) fits) (power-most z j low near))

  next_is : power *ℤ z ≡ power_of z (j + 1)
  unfolding power_of
  next_is = rw add-one (ap (λ x. x *ℤ z) is)

  next_fits : SFits w64 (power_of z (j + 1))
  next_fits = rw (← next_is, is) (within-fits w64 _ (lit< tt) (within_mul _ _ (power-most z j low near) near))

-- the base is passed as its bits
near-bits : {z : ℤ} → SFits w64 z → Within gap_max z → Within gap_max (to_z w64 (of_z w64 z))
near-bits fits near = rw (to_z-of_z fits) near

pub loop-j-preserved : goal.loop-j-preserved
loop-j-preserved c =
    let fits : SFits w32 (coefficient c.args.c.now c.loop-j.j) = search rules in
    let low : c.loop-j.j ≤ grade_max = omega arith in
    let near = near-bits c.ranges.base c.requires.0 in
    let is = c.loop-j.invariant.power_is in
    record {
      power_is = computed_is (next_is _ _ c.args.c.now c.loop-j.j is low near) (next_fits _ _ c.args.c.now c.loop-j.j is low near);
      filled =
          replaced_more _ c.loop-j.invariant.filled low
          (computed_is (product_is _ _ c.args.c.now c.loop-j.j is low near fits) (product-fits _ _ c.args.c.now c.loop-j.j is low near fits));
    }

pub overflow_mul-w : goal.overflow_mul-w
overflow_mul-w c =
    let fits : SFits w32 (coefficient c.args.c.now c.loop-j.j) = search rules in
    let low : c.loop-j.j ≤ grade_max = omega arith in
    let near = near-bits c.ranges.base c.requires.0 in
    rw (product_is _ _ c.args.c.now c.loop-j.j c.loop-j.invariant.power_is low near fits)
    (product-fits _ _ c.args.c.now c.loop-j.j c.loop-j.invariant.power_is low near fits)

pub overflow_mul-power : goal.overflow_mul-power
overflow_mul-power c =
    let low : c.loop-j.j ≤ grade_max = omega arith in
    let near = near-bits c.ranges.base c.requires.0 in
    let is = c.loop-j.invariant.power_is in
    rw (next_is _ _ c.args.c.now c.loop-j.j is low near) (next_fits _ _ c.args.c.now c.loop-j.j is low near)
