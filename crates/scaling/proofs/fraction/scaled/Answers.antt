-- The steps of a scaling as the machine has them: each is what `Halves` says, on either side of 0.
use mathlib.Core.Path.{◌≡◌, ◌∙◌, ap, ap₂}
use Prim.Native.Nat.{ℕ, ◌+◌, ◌*◌, ◌-◌, ◌/◌, ◌^◌, ◌≤◌}
use native.Mathlib.Omega.{arith}
use lib.Bits.{bit_and, and_mask}
use lib.Dec.{T, lit<}
use lib.IntN.{ℤ, pos, nat_abs, ◌+ℤ◌, ◌-ℤ◌, ◌*ℤ◌}
use lib.Signed.{shr_z, non_neg}
use mir.Syntax.{w64}
use mir.Val.{Fits, SFits, to_z, of_z}
use mir.Facts.{to_z-of_z, to_z_pos}
use Rattle.integer.specs.Within.{Within}
use Rattle.integer.proofs.Within.{within-fits, computed_is}
use Rattle.rounding.specs.Scaling.{scaled}
use Rattle.rounding.proofs.Bounds.{scaled-within}
use Rattle.scaling.specs.declared.fraction.Fraction.{Fraction}
use Rattle.scaling.proofs.fraction.Halves.{high, low, low_below, high_up, high_dn, biased-most, dividend, dividend_is, dividend-most}
use Rattle.scaling.proofs.fraction.Halves.{rest-fits, whole-most, whole-fits, quotient_is, quotient-most, difference_fits, steps-are}
use Rattle.scaling.proofs.fraction.scaled.Goals as goal

module _ (u : ℤ) (s : Fraction) (within : Within (2 ^ 63 - 1) u) where
  u_fits : SFits w64 u
  u_fits = within-fits w64 u (lit< tt) within

  abbrev machine_high : ℤ
  machine_high = to_z w64 (of_z w64 (shr_z (to_z w64 (of_z w64 u)) (2 ^ 32)))

  high_is : machine_high ≡ high u
  high_is = computed_is (ap high (to_z-of_z u_fits))
      (within-fits {B = 2 ^ 31} w64 (high u) (lit< tt) (record { hi = omega (arith, high_up u within); lo = high_dn u within }))

  abbrev machine_low : ℤ
  machine_low = to_z w64 (bit_and (of_z w64 u) 4294967295)

  low_is : machine_low ≡ pos (low u)
  low_is = rw (and_mask (of_z w64 u) 32) (to_z_pos w64 {n = low u} (omega (arith, low_below u)))

  high_rest_is : machine_high *ℤ to_z w64 s.rest ≡ high u *ℤ pos s.rest
  high_rest_is = ap₂ (λ x y. x *ℤ y) high_is (to_z_pos w64 {n = s.rest} (omega (arith, s.below, s.divides.at_most)))

  high_rest_fits : SFits w64 (machine_high *ℤ to_z w64 s.rest)
  high_rest_fits = rw high_rest_is (rest-fits u s within)

  high_whole_is : machine_high *ℤ to_z w64 s.whole ≡ high u *ℤ pos s.whole
  high_whole_is = ap₂ (λ x y. x *ℤ y) high_is (to_z_pos w64 {n = s.whole} (omega (arith, whole-most u s within)))

  high_whole_fits : SFits w64 (machine_high *ℤ to_z w64 s.whole)
  high_whole_fits = rw high_whole_is (whole-fits u s within)

  low_a_is : machine_low *ℤ to_z w64 s.a ≡ pos (low u * s.a)
  low_a_is = ap₂ (λ x y. x *ℤ y) low_is (to_z_pos w64 {n = s.a} (omega (arith, s.proper, s.divides.at_most)))

  low_a_fits : SFits w64 (pos (low u * s.a))
  low_a_fits = record { sfits = omega (arith, biased-most u s within) }

  biased_is : to_z w64 (of_z w64 (machine_low *ℤ to_z w64 s.a)) +ℤ to_z w64 s.bias ≡ pos (low u * s.a + s.bias)
  biased_is = ap₂ (λ x y. x +ℤ y) (computed_is low_a_is low_a_fits) (to_z_pos w64 {n = s.bias} (omega (arith, biased-most u s within)))

  biased_fits : SFits w64 (pos (low u * s.a + s.bias))
  biased_fits = record { sfits = omega (arith, biased-most u s within) }

  abbrev machine_dividend : ℤ
  machine_dividend =
      to_z w64 (of_z w64 (machine_high *ℤ to_z w64 s.rest)) +ℤ to_z w64 (of_z w64 (to_z w64 (of_z w64 (machine_low *ℤ to_z w64 s.a)) +ℤ to_z w64 s.bias))

  machine_dividend_is : machine_dividend ≡ pos (dividend u s within)
  machine_dividend_is = ap₂ (λ x y. x +ℤ y) (computed_is high_rest_is (rest-fits u s within)) (computed_is biased_is biased_fits) ∙
      dividend_is u s within

  dividend_fits : SFits w64 (pos (dividend u s within))
  dividend_fits = record { sfits = omega (arith, dividend-most u s within) }

  dividend_natural : T (non_neg (to_z w64 (of_z w64 machine_dividend))) × Fits w64 (nat_abs (to_z w64 (of_z w64 machine_dividend)))
  dividend_natural = rw (computed_is machine_dividend_is dividend_fits) (tt, record { fits = omega (arith, dividend-most u s within) })

  -- the high product
  module _ (q : ℕ) (quotient : q ≡ nat_abs (to_z w64 (of_z w64 machine_dividend)) * s.reciprocal / 2 ^ 64) where
    q_is : q ≡ dividend u s within / s.d
    q_is = quotient ∙ ap (λ z. nat_abs z * s.reciprocal / 2 ^ 64) (computed_is machine_dividend_is dividend_fits) ∙ quotient_is u s within

    q_most : q ≤ 2 ^ 46
    q_most = rw q_is (quotient-most u s within)

    q_fits : SFits w64 (pos q)
    q_fits = record { sfits = omega (arith, q_most) }

    subtracted_is : to_z w64 q -ℤ pos (2 ^ 32) ≡ pos (dividend u s within / s.d) -ℤ pos (2 ^ 32)
    subtracted_is = ap (λ z. z -ℤ pos (2 ^ 32)) (to_z_pos w64 {n = q} (omega (arith, q_most)) ∙ ap pos q_is)

    subtracted_fits : SFits w64 (to_z w64 q -ℤ pos (2 ^ 32))
    subtracted_fits = rw subtracted_is (difference_fits u s within)

    sum_is : to_z w64 (of_z w64 (machine_high *ℤ to_z w64 s.whole)) +ℤ to_z w64 (of_z w64 (to_z w64 q -ℤ pos (2 ^ 32))) ≡ scaled u s.a s.d
    sum_is = ap₂ (λ x y. x +ℤ y) (computed_is high_whole_is (whole-fits u s within))
        (computed_is subtracted_is (difference_fits u s within)) ∙
        steps-are u s within

  scaled_fits : SFits w64 (scaled u s.a s.d)
  scaled_fits = within-fits w64 _ (lit< tt) (scaled-within u s.a s.d s.divides.at_least s.proper within)

-- the result first: it is what a wrong step fails to be
pub returns : goal.returns
returns c =
    computed_is (sum_is c.args.u c.args.s c.requires c.high_product.result c.high_product.ensures) (scaled_fits c.args.u c.args.s c.requires)

pub overflow_mul-dividend-2 : goal.overflow_mul-dividend-2
overflow_mul-dividend-2 c =
    rw (low_a_is c.args.u c.args.s c.requires) (low_a_fits c.args.u c.args.s c.requires)

pub overflow_add-dividend : goal.overflow_add-dividend
overflow_add-dividend c =
    rw (biased_is c.args.u c.args.s c.requires) (biased_fits c.args.u c.args.s c.requires)

pub overflow_add-dividend-2 : goal.overflow_add-dividend-2
overflow_add-dividend-2 c =
    rw (machine_dividend_is c.args.u c.args.s c.requires) (dividend_fits c.args.u c.args.s c.requires)

pub overflow_cast-dividend-4 : goal.overflow_cast-dividend-4
overflow_cast-dividend-4 c = dividend_natural c.args.u c.args.s c.requires

pub overflow_mul-result : goal.overflow_mul-result
overflow_mul-result c = high_whole_fits c.args.u c.args.s c.requires

pub overflow_cast-result-2 : goal.overflow_cast-result-2
overflow_cast-result-2 c = q_fits c.args.u c.args.s c.requires c.high_product.result c.high_product.ensures

pub overflow_sub-result : goal.overflow_sub-result
overflow_sub-result c = subtracted_fits c.args.u c.args.s c.requires c.high_product.result c.high_product.ensures

pub overflow_add-result : goal.overflow_add-result
overflow_add-result c =
    rw (sum_is c.args.u c.args.s c.requires c.high_product.result c.high_product.ensures) (scaled_fits c.args.u c.args.s c.requires)
