-- A scaling by the halves of u, of 32 bits each: what each step makes, and that it fits in 64 bits.
use mathlib.Core.Path.{◌≡◌, sym, ap}
use Prim.Native.Nat.{ℕ, zero, suc, ◌+◌, ◌*◌, ◌-◌, ◌/◌, ◌%◌, ◌^◌, ◌≤◌, ◌<◌}
use native.Mathlib.Nat.{div-add-mod', mod-lt, div-le_self, mul-le-mul, le_of_mul-le-mul_right}
use native.Mathlib.Omega.{arith}
use lib.Dec.{lit<}
use lib.IntN.{ℤ, pos, negsuc, neg_ℤ, ◌+ℤ◌, ◌-ℤ◌, ◌*ℤ◌}
use lib.Signed.{shr_z}
use mir.Syntax.{w64}
use mir.Val.{SFits, of_z}
use Rattle.integer.specs.Within.{up, dn, Within}
use Rattle.integer.proofs.Floor.{floor_of_product}
use Rattle.integer.proofs.Product.{by_reciprocal}
use Rattle.integer.proofs.Within.{within-natural, within_more, within-neg, within-add, within-fits}
use Rattle.integer.proofs.Difference.{differences}
use Rattle.rounding.specs.Scaling.{scaled}
use Rattle.rounding.proofs.Scaling.{half-added}
use Rattle.scaling.specs.declared.fraction.Fraction.{Fraction}

-- ---- the halves

abbrev pub high : ℤ → ℤ
high u = shr_z u (2 ^ 32)

abbrev pub low : ℤ → ℕ
low u = of_z w64 u % 2 ^ 32

pub low_below : (u : ℤ) → low u < 2 ^ 32
low_below u = mod-lt (of_z w64 u) (lit< tt)

halves : (u : ℤ) → Within (2 ^ 63 - 1) u → u ≡ high u *ℤ pos (2 ^ 32) +ℤ pos (low u)
halves (pos n) w = ap pos (sym (div-add-mod' n (2 ^ 32)))
halves (negsuc n) w = simp differences (omega (arith, w.lo))

-- the upper half is from −2^31 to 2^31 − 1
pub high_up : (u : ℤ) → Within (2 ^ 63 - 1) u → up (high u) ≤ 2 ^ 31 - 1
high_up (pos n) w = omega (arith, w.hi)
high_up (negsuc n) w = omega arith

pub high_dn : (u : ℤ) → Within (2 ^ 63 - 1) u → dn (high u) ≤ 2 ^ 31
high_dn (pos n) w = omega arith
high_dn (negsuc n) w = omega (arith, w.lo)

-- ---- a natural, and what fits

-- a product with a bias that is no smaller
natural : (z : ℤ) (r x : ℕ) → dn z * r ≤ x → z *ℤ pos r +ℤ pos x ≡ pos (up z * r + x - dn z * r)
natural (pos k) r x h = ap pos (omega arith)
natural (negsuc k) r x h = simp differences (omega arith)

-- −2^63 itself fits
minus_fits : (x : ℕ) → x ≤ 2 ^ 63 → SFits w64 (neg_ℤ (pos x))
minus_fits zero h = record { sfits = omega arith }
minus_fits (suc x) h = record { sfits = omega arith }

product-fits : (z : ℤ) (x : ℕ) → up z ≤ 2 ^ 31 - 1 → dn z ≤ 2 ^ 31 → x ≤ 2 ^ 32 → SFits w64 (z *ℤ pos x)
product-fits (pos k) x h l b = record { sfits = omega (arith, mul-le-mul h b) }
product-fits (negsuc k) x h l b = minus_fits (suc k * x) (omega (arith, mul-le-mul l b))

-- ---- the steps of a scaling by a prepared fraction

module _ (u : ℤ) (s : Fraction) (within : Within (2 ^ 63 - 1) u) where
  low-most : low u * s.a ≤ (2 ^ 32 - 1) * 4096
  low-most =
      let below : low u ≤ 2 ^ 32 - 1 = omega (arith, low_below u) in
      let most : s.a ≤ 4096 = omega (arith, s.proper, s.divides.at_most) in
      mul-le-mul below most

  -- low × a + bias
  pub biased-most : low u * s.a + s.bias ≤ 2 ^ 45
  biased-most = omega (arith, low-most, s.biased, s.divides.at_most)

  -- what is divided by d: high × rest + (low × a + bias)
  abbrev pub dividend : ℕ
  dividend = up (high u) * s.rest + (low u * s.a + s.bias) - dn (high u) * s.rest

  pub dividend_is : high u *ℤ pos s.rest +ℤ pos (low u * s.a + s.bias) ≡ pos dividend
  dividend_is = natural (high u) s.rest (low u * s.a + s.bias) (omega (arith, mul-le-mul (high_dn u within) s.below, s.biased))

  pub dividend-most : dividend ≤ 2 ^ 46
  dividend-most =
      let most : s.rest ≤ 4096 = omega (arith, s.below, s.divides.at_most) in
      omega (arith, biased-most, mul-le-mul (high_up u within) most)

  pub rest-fits : SFits w64 (high u *ℤ pos s.rest)
  rest-fits = product-fits (high u) s.rest (high_up u within) (high_dn u within) (omega (arith, s.below, s.divides.at_most))

  pub whole-most : s.whole ≤ 2 ^ 32
  whole-most =
      le_of_mul-le-mul_right {n = 2 ^ 32} {k = s.d} (omega (arith, s.quotient, s.proper)) s.divides.at_least

  pub whole-fits : SFits w64 (high u *ℤ pos s.whole)
  whole-fits = product-fits (high u) s.whole (high_up u within) (high_dn u within) whole-most

  -- divided by d, it is its high product with the reciprocal
  pub quotient_is : dividend * s.reciprocal / 2 ^ 64 ≡ dividend / s.d
  quotient_is =
      rw s.divides.in_parts
      (by_reciprocal (2 ^ 64) s.d dividend s.divides.at_least (omega (arith, mul-le-mul dividend-most s.divides.at_most)))

  -- the steps together
  pub steps-are : high u *ℤ pos s.whole +ℤ (pos (dividend / s.d) -ℤ pos (2 ^ 32)) ≡ scaled u s.a s.d
  unfolding scaled
  steps-are =
      half-added (u *ℤ pos s.a) _ s.d s.divides.at_least
      (floor_of_product (2 ^ 32) s.a s.d (s.d / 2) (low u) s.whole s.rest s.bias dividend u (high u)
      s.divides.at_least (halves u within) s.quotient s.biased dividend_is)

  -- and what is added to high × whole
  pub quotient-most : dividend / s.d ≤ 2 ^ 46
  quotient-most = omega (arith, div-le_self dividend s.d, dividend-most)

  pub difference_fits : SFits w64 (pos (dividend / s.d) -ℤ pos (2 ^ 32))
  difference_fits = within-fits w64 _ (lit< tt)
      (within-add (pos (dividend / s.d)) (neg_ℤ (pos (2 ^ 32))) (within_more quotient-most (within-natural (dividend / s.d)))
      (within-neg (pos (2 ^ 32)) (within-natural (2 ^ 32))))
