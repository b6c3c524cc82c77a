-- Every number of a piece that a reel can hold fits in 64 bits: its half-sums, Y1 to Y3 and the trend's sum, its value and its total.
use Prim.Native.Nat.{ℕ, ◌*◌, ◌-◌, ◌^◌, ◌≤◌}
use native.Mathlib.Omega.{arith}
use lib.Dec.{lit≤}
use lib.IntN.{pos, neg_ℤ, ◌+ℤ◌, ◌-ℤ◌}
use Rattle.integer.specs.Within.{Within}
use Rattle.integer.proofs.Within.{within-natural, within_more, within-add, within-neg, within_mul}
use Rattle.hermite.specs.Blend.{right_weights}
use Rattle.hermite.specs.HalfSum.{value_unit}
use Rattle.hermite.specs.Slope.{sum_k, K}
use Rattle.hermite.specs.Water.{water_unit, weighted_sum}
use Rattle.rounding.specs.HalfSum.{half_sum}
use Rattle.rounding.specs.Piece.{Piece, m, n, p, q, D}
use Rattle.rounding.specs.Limits.{grade_max, size_max}
use Rattle.rounding.specs.Size.{Admitted}
use Rattle.rounding.specs.Trend.{Y1, Y2, Y3}
use Rattle.rounding.specs.Value.{value}
use Rattle.rounding.specs.Water.{total}
use Rattle.rounding.proofs.Bounds.{sized_within, right_sized, half-within, lower-within, sum_k-within, scaled_k-within, side_within}

module _ (P : Piece) (admitted : Admitted P) where
  pub left-grade : m P ≤ grade_max
  left-grade = omega (arith, admitted.left_grade.at_most)

  pub right-grade : n P ≤ grade_max
  right-grade = omega (arith, admitted.right_grade.at_most)

  pub left-weight : (j : ℕ) → Within size_max (p P j)
  left-weight j = sized_within P.h P.left j admitted.left_size

  pub right-weight : (j : ℕ) → Within size_max (right_weights (q P) j)
  right-weight j = right_sized P.h P.right j admitted.right_size

  -- K: at most 91,520 × 2^28 from each end
  pub K_within : Within (2 * (91520 * size_max)) (K (m P) (n P) (p P) (q P))
  unfolding K
  K_within =
      within-add _ (neg_ℤ (sum_k (m P) (n P) (p P))) (sum_k-within (n P) (m P) (right_weights (q P)) (omega arith) (omega arith) (λ j h. right-weight j))
      (within-neg _ (sum_k-within (m P) (n P) (p P) (omega arith) (omega arith) (λ j h. left-weight j)))

  -- the sum of both ends' products with the integral weights, and h times it; 128 totals fit too
  pub weighted_sum-within : Within (4 * water_unit * size_max) (weighted_sum (m P) (n P) (p P) (q P))
  unfolding weighted_sum
  weighted_sum-within =
      within-add _ _ (side_within (m P) (n P) (p P) (omega arith) (omega arith) (λ j h. left-weight j))
      (side_within (n P) (m P) (right_weights (q P)) (omega arith) (omega arith) (λ j h. right-weight j))

  pub total-within : Within (2 ^ 54) (total P)
  unfolding total
  total-within = within_more (lit≤ tt) (within_mul (pos P.h) _ (within_more admitted.gap_at_most (within-natural P.h)) weighted_sum-within)

  module _ (r : ℕ) (within : r ≤ D P) where
    -- the two half-sums of a value
    left-within : Within (2 ^ 61) (half_sum (m P) (n P) r (D P) (p P))
    left-within = half-within (m P) (n P) r (D P) (p P) (omega arith) (omega arith) (omega arith) (omega arith) (λ j h. left-weight j)

    right-within : Within (2 ^ 61) (half_sum (n P) (m P) (D P - r) (D P) (right_weights (q P)))
    right-within = half-within (n P) (m P) (D P - r) (D P) (right_weights (q P)) (omega arith) (omega arith) (omega arith) (omega arith) (λ j h. right-weight j)

    pub value-within : Within (2 ^ 62) (value P r)
    unfolding value
    value-within = within-add _ _ left-within right-within

    Y1_within : Within (7 * (value_unit * (3003 * (7 * size_max)))) (Y1 P r)
    unfolding Y1
    Y1_within = lower-within (m P) (n P) r (D P) (p P) (omega arith) (omega arith) (omega arith) (omega arith) (λ j h. left-weight j)

    Y2_within : Within (7 * (value_unit * (3003 * (7 * size_max)))) (Y2 P r)
    unfolding Y2
    Y2_within = lower-within (n P) (m P) (D P - r) (D P) (right_weights (q P)) (omega arith) (omega arith) (omega arith) (omega arith) (λ j h. right-weight j)

    Y3_within : Within (value_unit * (2 * (91520 * size_max))) (Y3 P r)
    unfolding Y3
    Y3_within = scaled_k-within (m P) (n P) r (D P) _ (omega arith) (omega arith) K_within

    -- what a trend divides by h, as it is added up: the tightest of all
    pub difference_within : Within (2 * (7 * (value_unit * (3003 * (7 * size_max))))) (Y1 P r -ℤ Y2 P r)
    difference_within = within-add (Y1 P r) (neg_ℤ (Y2 P r)) Y1_within (within-neg (Y2 P r) Y2_within)

    pub slope-within : Within (2 ^ 63 - 1) (Y1 P r -ℤ Y2 P r +ℤ Y3 P r)
    slope-within = within_more (lit≤ tt) (within-add _ (Y3 P r) difference_within Y3_within)
