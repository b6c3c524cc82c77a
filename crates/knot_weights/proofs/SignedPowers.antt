-- Powers of h and of −h: C_j times them are a knot's weights, at a left and at a right end.
use mathlib.Core.Path.{◌≡◌, refl, ◌∙◌, ap}
use mathlib.Core.List.{List, [], ◌∷◌}
use Prim.Native.Nat.{ℕ, zero, suc, ◌^◌, ◌≤◌}
use native.Mathlib.Nat.{pow-zero, pow-suc}
use native.Mathlib.Omega.{arith}
use lib.Dec.{lit≤}
use lib.IntN.{ℤ, pos, neg_ℤ, ◌*ℤ◌}
use Rattle.integer.specs.Within.{Within}
use Rattle.integer.proofs.Laws.{*ℤ-left_comm}
use Rattle.integer.proofs.Ring.{lets, solve, terms}
use Rattle.integer.proofs.Within.{within_more, within_mul, within-natural}
use Rattle.hermite.specs.Binomial.{sign}
use Rattle.hermite.specs.Blend.{right_weights}
use Rattle.hermite.specs.Polynomial.{coefficient}
use Rattle.rounding.specs.Limits.{gap_max, grade_max}
use Rattle.rounding.specs.Piece.{weight}
use Rattle.rounding.proofs.Bounds.{power_small}
use Rattle.knot_weights.specs.Machine.{power, by_powers}

-- at a left end
power_of_h : (h j : ℕ) → power (pos h) j ≡ pos (h ^ j)
unfolding power
power_of_h h zero = ap pos (omega (arith, pow-zero h))
power_of_h h (suc j) = ap (λ x. x *ℤ pos h) (power_of_h h j) ∙ ap pos (omega (arith, pow-suc h j))

-- at a right end
alternate : (x s y : ℤ) → s *ℤ y *ℤ neg_ℤ x ≡ neg_ℤ s *ℤ (y *ℤ x)
alternate x s y = lets (x ∷ s ∷ y ∷ []) (λ ρ v. simp (v 0, v 1, v 2, terms) (solve ρ _ _ tt))

power_of_minus_h : (h j : ℕ) → power (neg_ℤ (pos h)) j ≡ sign j *ℤ power (pos h) j
unfolding power sign
power_of_minus_h h zero = refl
power_of_minus_h h (suc j) = ap (λ x. x *ℤ neg_ℤ (pos h)) (power_of_minus_h h j) ∙ alternate (pos h) (sign j) (power (pos h) j)

-- C_j times them
pub left-powers : (h : ℕ) (C : List ℤ) (j : ℕ) → by_powers (pos h) C j ≡ weight h C j
left-powers h C j = ap (λ x. coefficient C j *ℤ x) (power_of_h h j)

pub right-powers : (h : ℕ) (C : List ℤ) (j : ℕ) → by_powers (neg_ℤ (pos h)) C j ≡ right_weights (weight h C) j
unfolding right_weights
right-powers h C j =
    ap (λ x. coefficient C j *ℤ x) (power_of_minus_h h j) ∙ *ℤ-left_comm (coefficient C j) (sign j) (power (pos h) j) ∙
    ap (λ x. sign j *ℤ x) (left-powers h C j)

-- how large they are
power-within : {B : ℕ} (z : ℤ) (j : ℕ) → Within B z → Within (B ^ j) (power z j)
unfolding power
power-within {B} z zero w = within_more (omega (arith, pow-zero B)) (within-natural 1)
power-within {B} z (suc j) w = within_more (omega (arith, pow-suc B j)) (within_mul (power z j) z (power-within z j w) w)

-- of h or −h, to an order
pub power-most : (z : ℤ) (j : ℕ) → j ≤ grade_max → Within gap_max z → Within (2 ^ 28) (power z j)
power-most z j h w = within_more (power_small gap_max j (lit≤ tt) h) (power-within z j w)
