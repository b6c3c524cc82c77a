-- Document 01, "Trend", without its rounding: the weights w', K, and Y1 − Y2 + Y3 as a polynomial and at r/D.
use Rattle.std.specs.Prelude.{[], ℕ, zero, suc, ◌+◌, ◌*◌, ◌-◌, ◌^◌, ℤ, pos, negsuc, ◌+ℤ◌, ◌-ℤ◌, ◌*ℤ◌}
use Rattle.integer.specs.Sum.{sum}
use Rattle.hermite.specs.Binomial.{binomial}
use Rattle.hermite.specs.Polynomial.{Polynomial, ◌⊕◌, ◌⊙◌, ◌⊗◌, ◌↑◌}
use Rattle.hermite.specs.Blend.{s, 1_s, right_weights, double_sum}
use Rattle.hermite.specs.HalfSum.{value_unit, unrounded}

-- w'_j = (j+1) × w_(j+1)
unfoldable pub primed : (ℕ → ℤ) → ℕ → ℤ
primed w j = pos (j + 1) *ℤ w (j + 1)

-- what multiplies w_j in K: (m+n−j+1) × binomial(m+n−j, m−j)
unfoldable pub kappa : ℕ → ℕ → ℕ → ℕ
kappa m n j = (m + n - j + 1) * binomial (m + n - j) (m - j)

-- one of the two sums of K: sum over j to m of w_j × (m+n−j+1) × binomial(m+n−j, m−j)
unfoldable pub sum_k : ℕ → ℕ → (ℕ → ℤ) → ℤ
sum_k m n w = sum m (λ j. w j *ℤ pos (kappa m n j))

-- K = the sum over the right weights, minus the sum over the left
unfoldable pub K : ℕ → ℕ → (ℕ → ℤ) → (ℕ → ℤ) → ℤ
K m n p q = sum_k n m (right_weights q) -ℤ sum_k m n p

-- a double sum of grade m−1 against n on w'; of grade −1 it is 0
unfoldable pub lowered : Polynomial → Polynomial → ℕ → ℕ → (ℕ → ℤ) → Polynomial
lowered x y zero n w = []
lowered x y (suc m) n w = double_sum x y m n (primed w)

-- and that half-sum without rounding, multiplied by D^(m+n)
unfoldable pub lower_unrounded : ℕ → ℕ → ℕ → ℕ → (ℕ → ℤ) → ℤ
lower_unrounded zero n a D w = pos 0
lower_unrounded (suc m) n a D w = unrounded m n a D (primed w)

-- Y1 − Y2 + Y3, of which Y3 is K × s^m × (1−s)^n
unfoldable pub slope : ℕ → ℕ → (ℕ → ℤ) → (ℕ → ℤ) → Polynomial
slope m n p q = lowered s 1_s m n p ⊕ negsuc 0 ⊙ lowered 1_s s n m (right_weights q) ⊕ K m n p q ⊙ s ↑ m ⊗ 1_s ↑ n

-- Y1 − Y2 + Y3 at r/D by half-sums, each without rounding and multiplied by D^(m+n)
unfoldable pub unrounded_slope : ℕ → ℕ → ℕ → ℕ → (ℕ → ℤ) → (ℕ → ℤ) → ℤ
unrounded_slope m n r D p q =
    lower_unrounded m n r D p -ℤ lower_unrounded n m (D - r) D (right_weights q) +ℤ
    pos ((D - r) ^ n) *ℤ (pos (r ^ m) *ℤ (pos value_unit *ℤ K m n p q))
