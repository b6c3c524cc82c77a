-- Document 01, "Blend over one piece": formula (1) of source document 000 multiplied out, and its Taylor coefficients.
-- Weights are functions of their order; m and n are the grades at the left and the right end.
use Rattle.std.specs.Prelude.{[], ◌∷◌, ℕ, ◌+◌, ◌-◌, ℤ, pos, negsuc, ◌*ℤ◌}
use Rattle.hermite.specs.Binomial.{binomial, sign}
use Rattle.hermite.specs.Polynomial.{Polynomial, ◌⊕◌, ◌⊙◌, ◌⊗◌, ◌↑◌, sumₚ, coefficient, dot}

-- the polynomials s and 1 − s (`negsuc 0` is −1)
abbrev pub s : Polynomial
s = pos 0 ∷ pos 1 ∷ []

abbrev pub 1_s : Polynomial
1_s = pos 1 ∷ negsuc 0 ∷ []

-- right weights: (−1)^j × q_j
unfoldable pub right_weights : (ℕ → ℤ) → ℕ → ℤ
right_weights q j = sign j *ℤ q j

-- the terms of order j, with its weight w, of a double sum of formula (1) of source document 000: the sum, over i from
-- 0 to m−j, of binomial(n+i, i) × w × x^(i+j) × y^(n+1)
unfoldable pub of_order : Polynomial → Polynomial → ℕ → ℕ → ℕ → ℤ → Polynomial
of_order x y m n j w = sumₚ (m - j) (λ i. pos (binomial (n + i) i) ⊙ w ⊙ x ↑ (i + j) ⊗ y ↑ (n + 1))

-- the double sum: these over j from 0 to m
unfoldable pub double_sum : Polynomial → Polynomial → ℕ → ℕ → (ℕ → ℤ) → Polynomial
double_sum x y m n w = sumₚ m (λ j. of_order x y m n j (w j))

-- the exact blend, formula (1) of source document 000: s and the left weights, then 1 − s and the right weights; its
-- list is a_0 to a_(m+n+1)
unfoldable pub blend : ℕ → ℕ → (ℕ → ℤ) → (ℕ → ℤ) → Polynomial
blend m n p q = double_sum s 1_s m n p ⊕ double_sum 1_s s n m (right_weights q)

-- the Taylor coefficient of order j at the left end: a_j
unfoldable pub taylor_left : ℕ → Polynomial → ℤ
taylor_left j a = coefficient a j

-- and at the right end: the sum of binomial(i, j) × a_i
unfoldable pub taylor_right : ℕ → Polynomial → ℤ
taylor_right j a = dot a (λ i. pos (binomial i j))
