-- Document 01, "Water": the exact integral, in 1/720,720, and the integral weights of formulas (11) to (13)
-- of source document 001.
use Rattle.std.specs.Prelude.{ℕ, zero, suc, ◌+◌, ◌*◌, ◌-◌, ◌/◌, ℤ, pos, ◌+ℤ◌, ◌*ℤ◌}
use Rattle.integer.specs.Sum.{sum}
use Rattle.hermite.specs.Blend.{right_weights}
use Rattle.hermite.specs.Polynomial.{Polynomial, dot}

-- totals are in 1/720,720 of a count × step: the least common multiple of 1 to 16
abbrev pub water_unit : ℕ
water_unit = 720720

-- the exact integral over s from 0 to 1: the sum of a_i × 720,720/(i+1)
unfoldable pub integral : Polynomial → ℤ
integral a = dot a (λ i. pos (water_unit / (i + 1)))

-- the integral weights: c_0 = 720,720 × (m+1)/(m+n+2), c_j = c_(j−1) × j(m−j+1) / ((j+1)(m+n+2−j)).
-- At j = m+1 the factor m−j+1 is 0, so this entry and every later one is 0
unfoldable pub c : ℕ → ℕ → ℕ → ℕ
c m n zero = water_unit * (m + 1) / (m + n + 2)
c m n (suc i) = let j = suc i in c m n i * (j * (m + 1 - j)) / ((j + 1) * (m + n + 2 - j))

-- p_j multiplied by c_j, and (−1)^j × q_j by the entry with m and n exchanged, all added
unfoldable pub weighted_sum : ℕ → ℕ → (ℕ → ℤ) → (ℕ → ℤ) → ℤ
weighted_sum m n p q = sum m (λ j. p j *ℤ pos (c m n j)) +ℤ sum n (λ j. right_weights q j *ℤ pos (c n m j))
