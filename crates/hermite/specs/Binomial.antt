-- Binomial coefficients and alternating signs.
use Rattle.std.specs.Prelude.{ℕ, zero, suc, ◌+◌, ℤ, pos, neg_ℤ}

-- binomial(n, k), by Pascal's triangle
unfoldable pub binomial : ℕ → ℕ → ℕ
binomial n zero = 1
binomial zero (suc k) = 0
binomial (suc n) (suc k) = binomial n k + binomial n (suc k)

-- (−1)^j
unfoldable pub sign : ℕ → ℤ
sign zero = pos 1
sign (suc j) = neg_ℤ (sign j)
