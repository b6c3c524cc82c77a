-- Document 01, "Half-sum of grade m against n, with fraction a/D and weights w_0 to w_m", without its rounding.
use Rattle.std.specs.Prelude.{ℕ, ◌+◌, ◌*◌, ◌-◌, ◌^◌, ℤ, pos, ◌*ℤ◌}
use Rattle.integer.specs.Sum.{sum}
use Rattle.hermite.specs.Binomial.{binomial}

-- the unit of values: 65,536 parts of a count
abbrev pub value_unit : ℕ
value_unit = 65536

-- step 1: g_i = sum over j from 0 to i of binomial(n+i−j, i−j) × w_j
unfoldable pub g : ℕ → (ℕ → ℤ) → ℕ → ℤ
g n w i = sum i (λ j. pos (binomial (n + i - j) (i - j)) *ℤ w j)

-- step 2 on any G_i, without rounding and multiplied by D^m: the sum of 65,536 × G_i × a^i × D^(m−i)
unfoldable pub unrounded_descent : (ℕ → ℤ) → ℕ → ℕ → ℕ → ℤ
unrounded_descent G a D m = sum m (λ i. pos value_unit *ℤ G i *ℤ pos (a ^ i * D ^ (m - i)))

-- the half-sum without rounding, multiplied by D^(m+n+1): step 3 multiplies by (D−a)^(n+1)
unfoldable pub unrounded : ℕ → ℕ → ℕ → ℕ → (ℕ → ℤ) → ℤ
unrounded m n a D w = pos ((D - a) ^ (n + 1)) *ℤ unrounded_descent (g n w) a D m
