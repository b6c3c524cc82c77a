-- Document 01, "Half-sum of grade m against n, with fraction a/D and weights w_0 to w_m". Step 1, the sums
-- g_i, is hermite's `g`.
use Rattle.std.specs.Prelude.{ℕ, zero, suc, ◌+◌, ◌-◌, ℤ, pos, ◌+ℤ◌, ◌*ℤ◌}
use Rattle.hermite.specs.HalfSum.{value_unit, g}
use Rattle.hermite.specs.Slope.{primed}
use Rattle.rounding.specs.Scaling.{scaled, scaled_times}

-- step 2: u at i, after k turns from i + k, which is m. After no turn it is 65,536 × g_m; each turn scales the u
-- before it by a/D and adds 65,536 × g_i
unfoldable pub descended : (ℕ → ℤ) → ℕ → ℕ → ℕ → ℕ → ℤ
descended G a D zero i = pos value_unit *ℤ G i
descended G a D (suc k) i = scaled (descended G a D k (suc i)) a D +ℤ pos value_unit *ℤ G i

-- the three steps; step 3 scales u by (D−a)/D, n+1 times
unfoldable pub half_sum : ℕ → ℕ → ℕ → ℕ → (ℕ → ℤ) → ℤ
half_sum m n a D w = scaled_times (n + 1) (descended (g n w) a D m 0) (D - a) D

-- the half-sum of m−1 against n on w'; half-sums of grade −1 are 0
unfoldable pub lower_half_sum : ℕ → ℕ → ℕ → ℕ → (ℕ → ℤ) → ℤ
lower_half_sum zero n a D w = pos 0
lower_half_sum (suc m) n a D w = half_sum m n a D (primed w)
