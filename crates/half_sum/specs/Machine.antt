-- Document 01, "Half-sum of grade m against n", in machine integers: which arrays have room for rounds of running sums
-- (request 2/14), and a half-sum in its two parts, steps 1 and 2, and step 3.
use Rattle.std.specs.Prelude.{List, ◌≡◌, ℕ, zero, suc, ◌+◌, ◌-◌, ◌^◌, ◌≤◌, ℤ, pos, length}
use Rattle.integer.specs.Within.{Within}
use Rattle.hermite.specs.HalfSum.{g}
use Rattle.hermite.specs.Polynomial.{coefficient}
use Rattle.hermite.specs.RunningSums.{rounds}
use Rattle.hermite.specs.Slope.{primed}
use Rattle.rounding.specs.HalfSum.{descended}
use Rattle.rounding.specs.Limits.{grade_max}
use Rattle.rounding.specs.Scaling.{scaled_times}

-- w holds 8 numbers that have room for k rounds: before the first and after each of them all fit in 64 bits
pub record Room (k : ℕ) (w : List ℤ) : Type 0 where
  pub count : grade_max + 1 ≡ length w
  pub fits : (j i : ℕ) → j ≤ k → i ≤ grade_max → Within (2 ^ 63 - 1) (rounds j (coefficient w) i)

-- u after step 2 of the half-sum of m against n
abbrev pub steps_1_and_2 : ℕ → ℕ → ℕ → ℕ → (ℕ → ℤ) → ℤ
steps_1_and_2 m n a d w = descended (g n w) a d m 0

-- u after step 2 of the half-sum of m−1 against n on w', and 0 for one of grade −1
unfoldable pub lower_steps_1_and_2 : ℕ → ℕ → ℕ → ℕ → (ℕ → ℤ) → ℤ
lower_steps_1_and_2 zero n a d w = pos 0
lower_steps_1_and_2 (suc m) n a d w = steps_1_and_2 m n a d (primed w)

-- step 3 of that half-sum, by a fraction b/d, which callers give as (d−a)/d; 0 for grade −1
unfoldable pub lower_step_3 : ℕ → ℕ → ℕ → ℕ → ℤ → ℤ
lower_step_3 zero n b d u = pos 0
lower_step_3 (suc m) n b d u = scaled_times (n + 1) u b d
