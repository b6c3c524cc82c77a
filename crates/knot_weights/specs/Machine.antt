-- Weights in machine integers: what an array of 8 whole numbers holds, and how large its entries are.
use Rattle.std.specs.Prelude.{◌≡◌, List, ℕ, zero, suc, ◌+◌, ◌≤◌, ℤ, pos, ◌*ℤ◌, length, replicate}
use Rattle.integer.specs.Within.{Within}
use Rattle.hermite.specs.Polynomial.{coefficient}
use Rattle.rounding.specs.Limits.{grade_max}

-- z^j
unfoldable pub power : ℤ → ℕ → ℤ
power z zero = pos 1
power z (suc j) = power z j *ℤ z

-- C_j × z^j: with h for z the weights of a left knot, with −h those of a right one
abbrev pub by_powers : ℤ → List ℤ → ℕ → ℤ
by_powers z C j = coefficient C j *ℤ power z j

-- an array of weights before it is filled
abbrev pub zeros : List ℤ
zeros = replicate (grade_max + 1) (pos 0)

-- w holds f_0 to f_7
pub record Lists (w : List ℤ) (f : ℕ → ℤ) : Type 0 where
  pub count : grade_max + 1 ≡ length w
  pub entry : (j : ℕ) → j ≤ grade_max → coefficient w j ≡ f j

-- w holds 8 numbers from −B to B
pub record Weights (B : ℕ) (w : List ℤ) : Type 0 where
  pub count : grade_max + 1 ≡ length w
  pub small : (j : ℕ) → j ≤ grade_max → Within B (coefficient w j)
