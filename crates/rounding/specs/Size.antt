-- Document 01, "The reel": the size rule, for one list of coefficients and one gap, and what a piece of a reel can be.
use Rattle.std.specs.Prelude.{List, ℕ, ◌+◌, ◌*◌, ◌^◌, ◌≤◌, ◌<◌, ℤ, pos, nat_abs, length, get_or}
use Rattle.rounding.specs.Limits.{grade_max, gap_max, size_max}
use Rattle.rounding.specs.Piece.{Piece}

-- |C_j| × h^j
abbrev pub product : ℕ → List ℤ → ℕ → ℕ
product h C j = nat_abs (get_or C j (pos 0)) * h ^ j

-- the size rule for one list and one gap h: each |C_j| × h^j is at most 2^28
abbrev pub Sized : ℕ → List ℤ → Type 0
Sized h C = (j : ℕ) → j < length C → product h C j ≤ size_max

-- a grade of 0 to 7: a list of 1 to 8 coefficients
pub record Listed (C : List ℤ) : Type 0 where
  pub at_least : 1 ≤ length C
  pub at_most : length C ≤ grade_max + 1

-- a gap of 1 to 16 steps, at each end a grade of 0 to 7, and the size rule with this gap
pub record Admitted (P : Piece) : Type 0 where
  pub gap_at_least : 1 ≤ P.h
  pub gap_at_most : P.h ≤ gap_max
  pub left_grade : Listed P.left
  pub right_grade : Listed P.right
  pub left_size : Sized P.h P.left
  pub right_size : Sized P.h P.right
