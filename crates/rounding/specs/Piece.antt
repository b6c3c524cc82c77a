-- Document 01, "Blend over one piece": a piece, its grades and weights, and its exact blend, derivative and integral.
use Rattle.std.specs.Prelude.{List, ℕ, ◌*◌, ◌-◌, ◌^◌, ℤ, pos, ◌*ℤ◌, length, get_or}
use Rattle.hermite.specs.Polynomial.{Polynomial, derivative}
use Rattle.hermite.specs.Blend.{blend}
use Rattle.hermite.specs.Water.{integral}

-- a piece: its length h in steps, and the coefficients C_0, C_1, .. of the knots at its left and right end
pub record Piece : Type 0 where
  pub h : ℕ
  pub left : List ℤ
  pub right : List ℤ

-- the piece of h steps with these two lists
abbrev pub piece : ℕ → List ℤ → List ℤ → Piece
piece h left right = record { h = h; left = left; right = right }

-- the grades at the left and the right end: C_0 to C_m, C_0 to C_n
abbrev pub m : Piece → ℕ
m P = length P.left - 1

abbrev pub n : Piece → ℕ
n P = length P.right - 1

-- C_j × h^j
abbrev pub weight : ℕ → List ℤ → ℕ → ℤ
weight h C j = get_or C j (pos 0) *ℤ pos (h ^ j)

-- p_j, the left weights, and q_j; the right weights are (−1)^j × q_j (`right_weights` of hermite)
abbrev pub p : Piece → ℕ → ℤ
p P = weight P.h P.left

abbrev pub q : Piece → ℕ → ℤ
q P = weight P.h P.right

-- a query position is in 1/256 step, and so is r
abbrev pub position_unit : ℕ
position_unit = 256

-- D = 256 × h: the piece's length in that unit
abbrev pub D : Piece → ℕ
D P = position_unit * P.h

-- the exact blend of the piece
unfoldable pub exact_blend : Piece → Polynomial
exact_blend P = blend (m P) (n P) (p P) (q P)

-- the exact derivative over the piece, with the coefficients (i+1) × a_(i+1)
unfoldable pub exact_derivative : Piece → Polynomial
exact_derivative P = derivative (exact_blend P)

-- the exact integral, in the unit of Water: h × the sum of a_i × 720,720/(i+1)
unfoldable pub exact_integral : Piece → ℤ
exact_integral P = pos P.h *ℤ integral (exact_blend P)
