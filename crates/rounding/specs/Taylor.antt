-- Document 01, "Blend over one piece": the Taylor clause.
use Rattle.std.specs.Prelude.{◌≡◌, ℕ, ◌≤◌}
use Rattle.hermite.specs.Blend.{taylor_left, taylor_right}
use Rattle.rounding.specs.Piece.{Piece, m, n, weight, exact_blend}

-- the Taylor coefficients of the exact blend at both ends of a piece are the knots' own C_j × h^j, j to the grade
pub record Taylor (P : Piece) : Type 0 where
  pub at_left : (j : ℕ) → j ≤ m P → taylor_left j (exact_blend P) ≡ weight P.h P.left j
  pub at_right : (j : ℕ) → j ≤ n P → taylor_right j (exact_blend P) ≡ weight P.h P.right j
