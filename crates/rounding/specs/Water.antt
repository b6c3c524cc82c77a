-- Document 01, "Water": a piece's total, in 1/720,720 of a count × step.
use Rattle.std.specs.Prelude.{ℤ, pos, ◌*ℤ◌}
use Rattle.hermite.specs.Water.{weighted_sum}
use Rattle.rounding.specs.Piece.{Piece, m, n, p, q}

-- h × the sum of all the products with the integral weights
unfoldable pub total : Piece → ℤ
total P = pos P.h *ℤ weighted_sum (m P) (n P) (p P) (q P)
