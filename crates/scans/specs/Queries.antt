-- Document 01: value, trend and total of a list of scans, and the exact integral that a total is.
use Rattle.std.specs.Prelude.{List, ℕ, zero, suc, ◌+◌, ◌-◌, ◌≤◌, ◌<◌, ℤ, pos, ◌+ℤ◌}
use Rattle.rounding.specs.Piece.{Piece, exact_integral}
use Rattle.rounding.specs.Value.{value}
use Rattle.rounding.specs.Trend.{trend}
use Rattle.rounding.specs.Water.{total}
use Rattle.scans.specs.Scan.{Scan}
use Rattle.scans.specs.Pieces.{piece_of, value_place, trend_place}

-- document 01, "Blend over one piece": the piece of a value at query position x, and the value
abbrev pub value_piece : List Scan → ℕ → Piece
value_piece scans x = piece_of scans (value_place scans x).k

unfoldable pub value_at : List Scan → ℕ → ℤ
value_at scans x = value (value_piece scans x) (value_place scans x).r

-- document 01, "Trend", with request 3/14: the piece of a trend at query position x, and the trend
abbrev pub trend_piece : List Scan → ℕ → Piece
trend_piece scans x = piece_of scans (trend_place scans x).k

unfoldable pub trend_at : List Scan → ℕ → ℤ
trend_at scans x = trend (trend_piece scans x) (trend_place scans x).r

-- document 01, "Water": the sum of f over c pieces from piece i on
unfoldable pub sum_from : (ℕ → ℤ) → ℕ → ℕ → ℤ
sum_from f i zero = pos 0
sum_from f i (suc c) = sum_from f i c +ℤ f (i + c)

-- of n knots, those from i to j: i is not above j, and there is a knot j. So 9 does not refuse a total of them
pub record InRange (n i j : ℕ) : Type 0 where
  pub order : i ≤ j
  pub last : j < n

-- Total(i, j) adds pieces i to j−1, and is 0 for i = j
unfoldable pub total_over : List Scan → ℕ → ℕ → ℤ
total_over scans i j = sum_from (λ k. total (piece_of scans k)) i (j - i)

-- demand 3: the exact integral of the blends over these pieces
unfoldable pub integral_over : List Scan → ℕ → ℕ → ℤ
integral_over scans i j = sum_from (λ k. exact_integral (piece_of scans k)) i (j - i)
