-- Document 01, "Trend": the trend at distance r from the left knot, in 1/65,536 count per step, and its distance in
-- demand 3, as request 5/14 gives it.
use Rattle.std.specs.Prelude.{ℕ, ◌+◌, ◌*◌, ◌-◌, ◌^◌, ◌≤◌, ℤ, pos, nat_abs, ◌+ℤ◌, ◌-ℤ◌, ◌*ℤ◌}
use Rattle.hermite.specs.Polynomial.{at}
use Rattle.hermite.specs.Blend.{right_weights}
use Rattle.hermite.specs.HalfSum.{value_unit}
use Rattle.hermite.specs.Slope.{K}
use Rattle.rounding.specs.Piece.{Piece, m, n, p, q, D, exact_derivative}
use Rattle.rounding.specs.Scaling.{rounded, scaled_times}
use Rattle.rounding.specs.HalfSum.{lower_half_sum}
use Rattle.rounding.specs.Value.{N}

-- Y1: half-sum of m−1 against n, fraction r/D, on the left w'
unfoldable pub Y1 : Piece → ℕ → ℤ
Y1 P r = lower_half_sum (m P) (n P) r (D P) (p P)

-- Y2: half-sum of n−1 against m, fraction (D−r)/D, on the right w'
unfoldable pub Y2 : Piece → ℕ → ℤ
Y2 P r = lower_half_sum (n P) (m P) (D P - r) (D P) (right_weights (q P))

-- 65,536 × k, scaled by r/D m times, then by (D−r)/D n times
unfoldable pub scaled_k : ℕ → ℕ → ℕ → ℕ → ℤ → ℤ
scaled_k m n r D k = scaled_times n (scaled_times m (pos value_unit *ℤ k) r D) (D - r) D

-- Y3: that of K
unfoldable pub Y3 : Piece → ℕ → ℤ
Y3 P r = scaled_k (m P) (n P) r (D P) (K (m P) (n P) (p P) (q P))

-- Trend = (Y1 − Y2 + Y3) divided by h, to the nearest (5/14)
unfoldable pub trend : Piece → ℕ → ℤ
trend P r = rounded (Y1 P r -ℤ Y2 P r +ℤ Y3 P r) P.h

-- (65,536 × the exact derivative over the piece at r/D − h × z) × D^(m+n+1)
unfoldable pub trend_error : Piece → ℕ → ℤ → ℤ
trend_error P r z = pos value_unit *ℤ at r (D P) (N P) (exact_derivative P) -ℤ pos (D P ^ N P) *ℤ (pos P.h *ℤ z)

-- twice the distance between 65,536 × the exact derivative over the piece and h × z is at most 3(m+n)+h
abbrev pub TrendDistance : Piece → ℕ → ℤ → Type 0
TrendDistance P r z = 2 * nat_abs (trend_error P r z) ≤ (3 * (m P + n P) + P.h) * D P ^ N P
