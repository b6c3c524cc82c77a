-- The distance of a trend: twice that between 65,536 × the exact derivative over the piece and h × z is at most 3(m+n)+h.
use mathlib.Core.Path.{sym}
use Prim.Native.Nat.{ℕ, ◌+◌, ◌*◌, ◌≤◌, ◌<◌}
use native.Mathlib.Omega.{arith}
use lib.IntN.{pos, ◌+ℤ◌, ◌-ℤ◌, ◌*ℤ◌}
use Rattle.hermite.specs.Polynomial.{at}
use Rattle.hermite.specs.HalfSum.{value_unit}
use Rattle.hermite.proofs.HalfSum.{derivative-value}
use Rattle.rounding.specs.Piece.{Piece, m, n, p, q, D, exact_blend, exact_derivative}
use Rattle.rounding.specs.Scaling.{Nearest}
use Rattle.rounding.specs.Value.{N}
use Rattle.rounding.specs.Trend.{Y1, Y2, Y3, scaled_k, trend, trend_error, TrendDistance}
use Rattle.rounding.proofs.Scaling.{nearest}
use Rattle.rounding.proofs.Distance.Near.{Near, near_as, near-divided}
use Rattle.rounding.proofs.Distance.Slope.{near-slope}

pub trend-distance : (P : Piece) (r : ℕ) → 0 < P.h → m P ≤ 7 → n P ≤ 7 → r ≤ D P → TrendDistance P r (trend P r)
unfolding trend trend_error Y1 Y2 Y3 scaled_k exact_blend exact_derivative
trend-distance P r long hm hn b = omega (arith, near.twice)
  where
    by_h : Nearest (Y1 P r -ℤ Y2 P r +ℤ Y3 P r) P.h (trend P r)
    by_h = nearest (Y1 P r -ℤ Y2 P r +ℤ Y3 P r) P.h long

    -- 3(m+n) scalings, and then the division by h
    near : Near (D P) (N P) (3 * (m P + n P) + P.h) (pos value_unit *ℤ at r (D P) (N P) (exact_derivative P)) (pos P.h *ℤ trend P r)
    near =
        near_as (omega arith) (omega arith) (sym (derivative-value r (D P) b (m P) (n P) hm hn (p P) (q P)))
        (near-divided (near-slope (D P) (omega arith) (m P) (n P) r (p P) (q P) b) by_h)
