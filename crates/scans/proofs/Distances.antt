-- Demand 3 for scans that stand: values and trends keep their distances, a total is the exact integral, and each piece has its Taylor
-- clause.
use mathlib.Core.List.{List}
use mathlib.Core.Path.{◌≡◌}
use Prim.Native.Nat.{ℕ, suc, ◌+◌, ◌-◌, ◌≤◌, ◌<◌}
use native.Mathlib.Omega.{arith}
use lib.ListN.{length}
use Rattle.rounding.specs.Piece.{exact_integral}
use Rattle.rounding.specs.Taylor.{Taylor}
use Rattle.rounding.specs.Trend.{TrendDistance}
use Rattle.rounding.specs.Value.{ValueDistance}
use Rattle.rounding.specs.Water.{total}
use Rattle.rounding.proofs.Fits.{left-grade, right-grade}
use Rattle.rounding.proofs.Distance.Trend.{trend-distance}
use Rattle.rounding.proofs.Distance.Value.{value-distance}
use Rattle.rounding.proofs.Integral.{total_is}
use Rattle.rounding.proofs.Taylor.{taylor_holds}
use Rattle.scans.specs.Scan.{Scan}
use Rattle.scans.specs.Standing.{Standing}
use Rattle.scans.specs.Pieces.{piece_of, InReel, value_place, trend_place}
use Rattle.scans.specs.Queries.{value_piece, value_at, trend_piece, trend_at, total_over, integral_over}
use Rattle.scans.proofs.Pieces.{piece-admitted, value-lies, trend-lies}
use Rattle.scans.proofs.Sums.{sum-agree}

module _ (scans : List Scan) (st : Standing scans) where
  module _ (x : ℕ) (within : InReel scans x) where
    pub value-near : ValueDistance (value_piece scans x) (value_place scans x).r (value_at scans x)
    unfolding value_at
    value-near =
        let lies = value-lies scans st x within in
        value-distance _ _ (piece-admitted scans st (value_place scans x).k lies.piece).gap_at_least lies.within

    pub trend-near : TrendDistance (trend_piece scans x) (trend_place scans x).r (trend_at scans x)
    unfolding trend_at
    trend-near =
        let lies = trend-lies scans st x within in
        let a = piece-admitted scans st (trend_place scans x).k lies.piece in
        trend-distance _ _ a.gap_at_least (left-grade _ a) (right-grade _ a) lies.within

  pub total-exact : (i j : ℕ) → i ≤ j → j < length scans → total_over scans i j ≡ integral_over scans i j
  unfolding total_over integral_over
  total-exact i j h b = sum-agree (λ k. total (piece_of scans k)) (λ k. exact_integral (piece_of scans k)) i (j - i) exact
    where
      exact : (k : ℕ) → i ≤ k → k < i + (j - i) → total (piece_of scans k) ≡ exact_integral (piece_of scans k)
      exact k l g =
          let a = piece-admitted scans st k (omega arith) in
          total_is (piece_of scans k) (left-grade _ a) (right-grade _ a)

  pub taylor_of : (k : ℕ) → suc k < length scans → Taylor (piece_of scans k)
  taylor_of k h =
      let a = piece-admitted scans st k h in
      taylor_holds (piece_of scans k) (left-grade _ a) (right-grade _ a)
