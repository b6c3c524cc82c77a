-- What demand 3 says of a number that a query answers: distances of values and trends, and exact totals, of scans that stand.
use mathlib.Core.List.{List}
use mathlib.Core.Path.{◌≡◌, ◌∙◌}
use Prim.Native.Nat.{ℕ}
use lib.IntN.{ℤ}
use lib.ListN.{length}
use Rattle.rounding.specs.Value.{ValueDistance}
use Rattle.rounding.specs.Trend.{TrendDistance}
use Rattle.scans.specs.Scan.{Scan}
use Rattle.scans.specs.Standing.{Standing}
use Rattle.scans.specs.Pieces.{value_place, trend_place}
use Rattle.scans.specs.Queries.{value_piece, trend_piece, value_at, trend_at, total_over, integral_over}
use Rattle.scans.proofs.Order.{in_reel, in_range}
use Rattle.scans.proofs.Distances.{value-near, trend-near, total-exact}
use Rattle.calls.specs.Calls.{number, value, trend, total, reply_to}
use Rattle.calls.proofs.Effects.{number-quiet}

module _ (scans : List Scan) (st : Standing scans) where
  pub value-close : (x : ℕ) (v : ℤ) → reply_to (value x) scans ≡ number v → ValueDistance (value_piece scans x) (value_place scans x).r v
  value-close x v e =
      let a = number-quiet (value x) scans e in
      let is : value_at scans x ≡ v = cc a.1 in
      rw (← is) (value-near scans st x (in_reel scans x a.0))

  pub trend-close : (x : ℕ) (z : ℤ) → reply_to (trend x) scans ≡ number z → TrendDistance (trend_piece scans x) (trend_place scans x).r z
  trend-close x z e =
      let a = number-quiet (trend x) scans e in
      let is : trend_at scans x ≡ z = cc a.1 in
      rw (← is) (trend-near scans st x (in_reel scans x a.0))

  pub total_is_exact : (i j : ℕ) (t : ℤ) → reply_to (total i j) scans ≡ number t → t ≡ integral_over scans i j
  total_is_exact i j t e =
      let a = number-quiet (total i j) scans e in
      let r = in_range (length scans) i j a.0 in
      let is : t ≡ total_over scans i j = cc a.1 in
      is ∙ total-exact scans st i j r.order r.last
