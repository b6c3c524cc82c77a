-- Every line of the report has its numbers, of scans that stand: the calls that it asks answer the value and the trend at the piece's left
-- knot, the piece's total, and for the reel the sum of all pieces' totals from the first scan on.
use mathlib.Core.List.{List}
use mathlib.Core.Path.{◌≡◌, ◌∙◌, ap}
use Prim.Native.Nat.{ℕ, suc, ◌-◌, ◌≤◌, ◌<◌}
use native.Mathlib.Omega.{arith}
use lib.IntN.{+ℤ_idl}
use lib.ListN.{length}
use Rattle.rounding.specs.Water
use Rattle.scans.specs.Scan.{Scan}
use Rattle.scans.specs.Standing.{Standing}
use Rattle.scans.specs.Pieces.{mark, piece_of}
use Rattle.scans.specs.Queries.{value_at, trend_at, sum_from, total_over}
use Rattle.scans.proofs.Order.{query_free, range_free}
use Rattle.scans.proofs.Pieces.{knot_in_reel}
use Rattle.scans.proofs.Sums.{total_none, total-next}
use Rattle.calls.specs.Calls.{number, value, trend, total, reply_to}
use Rattle.calls.proofs.Effects.{acceptance_replies}

module _ (scans : List Scan) (st : Standing scans) where
  total-answered : (i j : ℕ) → 2 ≤ length scans → i ≤ j → j < length scans → reply_to (total i j) scans ≡ number (total_over scans i j)
  total-answered i j two order last =
      acceptance_replies (total i j) scans (range_free (length scans) i j two (record { order = order; last = last }))

  module _ (k : ℕ) (h : suc k < length scans) where
    pub value_there : reply_to (value (mark scans k)) scans ≡ number (value_at scans (mark scans k))
    value_there = acceptance_replies (value (mark scans k)) scans (query_free scans (mark scans k) (knot_in_reel scans st k h))

    pub trend-there : reply_to (trend (mark scans k)) scans ≡ number (trend_at scans (mark scans k))
    trend-there = acceptance_replies (trend (mark scans k)) scans (query_free scans (mark scans k) (knot_in_reel scans st k h))

    one_piece : total_over scans k (suc k) ≡ Water.total (piece_of scans k)
    one_piece = total-next scans k k (omega arith) ∙ rw (total_none scans k) (+ℤ_idl _)

    pub piece-total : reply_to (total k (suc k)) scans ≡ number (Water.total (piece_of scans k))
    piece-total = total-answered k (suc k) (omega arith) (omega arith) h ∙ ap number one_piece

  pub reel_total : 2 ≤ length scans →
      reply_to (total 0 (length scans - 1)) scans ≡ number (sum_from (λ k. Water.total (piece_of scans k)) 0 (length scans - 1))
  unfolding total_over
  reel_total two =
      let all : length scans - 1 - 0 ≡ length scans - 1 = omega arith in
      total-answered 0 (length scans - 1) two (omega arith) (omega arith) ∙ ap (λ c. number (sum_from (λ k. Water.total (piece_of scans k)) 0 c)) all
