-- Document 01, "The reel": what a list of scans can be. Every list that stands after calls from the empty reel is one.
use Rattle.std.specs.Prelude.{List, ◌≡◌, ℕ, suc, ◌≤◌, ◌<◌, length}
use Rattle.std.proofs.Math.Option.{none}
use Rattle.rounding.specs.Limits.{knots_max, position_max, gap_max}
use Rattle.rounding.specs.Size.{Listed}
use Rattle.scans.specs.Scan.{Scan, left_list, right_list, gap, at, before, after}
use Rattle.scans.specs.SizeRule.{size_products, first_too_large}

pub record Standing (scans : List Scan) : Type 0 where
  -- 0 to 129 knots
  pub count : length scans ≤ knots_max
  -- a position of 0 to 65,535 steps
  pub position : (k : ℕ) → k < length scans → (at scans k).position ≤ position_max
  -- a grade of 0 to 7, of the list on either side (two names for request 8/14)
  pub left_grade : (k : ℕ) → k < length scans → Listed (left_list (at scans k))
  pub right_grade : (k : ℕ) → k < length scans → Listed (right_list (at scans k))
  -- positions rise; a gap is 1 to 16 steps
  pub gap_at_least : (k : ℕ) → suc k < length scans → 1 ≤ gap (at scans k) (at scans (suc k)).position
  pub gap_at_most : (k : ℕ) → suc k < length scans → gap (at scans k) (at scans (suc k)).position ≤ gap_max
  -- the size rule: no product exceeds the limit
  pub size : (k : ℕ) → k < length scans →
      first_too_large (size_products k (before scans k) (at scans k) (after scans k)) ≡ none
