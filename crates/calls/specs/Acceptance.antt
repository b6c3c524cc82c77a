-- Demand 1, "and no number otherwise": a call that changes the list, or a sum, is refused with no number where it has
-- what its causes ask for, and would leave a list that can stand.
use Rattle.std.specs.Prelude.{List, ◌↔◌, ◌≡◌, ℕ, ◌≤◌, ◌<◌, ℤ, nat_abs, length}
use Rattle.rounding.specs.Limits.{multiplier_max}
use Rattle.scans.specs.Scan.{Scan, grade, at}
use Rattle.scans.specs.Standing.{Standing}
use Rattle.scans.specs.Combination.{combination}
use Rattle.calls.specs.Calls.{accepted, clear, append, correct, changed, reply_to}
use Rattle.calls.specs.Combination.{sum_reply}

-- request 4/14, what a sum needs: multipliers of −16 to 16, "two reels that have the same positions and grades", and a
-- sum that can stand
pub record SumNeeds (α β : ℤ) (A B : List Scan) : Type 0 where
  pub alpha : nat_abs α ≤ multiplier_max
  pub beta : nat_abs β ≤ multiplier_max
  pub counts : length A ≡ length B
  pub positions : (k : ℕ) → k < length A → (at A k).position ≡ (at B k).position
  pub grades : (k : ℕ) → k < length A → grade (at A k) ≡ grade (at B k)
  pub stands : Standing (combination α β A B)

-- of scans that stand
pub record AcceptanceLaws : Type 0 where
  -- no row of the table refuses a clear
  pub clears : (scans : List Scan) → reply_to clear scans ≡ accepted
  -- an append is accepted exactly when the list that it would leave can stand: neither 2, 3, 4, 5 nor 6
  pub appends : (x : ℕ) (C : List ℤ) (scans : List Scan) → Standing scans →
      reply_to (append x C) scans ≡ accepted ↔ Standing (changed (append x C) scans)
  -- a correct, when there is a knot k besides: neither 9, 3 nor 6
  pub corrects : (k : ℕ) (C : List ℤ) (scans : List Scan) → Standing scans →
      reply_to (correct k C) scans ≡ accepted ↔ (k < length scans) × Standing (changed (correct k C) scans)
  -- a sum, when it has what it needs: neither 14, 13 nor 6
  pub sums : (α β : ℤ) (A B : List Scan) → Standing A → Standing B →
      sum_reply α β A B ≡ accepted ↔ SumNeeds α β A B
