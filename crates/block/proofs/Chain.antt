-- A list that stands, scan by scan: each scan may follow the one before it, and its coefficients fit in their words.
use mathlib.Core.List.{List, [], ◌∷◌}
use mathlib.Core.Option.{Option, none, some}
use mathlib.Core.Path.{◌≡◌}
use Prim.Native.Nat.{ℕ, zero, suc, ◌+◌, ◌≤◌, ◌<◌}
use native.Mathlib.Omega.{arith}
use lib.IntN.{pos}
use lib.ListN.{length, get_or, drop, drop_of_length-le}
use lib.Seq.{drop-cons}
use Rattle.integer.specs.Within.{Within}
use Rattle.rounding.specs.Limits.{position_max, size_max}
use Rattle.rounding.proofs.Bounds.{sized_one, one-within}
use Rattle.rounding.specs.Size.{Sized, Listed}
use Rattle.scans.specs.Scan.{Scan, scan_of, gap, at, before, left_list}
use Rattle.scans.specs.SizeRule.{append_products, first_too_large}
use Rattle.scans.specs.Standing.{Standing}
use Rattle.scans.specs.RefusalTable.{position_causes}
use Rattle.scans.proofs.Causes.{Quiet}
use Rattle.scans.proofs.Lists.{there}
use Rattle.scans.proofs.Standing.{sized_left, placed_at, first_at, size_at}

-- ---- a scan that may follow the last one as knot k, and whose coefficients have 30 bits

pub record Fit (k : ℕ) (last : Option Scan) (s : Scan) : Type 0 where
  pub listed : Listed s.coefficients
  pub position : s.position ≤ position_max
  pub placed : Quiet (position_causes last s.position)
  pub size : first_too_large (append_products k last s) ≡ none
  pub coefficients : (j : ℕ) → j < length s.coefficients → Within size_max (get_or s.coefficients j (pos 0))

-- each scan may follow the one before it, the first of them, knot k, the last one
abbrev pub Chain : ℕ → Option Scan → List Scan → Type 0
Chain k last [] = Unit
Chain k last (s ∷ scans) = Fit k last s × Chain (suc k) (some s) scans

module _ (scans : List Scan) (st : Standing scans) where
  one_at : (k : ℕ) → k < length scans → Sized 1 (at scans k).coefficients
  one_at zero h = first_at scans st h
  one_at (suc k) h = sized_one (gap (at scans k) (at scans (suc k)).position) (left_list (at scans (suc k))) (st.gap_at_least k h) (sized_left scans st k h)

  fit_at : (k : ℕ) → k < length scans → Fit k (before scans k) (at scans k)
  fit_at k h = record {
    listed = st.left_grade k h;
    position = st.position k h;
    placed = placed_at scans st k h;
    size = size_at scans st k h;
    coefficients = one-within (at scans k).coefficients (one_at k h);
  }

  chain-from : (n k : ℕ) → k + n ≡ length scans → Chain k (before scans k) (drop k scans)
  chain-from zero k e = rw (drop_of_length-le scans {i = k} (omega arith)) tt
  chain-from (suc n) k e =
      rw (drop-cons scans k (scan_of 0 []) (omega arith)) (fit_at k (omega arith), rw (there scans k (omega arith)) at (chain-from n (suc k) (omega arith)))

  pub chain : Chain 0 none scans
  chain = chain-from (length scans) 0 (omega arith)
