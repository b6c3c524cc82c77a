-- The empty list stands, and so does one that stands with a scan more that may follow (`Standing` of specs/Standing.antt); and of a
-- list that stands the size rule at both ends of each gap, and that each scan may follow the one before it.
use borrow.Author.Tests.{le-ltb, lt-leb}
use mathlib.Core.List.{List, [], ◌∷◌, ◌++◌}
use mathlib.Core.Option.{Option, none, some}
use mathlib.Core.Path.{◌≡◌, refl}
use Prim.Native.Nat.{ℕ, zero, suc, ◌+◌, ◌≤◌, ◌<◌}
use native.Mathlib.Decide.{dec_lt}
use native.Mathlib.Omega.{arith}
use lib.ListN.{length, length-append, get_or-append}
use lib.Seq.{get_or-append_seam}
use Rattle.rounding.specs.Limits.{knots_max, position_max, gap_max}
use Rattle.rounding.specs.Size.{Sized, Listed}
use Rattle.rounding.proofs.Bounds.{sized_one}
use Rattle.scans.specs.Scan.{Scan, scan_of, gap, at, before, after, left_list, right_list}
use Rattle.scans.specs.SizeRule.{Spot, size_products, append_products, first_too_large}
use Rattle.scans.specs.Standing.{Standing}
use Rattle.scans.specs.RefusalTable.{position_causes}
use Rattle.scans.proofs.Causes.{Quiet, Placed}
use Rattle.scans.proofs.SizeRule.{sized_kept, kept_sized, joined, follows-held, follows-new, follows, size-right, size-left}
use Rattle.scans.proofs.Lists.{there, past, last_at, got_old}

pub standing_none : Standing []
standing_none = record {
  count = omega arith;
  position = λ k h. absurd (omega arith);
  left_grade = λ k h. absurd (omega arith);
  right_grade = λ k h. absurd (omega arith);
  gap_at_least = λ k h. absurd (omega arith);
  gap_at_most = λ k h. absurd (omega arith);
  size = λ k h. absurd (omega arith);
}

-- the size rule of each scan, where each follows those before it
pub size-follows : (scans : List Scan) →
    ((k : ℕ) → k < length scans → first_too_large (append_products k (before scans k) (at scans k)) ≡ none) → (k : ℕ) → k < length scans →
    first_too_large (size_products k (before scans k) (at scans k) (after scans k)) ≡ none
size-follows scans each k h = go (dec_lt (suc k) (length scans)) (follows-new k (before scans k) (at scans k) (each k h))
  where
    go : Dec (suc k < length scans) → first_too_large (size_products k (before scans k) (at scans k) none) ≡ none →
        first_too_large (size_products k (before scans k) (at scans k) (after scans k)) ≡ none
    go (yes d) new =
        rw (there scans (suc k) d)
        (joined k (before scans k) (at scans k) (at scans (suc k)) new
        (follows-held (suc k) (at scans k) (at scans (suc k)) (rw (there scans k h) at (each (suc k) d))))
    go (no d) new = rw (past scans (suc k) (omega arith)) new

-- ---- the size rule with the gap on one side of a scan, of scans that stand

module _ (scans : List Scan) (st : Standing scans) (k : ℕ) (h : suc k < length scans) where
  pub sized_right : Sized (gap (at scans k) (at scans (suc k)).position) (right_list (at scans k))
  sized_right = size-right k (before scans k) (at scans k) (at scans (suc k)) (rw (there scans (suc k) h) at (st.size k (omega arith)))

  pub sized_left : Sized (gap (at scans k) (at scans (suc k)).position) (left_list (at scans (suc k)))
  sized_left = size-left (suc k) (at scans k) (at scans (suc k)) (after scans (suc k)) (rw (there scans k (omega arith)) at (st.size (suc k) h))

-- ---- each scan of scans that stand may follow the one before it

placed-after : (held : Scan) (x : ℕ) → x ≤ position_max → 1 ≤ gap held x → gap held x ≤ gap_max → Quiet (position_causes (some held) x)
placed-after held x p a b = (rw (le-ltb position_max x p, lt-leb x held.position (omega arith)), (le-ltb gap_max (gap held x) b, tt))

module _ (scans : List Scan) (st : Standing scans) where
  pub placed_at : (k : ℕ) → k < length scans → Quiet (position_causes (before scans k) (at scans k).position)
  placed_at zero h = (rw (le-ltb position_max (at scans 0).position (st.position 0 h)), (refl, tt))
  placed_at (suc k) h =
      rw (there scans k (omega arith)) (placed-after (at scans k) (at scans (suc k)).position (st.position (suc k) h) (st.gap_at_least k h)
      (st.gap_at_most k h))

  -- its first scan has no gap before it
  pub first_at : 0 < length scans → Sized 1 (left_list (at scans 0))
  first_at h = go (dec_lt 1 (length scans))
    where
      go : Dec (1 < length scans) → Sized 1 (left_list (at scans 0))
      go (yes d) = sized_one (gap (at scans 0) (at scans 1).position) (right_list (at scans 0)) (st.gap_at_least 0 d) (sized_right scans st 0 d)
      go (no d) = kept_sized 0 1 (left_list (at scans 0)) (rw (past scans 1 (omega arith)) at (st.size 0 h))

  pub size_at : (k : ℕ) → k < length scans → first_too_large (append_products k (before scans k) (at scans k)) ≡ none
  size_at zero h = sized_kept 0 1 (left_list (at scans 0)) (first_at h)
  size_at (suc k) h =
      rw (there scans k (omega arith))
      (follows (suc k) (at scans k) (at scans (suc k)) (sized_right scans st k h) (sized_left scans st k h))

-- ---- append: the old scans, then the new one

module _ (scans : List Scan) (s : Scan) where
  at_old : (j : ℕ) → j < length scans → at (scans ++ s ∷ []) j ≡ at scans j
  at_old j h = get_or-append scans (s ∷ []) (scan_of 0 []) j h

  pub at_new : (j : ℕ) → j ≡ length scans → at (scans ++ s ∷ []) j ≡ s
  at_new j e = rw e (get_or-append_seam scans s [] (scan_of 0 []))

  pub before_old : (j : ℕ) → j ≤ length scans → before (scans ++ s ∷ []) j ≡ before scans j
  before_old zero h = refl
  before_old (suc j) h = got_old scans (s ∷ []) j (omega arith)

  -- what holds of the old scans and of the new one holds of all; and the same of the gaps
  old_or_new : (P : Scan → Type 0) → ((j : ℕ) → j < length scans → P (at scans j)) → P s →
      (j : ℕ) → j < length (scans ++ s ∷ []) → P (at (scans ++ s ∷ []) j)
  old_or_new P old new j h = go (dec_lt j (length scans))
    where
      go : Dec (j < length scans) → P (at (scans ++ s ∷ []) j)
      go (yes b) = rw (at_old j b) (old j b)
      go (no b) = rw (at_new j (omega (arith, length-append scans (s ∷ [])))) new

  gap_old_or_new : (P : ℕ → Type 0) → ((j : ℕ) → suc j < length scans → P (gap (at scans j) (at scans (suc j)).position)) →
      ((j : ℕ) → suc j ≡ length scans → P (gap (at scans j) s.position)) → (j : ℕ) → suc j < length (scans ++ s ∷ []) →
      P (gap (at (scans ++ s ∷ []) j) (at (scans ++ s ∷ []) (suc j)).position)
  gap_old_or_new P old new j h = go (dec_lt (suc j) (length scans)) (length-append scans (s ∷ []))
    where
      go : Dec (suc j < length scans) → length (scans ++ s ∷ []) ≡ length scans + 1 →
          P (gap (at (scans ++ s ∷ []) j) (at (scans ++ s ∷ []) (suc j)).position)
      go (yes b) n = rw (at_old j (omega arith), at_old (suc j) b) (old j b)
      go (no b) n = rw (at_old j (omega arith), at_new (suc j) (omega arith)) (new j (omega arith))

  abbrev sizes_at : ℕ → Option Spot
  sizes_at j = first_too_large (size_products j (before (scans ++ s ∷ []) j) (at (scans ++ s ∷ []) j) (after (scans ++ s ∷ []) j))

  size_appended : Standing scans → first_too_large (append_products (length scans) (before scans (length scans)) s) ≡ none →
      (j : ℕ) → j < length (scans ++ s ∷ []) → sizes_at j ≡ none
  size_appended st f j h = go (dec_lt j (length scans)) (dec_lt (suc j) (length scans)) (length-append scans (s ∷ []))
    where
      go : Dec (j < length scans) → Dec (suc j < length scans) → length (scans ++ s ∷ []) ≡ length scans + 1 → sizes_at j ≡ none
      go c (yes d) n = rw (before_old j (omega arith), at_old j (omega arith), got_old scans (s ∷ []) (suc j) d) (st.size j (omega arith))
      go (yes c) (no d) n =
          let old : first_too_large (size_products j (before scans j) (at scans j) none) ≡ none = rw (past scans (suc j) (omega arith)) at (st.size j c) in
          let held : first_too_large (append_products (length scans) (some (at scans j)) s) ≡ none = rw (last_at scans j (omega arith)) at f in
          rw (before_old j (omega arith), at_old j c, there (scans ++ s ∷ []) (suc j) (omega arith), at_new (suc j) (omega arith))
          (joined j (before scans j) (at scans j) s old (follows-held (length scans) (at scans j) s held))
      go (no c) (no d) n =
          let e : j ≡ length scans = omega arith in
          rw (before_old j (omega arith), at_new j e, past (scans ++ s ∷ []) (suc j) (omega arith), e)
          (follows-new (length scans) (before scans (length scans)) s f)

pub appended_standing : (scans : List Scan) (s : Scan) → Standing scans → length scans + 1 ≤ knots_max →
    Listed s.coefficients → Placed (before scans (length scans)) s.position →
    first_too_large (append_products (length scans) (before scans (length scans)) s) ≡ none → Standing (scans ++ s ∷ [])
appended_standing scans s st n c b f = record {
  count = rw (length-append scans (s ∷ [])) n;
  position = old_or_new scans s (λ t. t.position ≤ position_max) st.position b.position;
  left_grade = old_or_new scans s (λ t. Listed (left_list t)) st.left_grade c;
  right_grade = old_or_new scans s (λ t. Listed (right_list t)) st.right_grade c;
  gap_at_least = gap_old_or_new scans s (λ g. 1 ≤ g) st.gap_at_least (λ j e. omega (arith, b.above (at scans j) (last_at scans j e)));
  gap_at_most = gap_old_or_new scans s (λ g. g ≤ gap_max) st.gap_at_most (λ j e. b.near (at scans j) (last_at scans j e));
  size = size_appended scans s st f;
}
