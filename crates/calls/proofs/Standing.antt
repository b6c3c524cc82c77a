-- Every call leaves a list that stands, of one that stands (`Standing` of scans/specs/Standing.antt).
use borrow.Author.Tests.{ltb-false, leb-false}
use mathlib.Core.List.{List, [], ◌∷◌}
use mathlib.Core.Option.{Option, none, some}
use mathlib.Core.Path.{◌≡◌, refl, sym, ◌∙◌, ap, ap₂}
use Prim.Native.Nat.{ℕ, zero, suc, ◌+◌, ◌≤◌, ◌<◌}
use native.Mathlib.Decide.{ℕ_discrete}
use native.Mathlib.Omega.{arith}
use lib.ListN.{length, get_elem?, set, length-set}
use lib.Seq.{get_or-set_same, get_or-set_other}
use Rattle.rounding.specs.Limits.{knots_max, position_max, gap_max}
use Rattle.rounding.specs.Size.{Listed}
use Rattle.scans.specs.Scan.{Scan, scan_of, gap, at, before, after, left_list, right_list}
use Rattle.scans.specs.SizeRule.{size_products, append_products, first_too_large}
use Rattle.scans.specs.RefusalTable.{first}
use Rattle.scans.specs.Standing.{Standing}
use Rattle.scans.proofs.Causes.{quiet, listed, placed}
use Rattle.scans.proofs.SizeRule.{not_found}
use Rattle.scans.proofs.Standing.{standing_none, appended_standing}
use Rattle.block.proofs.Written.{read-standing}
use Rattle.calls.specs.Calls.{Call, clear, append, correct, read, write, value, trend, total, corrected, causes, changed, kept, standing_after}

-- ---- of the neighbours the size rule looks at the positions alone

abbrev place : Option Scan → Option Scan
place none = none
place (some s) = some (scan_of s.position [])

products_places : (k : ℕ) (l : Option Scan) (s : Scan) (r : Option Scan) → size_products k l s r ≡ size_products k (place l) s (place r)
products_places k none s none = refl
products_places k (some l) s none = refl
products_places k none s (some r) = refl
products_places k (some l) s (some r) = refl

-- ---- correct: every position stays

got_place : (l : List Scan) (k : ℕ) (t : Scan) → t.position ≡ (at l k).position → (j : ℕ) → place (get_elem? (set l k t) j) ≡ place (get_elem? l j)
got_place [] k t e j = refl
got_place (x ∷ l) zero t e zero = ap (λ y. some (scan_of y [])) e
got_place (x ∷ l) zero t e (suc j) = refl
got_place (x ∷ l) (suc k) t e zero = refl
got_place (x ∷ l) (suc k) t e (suc j) = got_place l k t e j

module _ (scans : List Scan) (k : ℕ) (s : Scan) (same : s.position ≡ (at scans k).position) (b : k < length scans) where
  pub at_set : at (set scans k s) k ≡ s
  at_set = get_or-set_same scans k s (scan_of 0 []) b

  at_other : (j : ℕ) → (j ≡ k → ⊥) → at (set scans k s) j ≡ at scans j
  at_other j d = get_or-set_other scans k j s (scan_of 0 []) d

  -- what holds of the old scans and of scan s holds of all
  old_or_set : (P : Scan → Type 0) → ((j : ℕ) → j < length scans → P (at scans j)) → P s →
      (j : ℕ) → j < length (set scans k s) → P (at (set scans k s) j)
  old_or_set P old new j h = go (ℕ_discrete j k)
    where
      go : Dec (j ≡ k) → P (at (set scans k s) j)
      go (yes e) = rw (e, at_set) new
      go (no d) = rw (at_other j d) (old j (omega (arith, length-set scans k s)))

  position_stays : (j : ℕ) → (at (set scans k s) j).position ≡ (at scans j).position
  position_stays j = go (ℕ_discrete j k)
    where
      go : Dec (j ≡ k) → (at (set scans k s) j).position ≡ (at scans j).position
      go (yes e) = rw (e, at_set) same
      go (no d) = rw (at_other j d)

  gap_stays : (P : ℕ → Type 0) → ((j : ℕ) → suc j < length scans → P (gap (at scans j) (at scans (suc j)).position)) →
      (j : ℕ) → suc j < length (set scans k s) → P (gap (at (set scans k s) j) (at (set scans k s) (suc j)).position)
  gap_stays P old j h = rw (position_stays j, position_stays (suc j)) (old j (omega (arith, length-set scans k s)))

  place-before : (j : ℕ) → place (before (set scans k s) j) ≡ place (before scans j)
  place-before zero = refl
  place-before (suc j) = got_place scans k s same j

  pub products_stay : (j : ℕ) (t : Scan) →
      size_products j (before (set scans k s) j) t (after (set scans k s) j) ≡ size_products j (before scans j) t (after scans j)
  products_stay j t =
      products_places j (before (set scans k s) j) t (after (set scans k s) j) ∙
      ap₂ (λ l r. size_products j l t r) (place-before j) (got_place scans k s same (suc j)) ∙ sym (products_places j (before scans j) t (after scans j))

  size_set : Standing scans → first_too_large (size_products k (before scans k) s (after scans k)) ≡ none → (j : ℕ) → j < length (set scans k s) →
      first_too_large (size_products j (before (set scans k s) j) (at (set scans k s) j) (after (set scans k s) j)) ≡ none
  size_set st z j h = go (ℕ_discrete j k)
    where
      go : Dec (j ≡ k) → first_too_large (size_products j (before (set scans k s) j) (at (set scans k s) j) (after (set scans k s) j)) ≡ none
      go (yes e) = rw (e, at_set) (ap first_too_large (products_stay k s) ∙ z)
      go (no d) = rw (at_other j d) (ap first_too_large (products_stay j (at scans j)) ∙ st.size j (omega (arith, length-set scans k s)))

  corrected-standing : Standing scans → Listed s.coefficients →
      first_too_large (size_products k (before scans k) s (after scans k)) ≡ none → Standing (set scans k s)
  corrected-standing st c z = record {
    count = rw (length-set scans k s) st.count;
    position = old_or_set (λ t. t.position ≤ position_max) st.position (rw same (st.position k b));
    left_grade = old_or_set (λ t. Listed (left_list t)) st.left_grade c;
    right_grade = old_or_set (λ t. Listed (right_list t)) st.right_grade c;
    gap_at_least = gap_stays (λ g. 1 ≤ g) st.gap_at_least;
    gap_at_most = gap_stays (λ g. g ≤ gap_max) st.gap_at_most;
    size = size_set st z;
  }

-- ---- every call

pub changed-standing : (call : Call) (scans : List Scan) → Standing scans → first (causes call scans) ≡ none → Standing (changed call scans)
changed-standing clear scans st e = standing_none
changed-standing (append x C) scans st e =
    let q = quiet (causes (append x C) scans) e in
    let last = before scans (length scans) in
    appended_standing scans (scan_of x C) st (ltb-false knots_max (length scans + 1) q.0) (listed C q.1.0)
    (placed last x q.1.1.0 q.1.1.1.0) (not_found (first_too_large (append_products (length scans) last (scan_of x C))) q.1.1.1.1.0)
changed-standing (correct k C) scans st e =
    let q = quiet (causes (correct k C) scans) e in
    let s = corrected scans k C in
    corrected-standing scans k s refl (leb-false (length scans) k q.0) st (listed C q.1.0)
    (not_found (first_too_large (size_products k (before scans k) s (after scans k))) q.1.1.0)
changed-standing (read bytes) scans st e = read-standing bytes e
changed-standing (write out) scans st e = st
changed-standing (value x) scans st e = st
changed-standing (trend x) scans st e = st
changed-standing (total i j) scans st e = st

-- if a cause holds, the list stays as it was
kept-standing : (o : Option ℕ) (scans new : List Scan) → Standing scans → (o ≡ none → Standing new) → Standing (kept o scans new)
kept-standing none scans new st accepted = accepted refl
kept-standing (some n) scans new st accepted = st

pub standing-after : (call : Call) (scans : List Scan) → Standing scans → Standing (standing_after call scans)
unfolding standing_after
standing-after call scans st = kept-standing (first (causes call scans)) scans (changed call scans) st (changed-standing call scans st)
