-- Demand 1, "and no number otherwise": where the list that an append or a sum of two lists would leave can stand, none of its causes holds.
use borrow.Author.Tests.{le-ltb, eq-eqb}
use mathlib.Core.Bool.{true, not}
use mathlib.Core.List.{List, [], ◌∷◌, ◌++◌}
use mathlib.Core.Option.{none, some}
use mathlib.Core.Path.{◌≡◌, refl, ◌∙◌, ap}
use Prim.Native.Nat.{ℕ, zero, suc, ◌+◌, ◌≤◌, ◌<◌}
use native.Mathlib.Omega.{arith}
use lib.IntN.{ℤ, nat_abs}
use lib.ListN.{length, length-append, drop, drop_of_length-le}
use lib.Seq.{drop-cons}
use Rattle.integer.proofs.Tests.{both, pairs-all}
use Rattle.rounding.specs.Limits.{knots_max, multiplier_max}
use Rattle.scans.specs.Scan.{Scan, scan_of, grade, at, before}
use Rattle.scans.specs.SizeRule.{append_products, turn_products, first_too_large, is_found}
use Rattle.scans.specs.RefusalTable.{first}
use Rattle.scans.specs.Standing.{Standing}
use Rattle.scans.specs.Combination.{aligned, all_aligned, combination}
use Rattle.scans.specs.Order.{append_causes, combination_causes}
use Rattle.scans.proofs.Lists.{there}
use Rattle.scans.proofs.SizeRule.{large_later}
use Rattle.scans.proofs.Causes.{silent, list_passes}
use Rattle.scans.proofs.Standing.{placed_at, size_at, at_new, before_old}

-- 2, 3, 4, 5, 6
pub append_passes : (scans : List Scan) (x : ℕ) (C : List ℤ) → Standing (scans ++ scan_of x C ∷ []) →
    first (append_causes (length scans) (before scans (length scans)) x C) ≡ none
append_passes scans x C st =
    let s : Scan = scan_of x C in
    let n : ℕ = length scans in
    let new : n < length (scans ++ s ∷ []) = omega (arith, length-append scans (s ∷ [])) in
    let last : before (scans ++ s ∷ []) n ≡ before scans n = before_old scans s n (omega arith) in
    let own : at (scans ++ s ∷ []) n ≡ s = at_new scans s n refl in
    let placed = rw (last, own) at (placed_at (scans ++ s ∷ []) st n new) in
    let size = rw (last, own) at (size_at (scans ++ s ∷ []) st n new) in
    silent (append_causes n (before scans n) x C) (
      le-ltb knots_max (n + 1) (omega (arith, length-append scans (s ∷ []), st.count)),
      (list_passes C (rw own at (st.left_grade n new)), (placed.0, (placed.1.0, (ap is_found size, tt)))),
    )

-- of a list that stands no knot in turn names a product
module _ (scans : List Scan) (st : Standing scans) where
  turns_from : (n k : ℕ) → k + n ≡ length scans → first_too_large (turn_products k (before scans k) (drop k scans)) ≡ none
  turns_from zero k e = rw (drop_of_length-le scans {i = k} (omega arith)) refl
  turns_from (suc n) k e =
      let later = rw (there scans k (omega arith)) at (turns_from n (suc k) (omega arith)) in
      rw (drop-cons scans k (scan_of 0 []) (omega arith))
      (large_later (append_products k (before scans k) (at scans k)) (turn_products (suc k) (some (at scans k)) (drop (suc k) scans))
      (size_at scans st k (omega arith)) ∙ later)

-- 14, 13, 6
module _ (α β : ℤ) (A B : List Scan) (counts : length A ≡ length B) where
  same-aligned : ((k : ℕ) → k < length A → (at A k).position ≡ (at B k).position) → ((k : ℕ) → k < length A → grade (at A k) ≡ grade (at B k)) →
      all_aligned A B ≡ true
  same-aligned positions grades = pairs-all aligned (scan_of 0 []) A B counts (λ k h. both (eq-eqb _ _ (positions k h)) (eq-eqb _ _ (grades k h)))

  pub sum_passes : nat_abs α ≤ multiplier_max → nat_abs β ≤ multiplier_max → ((k : ℕ) → k < length A → (at A k).position ≡ (at B k).position) →
      ((k : ℕ) → k < length A → grade (at A k) ≡ grade (at B k)) → Standing (combination α β A B) → first (combination_causes α β A B) ≡ none
  sum_passes a b positions grades st =
      silent (combination_causes α β A B) (
        le-ltb multiplier_max (nat_abs α) a,
        (
          le-ltb multiplier_max (nat_abs β) b,
          (
            ap not (same-aligned positions grades),
            (ap is_found (turns_from (combination α β A B) st (length (combination α β A B)) 0 (omega arith)), tt),
          ),
        ),
      )
