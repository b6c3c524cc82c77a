-- The first cause of a call, as far as its causes were looked at one after the other; and what holds where none does.
use borrow.Author.Tests.{not-false, ltb-false, leb-false, lt-ltb, le-ltb, le-leb, lt-leb}
use mathlib.Core.Bool.{true, false}
use mathlib.Core.List.{List, [], ◌∷◌, ◌++◌}
use mathlib.Core.Option.{Option, none, some}
use mathlib.Core.Path.{◌≡◌, refl, ◌∙◌}
use Prim.Native.Nat.{ℕ, ◌+◌, ◌-◌, ◌≤◌, ◌<◌}
use native.Mathlib.Omega.{arith}
use lib.Dec.{ltb, leb}
use lib.IntN.{ℤ}
use lib.ListN.{length, drop}
use Rattle.rounding.specs.Limits.{knots_max}
use Rattle.scans.specs.Scan.{Scan, scan_of}
use Rattle.scans.specs.SizeRule.{size_products, turn_products, first_too_large}
use Rattle.scans.specs.RefusalTable.{Cause, first, list_causes, position_causes, size_causes, bad_size, bad_multiplier}
use Rattle.scans.specs.Combination.{all_aligned, combination}
use Rattle.scans.specs.Order.{append_causes, correct_causes, query_causes, range_causes, combination_causes}
use Rattle.scans.specs.Pieces.{mark, InReel}
use Rattle.scans.specs.Queries.{InRange}
use Rattle.scans.proofs.SizeRule.{not_found}
use Rattle.scans.proofs.Causes.{first_found, first-later, quiet, neither}

module _ (count : ℕ) (last : Option Scan) (x : ℕ) (C : List ℤ) where
  pub full : knots_max ≤ count → first (append_causes count last x C) ≡ some 2
  full h = rw (lt-ltb knots_max (count + 1) (omega arith)) refl

  -- no 2: the list, and what is asked after it
  not_full : count < knots_max →
      first (append_causes count last x C) ≡ first (list_causes (length C) ++ (position_causes last x ++ size_causes count last (scan_of x C)))
  not_full h = rw (le-ltb knots_max (count + 1) (omega arith)) refl

  pub append-list : {n : ℕ} → count < knots_max → first (list_causes (length C)) ≡ some n → first (append_causes count last x C) ≡ some n
  append-list h e = not_full h ∙ first_found (list_causes (length C)) (position_causes last x ++ size_causes count last (scan_of x C)) e

  append-rest : count < knots_max → first (list_causes (length C)) ≡ none →
      first (append_causes count last x C) ≡ first (position_causes last x ++ size_causes count last (scan_of x C))
  append-rest h e = not_full h ∙ first-later (list_causes (length C)) (position_causes last x ++ size_causes count last (scan_of x C)) e

  pub append-position : {n : ℕ} → count < knots_max → first (list_causes (length C)) ≡ none →
      first (position_causes last x) ≡ some n → first (append_causes count last x C) ≡ some n
  append-position h e p = append-rest h e ∙ first_found (position_causes last x) (size_causes count last (scan_of x C)) p

  pub append-size : count < knots_max → first (list_causes (length C)) ≡ none →
      first (position_causes last x) ≡ none → first (append_causes count last x C) ≡ first (size_causes count last (scan_of x C))
  append-size h e p = append-rest h e ∙ first-later (position_causes last x) (size_causes count last (scan_of x C)) p

module _ (k count : ℕ) (left : Option Scan) (x : ℕ) (right : Option Scan) (C : List ℤ) where
  pub no_knot_lem : count ≤ k → first (correct_causes k count left x right C) ≡ some 9
  no_knot_lem h = rw (le-leb count k h) refl

  -- no 9: the list, and what is asked after it
  a_knot : k < count →
      first (correct_causes k count left x right C) ≡ first (list_causes (length C) ++ bad_size (first_too_large (size_products k left (scan_of x C) right)) ∷ [])
  a_knot h = rw (lt-leb count k h) refl

  pub correct-list : {n : ℕ} → k < count → first (list_causes (length C)) ≡ some n → first (correct_causes k count left x right C) ≡ some n
  correct-list h e = a_knot h ∙ first_found (list_causes (length C)) (bad_size (first_too_large (size_products k left (scan_of x C) right)) ∷ []) e

  pub correct-size : k < count → first (list_causes (length C)) ≡ none →
      first (correct_causes k count left x right C) ≡ first (bad_size (first_too_large (size_products k left (scan_of x C) right)) ∷ [])
  correct-size h e = a_knot h ∙ first-later (list_causes (length C)) (bad_size (first_too_large (size_products k left (scan_of x C) right)) ∷ []) e

-- 8 below two knots, whatever the position, and whatever the range
pub few-query : (count from to x : ℕ) → count < 2 → first (query_causes count from to x) ≡ some 8
few-query count from to x h = rw (lt-ltb count 2 h) refl

pub few_range : (count i j : ℕ) → count < 2 → first (range_causes count i j) ≡ some 8
few_range count i j h = rw (lt-ltb count 2 h) refl

-- what holds where no cause of a query does, and that none does where it holds
pub in_reel : (scans : List Scan) (x : ℕ) → first (query_causes (length scans) (mark scans 0) (mark scans (length scans - 1)) x) ≡ none → InReel scans x
in_reel scans x e =
    let q = quiet (query_causes (length scans) (mark scans 0) (mark scans (length scans - 1)) x) e in
    let p = neither (ltb x (mark scans 0)) (ltb (mark scans (length scans - 1)) x) q.1.0 in
    record {
      two = ltb-false (length scans) 2 q.0;
      first = ltb-false x (mark scans 0) p.0;
      last = ltb-false (mark scans (length scans - 1)) x p.1;
    }

pub query_free : (scans : List Scan) (x : ℕ) → InReel scans x →
    first (query_causes (length scans) (mark scans 0) (mark scans (length scans - 1)) x) ≡ none
query_free scans x i =
    rw (le-ltb (length scans) 2 i.two, le-ltb x (mark scans 0) i.first, le-ltb (mark scans (length scans - 1)) x i.last) refl

pub in_range : (n i j : ℕ) → first (range_causes n i j) ≡ none → InRange n i j
in_range n i j e =
    let p = neither (ltb j i) (leb n j) (quiet (range_causes n i j) e).1.0 in
    record { order = ltb-false j i p.0; last = leb-false n j p.1 }

pub range_free : (n i j : ℕ) → 2 ≤ n → InRange n i j → first (range_causes n i j) ≡ none
range_free n i j two r = rw (le-ltb n 2 two, le-ltb j i r.order, lt-leb n j r.last) refl

-- request 4/14: 14, then 13, then 6
module _ (α β : ℤ) (A B : List Scan) where
  abbrev multipliers : List Cause
  multipliers = bad_multiplier α ∷ bad_multiplier β ∷ []

  -- those after them
  abbrev others : List Cause
  others = drop 2 (combination_causes α β A B)

  abbrev sizes : List Cause
  sizes = bad_size (first_too_large (turn_products 0 none (combination α β A B))) ∷ []

  pub sum-multiplier : {n : ℕ} → first multipliers ≡ some n → first (combination_causes α β A B) ≡ some n
  sum-multiplier e = first_found multipliers others e

  pub sum_unlike : first multipliers ≡ none → all_aligned A B ≡ false → first (combination_causes α β A B) ≡ some 13
  sum_unlike e unlike = first-later multipliers others e ∙ rw unlike refl

  pub sum-size : first multipliers ≡ none → all_aligned A B ≡ true → first (combination_causes α β A B) ≡ first sizes
  sum-size e alike = first-later multipliers others e ∙ rw alike refl

  -- what holds where none of them does
  pub sum_free : first (combination_causes α β A B) ≡ none → (all_aligned A B ≡ true) × (first_too_large (turn_products 0 none (combination α β A B)) ≡ none)
  sum_free e =
      let q = quiet (combination_causes α β A B) e in
      (not-false (all_aligned A B) q.1.1.0, not_found (first_too_large (turn_products 0 none (combination α β A B))) q.1.1.1.0)
