-- Request 6/14: each product of a sequence is |C_j| × h^j of the knot, the order and the gap that its spot has, in the list as it would be.
use mathlib.Core.List.{List, [], ◌∷◌, ◌++◌}
use mathlib.Core.Option.{none, some}
use mathlib.Core.Path.{◌≡◌, refl, sym, subst}
use Prim.Native.Nat.{ℕ, zero, suc, ◌+◌, ◌-◌, ◌<◌}
use native.Mathlib.Decide.{dec_lt}
use native.Mathlib.Omega.{arith}
use lib.ListN.{length, drop, drop_of_length-le, length-append}
use lib.Seq.{drop-cons}
use Rattle.rounding.specs.Size.{product}
use Rattle.scans.specs.Scan.{Scan, scan_of, gap, at, before, after}
use Rattle.scans.specs.SizeRule.{Spot, Product, product_at, orders_from, products, size_products, append_products, turn_products}
use Rattle.scans.specs.Reason.{First, GapBeside, on_left, on_right, alone, Breaks}
use Rattle.scans.proofs.Lists.{there, past}
use Rattle.scans.proofs.Standing.{at_new, before_old}

module _ (scans : List Scan) where
  pub record Tied (p : Product) : Type 0 where
    pub knot : p.spot.knot < length scans
    pub order : p.spot.order < length (at scans p.spot.knot).coefficients
    pub gap : GapBeside scans p.spot.knot p.spot.gap
    pub size : p.size ≡ product p.spot.gap (at scans p.spot.knot).coefficients p.spot.order

  abbrev pub AllTied : List Product → Type 0
  AllTied [] = Unit
  AllTied (p ∷ ps) = Tied p × AllTied ps

  both_tied : (a b : List Product) → AllTied a → AllTied b → AllTied (a ++ b)
  both_tied [] b p q = q
  both_tied (x ∷ a) b p q = (p.0, both_tied a b p.1 q)

  later_tied : (a b : List Product) → AllTied (a ++ b) → AllTied b
  later_tied [] b q = q
  later_tied (x ∷ a) b q = later_tied a b q.1

  -- so the product that is named breaks the size rule
  pub named-breaks : (tested : List Product) (spot : Spot) → AllTied tested → First tested spot → Breaks scans spot
  named-breaks tested spot tied f =
      let t : Tied f.named = (later_tied f.earlier (f.named ∷ f.later) (subst AllTied f.sequence tied)).0 in
      subst (Breaks scans) f.spot_is (record { knot = t.knot; order = t.order; gap = t.gap; over = rw (sym t.size) f.over })

  -- ---- knot k, with a gap beside it

  module _ (k : ℕ) (in_list : k < length scans) where
    orders_tied : (h i c : ℕ) → GapBeside scans k h → i + c ≡ length (at scans k).coefficients →
        AllTied (orders_from (product_at k h (at scans k).coefficients) i c)
    orders_tied h i zero g e = tt
    orders_tied h i (suc c) g e =
        (record { knot = in_list; order = omega arith; gap = g; size = refl }, orders_tied h (suc i) c g (omega arith))

    products_tied : (h : ℕ) → GapBeside scans k h → AllTied (products k h (at scans k).coefficients)
    unfolding products
    products_tied h g = orders_tied h 0 (length (at scans k).coefficients) g (omega arith)

  -- ---- the two ends of the gap between knots j and j + 1

  abbrev gap_of : ℕ → ℕ
  gap_of j = gap (at scans j) (at scans (suc j)).position

  abbrev right_of : ℕ → List Product
  right_of j = products j (gap_of j) (at scans j).coefficients

  abbrev left_of : ℕ → List Product
  left_of j = products (suc j) (gap_of j) (at scans (suc j)).coefficients

  right_tied : (j : ℕ) → suc j < length scans → AllTied (right_of j)
  right_tied j h = products_tied j (omega arith) (gap_of j) (on_right h refl)

  left_tied : (j : ℕ) → suc j < length scans → AllTied (left_of j)
  left_tied j h = products_tied (suc j) h (gap_of j) (on_left j refl refl)

  -- ---- the sequences, in a list

  -- the products of knot k with its gaps
  pub size_tied : (k : ℕ) → k < length scans → AllTied (size_products k (before scans k) (at scans k) (after scans k))
  size_tied zero h = go (dec_lt 1 (length scans))
    where
      go : Dec (1 < length scans) → AllTied (size_products 0 none (at scans 0) (after scans 0))
      go (yes d) = rw (there scans 1 d) (right_tied 0 d)
      go (no d) = rw (past scans 1 (omega arith)) (products_tied 0 h 1 (alone refl refl))
  size_tied (suc j) h = rw (there scans j (omega arith)) (go (dec_lt (suc (suc j)) (length scans)))
    where
      go : Dec (suc (suc j) < length scans) → AllTied (size_products (suc j) (some (at scans j)) (at scans (suc j)) (after scans (suc j)))
      go (yes d) = rw (there scans (suc (suc j)) d) (both_tied (left_of j) (right_of (suc j)) (left_tied j h) (right_tied (suc j) d))
      go (no d) = rw (past scans (suc (suc j)) (omega arith)) (left_tied j h)

  -- those of an append of knot k
  append_tied : (k : ℕ) → k < length scans → AllTied (append_products k (before scans k) (at scans k))
  append_tied zero h = products_tied 0 h 1 (alone refl refl)
  append_tied (suc j) h =
      let held : suc j - 1 ≡ j = omega arith in
      rw (there scans j (omega arith), held) (both_tied (right_of j) (left_of j) (right_tied j h) (left_tied j h))

  turn_tied : (n k : ℕ) → k + n ≡ length scans → AllTied (turn_products k (before scans k) (drop k scans))
  turn_tied zero k e = rw (drop_of_length-le scans {i = k} (omega arith)) tt
  turn_tied (suc n) k e =
      rw (drop-cons scans k (scan_of 0 []) (omega arith))
      (both_tied (append_products k (before scans k) (at scans k)) (turn_products (suc k) (some (at scans k)) (drop (suc k) scans))
      (append_tied k (omega arith)) (rw (there scans k (omega arith)) at (turn_tied n (suc k) (omega arith))))

  -- and of each knot in turn
  pub turns_tied : AllTied (turn_products 0 none scans)
  turns_tied = turn_tied (length scans) 0 (omega arith)

-- a scan that is appended
pub appended_tied : (scans : List Scan) (s : Scan) → AllTied (scans ++ s ∷ []) (append_products (length scans) (before scans (length scans)) s)
appended_tied scans s =
    rw (before_old scans s (length scans) (omega arith), at_new scans s (length scans) refl) at
    (append_tied (scans ++ s ∷ []) (length scans) (omega (arith, length-append scans (s ∷ []))))
