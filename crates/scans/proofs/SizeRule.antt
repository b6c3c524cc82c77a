-- The first product that is too large: of one list, of two sequences one after the other, and of a knot as far as its neighbours are known.
use borrow.Author.Tests.{lt-ltb, le-ltb, ltb-false}
use mathlib.Core.Bool.{Bool, true, false, cond, true≢false}
use mathlib.Core.List.{List, [], ◌∷◌, ◌++◌}
use mathlib.Core.Option.{Option, none, some}
use mathlib.Core.Path.{◌≡◌, refl, sym, ◌∙◌, ap}
use Prim.Native.Nat.{ℕ, zero, suc, ◌+◌, ◌-◌, ◌≤◌, ◌<◌}
use native.Mathlib.Decide.{ℕ_discrete}
use native.Mathlib.Omega.{arith}
use lib.Dec.{ltb}
use lib.IntN.{ℤ}
use lib.ListN.{length}
use Rattle.integer.proofs.Tests.{none_left, none_right, none_passes, no_first, first_of_found, first_of_later}
use Rattle.rounding.specs.Limits.{size_max}
use Rattle.rounding.specs.Size.{product, Sized}
use Rattle.scans.specs.Scan.{Scan, left_list, right_list, gap}
use Rattle.scans.specs.SizeRule.{Spot, Product, product_at, orders_from, products, size_products, append_products, exceeds, first_too_large}
use Rattle.scans.specs.SizeRule.{is_found}

-- ---- two sequences one after the other

pub large_found : {s : Spot} (a b : List Product) → first_too_large a ≡ some s → first_too_large (a ++ b) ≡ some s
large_found = first_of_found exceeds (λ p. p.spot)

pub large_later : (a b : List Product) → first_too_large a ≡ none → first_too_large (a ++ b) ≡ first_too_large b
large_later = first_of_later exceeds (λ p. p.spot)

pub large_left : (a b : List Product) → first_too_large (a ++ b) ≡ none → first_too_large a ≡ none
large_left a b e = no_first exceeds (λ p. p.spot) a (none_left exceeds a b (none_passes exceeds (λ p. p.spot) (a ++ b) e))

pub large_right : (a b : List Product) → first_too_large (a ++ b) ≡ none → first_too_large b ≡ none
large_right a b e = no_first exceeds (λ p. p.spot) b (none_right exceeds a b (none_passes exceeds (λ p. p.spot) (a ++ b) e))

large_after : (a b c : List Product) → first_too_large b ≡ first_too_large c → first_too_large (a ++ b) ≡ first_too_large (a ++ c)
large_after [] b c e = e
large_after (p ∷ a) b c e = ap (λ rest. cond (exceeds p) (some p.spot) rest) (large_after a b c e)

pub not_found : (found : Option Spot) → is_found found ≡ false → found ≡ none
not_found none e = refl
not_found (some s) e = absurd (true≢false e)

-- ---- one list: c orders from order i on

module _ (f : ℕ → Product) where
  orders_kept : (i c : ℕ) → ((j : ℕ) → i ≤ j → j < i + c → (f j).size ≤ size_max) → first_too_large (orders_from f i c) ≡ none
  orders_kept i zero kept = refl
  orders_kept i (suc c) kept =
      rw (le-ltb size_max (f i).size (kept i (omega arith) (omega arith))) (orders_kept (suc i) c (λ j a b. kept j (omega arith) (omega arith)))

  kept_orders : (i c : ℕ) → first_too_large (orders_from f i c) ≡ none → (j : ℕ) → i ≤ j → j < i + c → (f j).size ≤ size_max
  kept_orders i zero e j a b = absurd (omega arith)
  kept_orders i (suc c) e j a b =
      let kept = none_passes exceeds (λ p. p.spot) (orders_from f i (suc c)) e in
      go (ℕ_discrete j i) (ltb-false size_max (f i).size kept.0)
      (λ l. kept_orders (suc i) c (no_first exceeds (λ p. p.spot) (orders_from f (suc i) c) kept.1) j l (omega arith))
    where
      go : Dec (j ≡ i) → (f i).size ≤ size_max → (suc i ≤ j → (f j).size ≤ size_max) → (f j).size ≤ size_max
      go (yes q) here later = rw q here
      go (no q) here later = later (omega arith)

  orders_found : (i c j : ℕ) → i ≤ j → j < i + c → ((l : ℕ) → i ≤ l → l < j → (f l).size ≤ size_max) → size_max < (f j).size →
      first_too_large (orders_from f i c) ≡ some (f j).spot
  orders_found i zero j a b kept over = absurd (omega arith)
  orders_found i (suc c) j a b kept over =
      go (ℕ_discrete j i) (λ l. orders_found (suc i) c j l (omega arith) (λ n p r. kept n (omega arith) r) over)
    where
      go : Dec (j ≡ i) → (suc i ≤ j → first_too_large (orders_from f (suc i) c) ≡ some (f j).spot) →
          first_too_large (orders_from f i (suc c)) ≡ some (f j).spot
      go (yes q) later = rw (lt-ltb size_max (f i).size (rw q at over), q) refl
      go (no q) later = rw (le-ltb size_max (f i).size (kept i (omega arith) (omega arith))) (later (omega arith))

  -- another sequence with the same spots, in which the same products exceed the limit
  orders_same : (g : ℕ → Product) (i c : ℕ) → ((j : ℕ) → ((f j).spot ≡ (g j).spot) × (exceeds (f j) ≡ exceeds (g j))) →
      first_too_large (orders_from f i c) ≡ first_too_large (orders_from g i c)
  orders_same g i zero same = refl
  orders_same g i (suc c) same = rw ((same i).0, (same i).1) (ap (λ rest. cond (exceeds (g i)) (some (g i).spot) rest) (orders_same g (suc i) c same))

pub products-same : (k h : ℕ) (C D : List ℤ) → length C ≡ length D → ((j : ℕ) → ltb size_max (product h C j) ≡ ltb size_max (product h D j)) →
    first_too_large (products k h C) ≡ first_too_large (products k h D)
unfolding products
products-same k h C D e same = rw e (orders_same (product_at k h C) (product_at k h D) 0 (length D) (λ j. (refl, same j)))

module _ (k h : ℕ) (C : List ℤ) where
  -- the size rule of the list: no product of it is too large
  pub sized_kept : Sized h C → first_too_large (products k h C) ≡ none
  unfolding products
  sized_kept kept = orders_kept (product_at k h C) 0 (length C) (λ j a b. kept j (omega arith))

  pub kept_sized : first_too_large (products k h C) ≡ none → Sized h C
  unfolding products
  kept_sized e j b = kept_orders (product_at k h C) 0 (length C) e j (omega arith) (omega arith)

  -- the first order that is too large
  pub order-found : (j : ℕ) → j < length C → ((i : ℕ) → i < j → product h C i ≤ size_max) → size_max < product h C j →
      first_too_large (products k h C) ≡ some (record { knot = k; order = j; gap = h })
  unfolding products
  order-found j b kept over = orders_found (product_at k h C) 0 (length C) j (omega arith) (omega arith) (λ l a r. kept l r) over

-- what is found of it with a computed gap
pub at_gap : {h g : ℕ} {found : Option Spot} (k : ℕ) (C : List ℤ) → h ≡ g → found ≡ first_too_large (products k h C) → first_too_large (products k g C) ≡ found
at_gap k C p q = ap (λ h. first_too_large (products k h C)) (sym p) ∙ sym q

-- ---- a knot between its neighbours, as far as they were looked at

-- the knot on the left, or on the right, if there is one
abbrev pub if_there : Bool → Scan → Option Scan
if_there b s = cond b (some s) none

module _ (k : ℕ) where
  -- the left gap names a product, whatever is on the right
  pub left-found : {spot : Spot} (l s : Scan) (right : Option Scan) →
      first_too_large (products k (gap l s.position) (left_list s)) ≡ some spot → first_too_large (size_products k (some l) s right) ≡ some spot
  left-found l s none e = e
  left-found l s (some r) e = large_found (products k (gap l s.position) (left_list s)) (products k (gap s r.position) (right_list s)) e

  -- it names none, or is not there: the right gap is next
  pub left_passed : (b : Bool) (l s r : Scan) → (b ≡ true → first_too_large (products k (gap l s.position) (left_list s)) ≡ none) →
      first_too_large (size_products k (if_there b l) s (some r)) ≡ first_too_large (products k (gap s r.position) (right_list s))
  left_passed true l s r e = large_later (products k (gap l s.position) (left_list s)) (products k (gap s r.position) (right_list s)) (e refl)
  left_passed false l s r e = refl

  -- the held knot names a product; or none, or is not there: the new knot is next
  pub held_found : {spot : Spot} (held s : Scan) → first_too_large (products (k - 1) (gap held s.position) (right_list held)) ≡ some spot →
      first_too_large (append_products k (some held) s) ≡ some spot
  held_found held s e = large_found (products (k - 1) (gap held s.position) (right_list held)) (size_products k (some held) s none) e

  pub held-passed : (b : Bool) (held s : Scan) →
      (b ≡ true → first_too_large (products (k - 1) (gap held s.position) (right_list held)) ≡ none) →
      first_too_large (append_products k (if_there b held) s) ≡ first_too_large (size_products k (if_there b held) s none)
  held-passed true held s e = large_later (products (k - 1) (gap held s.position) (right_list held)) (size_products k (some held) s none) (e refl)
  held-passed false held s e = refl

  -- no product of a scan on its own, and none of it with the gap to a scan on its right: none between both
  pub joined : (l : Option Scan) (held s : Scan) → first_too_large (size_products k l held none) ≡ none →
      Sized (gap held s.position) (right_list held) → first_too_large (size_products k l held (some s)) ≡ none
  joined none held s p q = sized_kept k (gap held s.position) (right_list held) q
  joined (some l) held s p q =
      large_later (products k (gap l held.position) (left_list held)) (products k (gap held s.position) (right_list held)) p ∙
      sized_kept k (gap held s.position) (right_list held) q

  -- what an append that names none says of the held knot and of the new one, and back
  pub follows-held : (held s : Scan) → first_too_large (append_products k (some held) s) ≡ none → Sized (gap held s.position) (right_list held)
  follows-held held s e =
      kept_sized (k - 1) (gap held s.position) (right_list held)
      (large_left (products (k - 1) (gap held s.position) (right_list held)) (size_products k (some held) s none) e)

  pub follows-new : (last : Option Scan) (s : Scan) → first_too_large (append_products k last s) ≡ none → first_too_large (size_products k last s none) ≡ none
  follows-new none s e = e
  follows-new (some held) s e = large_right (products (k - 1) (gap held s.position) (right_list held)) (size_products k (some held) s none) e

  -- another new scan, of whose list the same is found
  pub follows_same : (held s t : Scan) → s.position ≡ t.position →
      first_too_large (products k (gap held t.position) (left_list s)) ≡ first_too_large (products k (gap held t.position) (left_list t)) →
      first_too_large (append_products k (some held) s) ≡ first_too_large (append_products k (some held) t)
  follows_same held s t p e = rw p (large_after (products (k - 1) (gap held t.position) (right_list held)) _ _ e)

  pub follows : (held s : Scan) → Sized (gap held s.position) (right_list held) → Sized (gap held s.position) (left_list s) →
      first_too_large (append_products k (some held) s) ≡ none
  follows held s p q =
      large_later (products (k - 1) (gap held s.position) (right_list held)) (size_products k (some held) s none)
      (sized_kept (k - 1) (gap held s.position) (right_list held) p) ∙ sized_kept k (gap held s.position) (left_list s) q

  -- with the gap on either side
  pub size-right : (l : Option Scan) (s r : Scan) → first_too_large (size_products k l s (some r)) ≡ none → Sized (gap s r.position) (right_list s)
  size-right none s r e = kept_sized k (gap s r.position) (right_list s) e
  size-right (some l) s r e =
      kept_sized k (gap s r.position) (right_list s)
      (large_right (products k (gap l s.position) (left_list s)) (products k (gap s r.position) (right_list s)) e)

  pub size-left : (l s : Scan) (r : Option Scan) → first_too_large (size_products k (some l) s r) ≡ none → Sized (gap l s.position) (left_list s)
  size-left l s none e = kept_sized k (gap l s.position) (left_list s) e
  size-left l s (some r) e =
      kept_sized k (gap l s.position) (left_list s)
      (large_left (products k (gap l s.position) (left_list s)) (products k (gap s r.position) (right_list s)) e)
