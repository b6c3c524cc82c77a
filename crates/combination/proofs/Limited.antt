-- A scan of a sum as a knot holds it: the size rule says of it what it says of the scan itself, and where it admits it, it is the scan.
use borrow.Author.Tests.{le-leb, lt-leb, lt-ltb}
use mathlib.Core.List.{List, [], ◌∷◌, map}
use mathlib.Core.Option.{Option, none, some}
use mathlib.Core.Path.{◌≡◌, refl, ◌∙◌, ap, ap₂}
use Prim.Native.Nat.{ℕ, zero, suc, ◌+◌, ◌*◌, ◌^◌, ◌≤◌, ◌<◌}
use native.Mathlib.Decide.{dec_le}
use native.Mathlib.Nat.{one-le-pow, le-mul_of_pos_right}
use native.Mathlib.Omega.{arith}
use lib.Dec.{ltb}
use lib.IntN.{ℤ, pos, nat_abs, ◌+ℤ◌, ◌*ℤ◌}
use lib.ListN.{length, get_or, take, length-map, get_or-map}
use Rattle.integer.proofs.Within.{size-within}
use Rattle.hermite.specs.Polynomial.{◌⊕◌, ◌⊙◌}
use Rattle.rounding.specs.Limits.{size_max}
use Rattle.rounding.specs.Size.{Sized}
use Rattle.rounding.proofs.Bounds.{sized_one, one-within}
use Rattle.scans.specs.Scan.{Scan, scan_of, gap, left_list}
use Rattle.scans.specs.SizeRule.{products, append_products, first_too_large}
use Rattle.scans.proofs.Causes.{Placed}
use Rattle.scans.proofs.SizeRule.{products-same, kept_sized, follows-new, follows_same}
use Rattle.combination.specs.Machine.{limited, limited_scan}

-- ---- one coefficient

limited-small : (c : ℤ) → nat_abs c ≤ size_max → limited c ≡ c
limited-small c h = rw (le-leb (nat_abs c) size_max h) refl

-- at every gap from 1 on it is too large where the coefficient is
limited-test : (c : ℤ) (p : ℕ) → 1 ≤ p → ltb size_max (nat_abs (limited c) * p) ≡ ltb size_max (nat_abs c * p)
limited-test c p h = go (dec_le (nat_abs c) size_max)
  where
    go : Dec (nat_abs c ≤ size_max) → ltb size_max (nat_abs (limited c) * p) ≡ ltb size_max (nat_abs c * p)
    go (yes b) = ap (λ z. ltb size_max (nat_abs z * p)) (limited-small c b)
    go (no b) =
        let most : size_max < nat_abs c * p = omega (arith, le-mul_of_pos_right (nat_abs c) h) in
        let over : size_max < (size_max + 1) * p = omega (arith, le-mul_of_pos_right (size_max + 1) h) in
        rw (lt-leb (nat_abs c) size_max (omega arith), lt-ltb size_max (nat_abs c * p) most) (lt-ltb size_max ((size_max + 1) * p) over)

-- ---- a list

limited-products : (k h : ℕ) (C : List ℤ) → 1 ≤ h → first_too_large (products k h (map limited C)) ≡ first_too_large (products k h C)
limited-products k h C b =
    products-same k h (map limited C) C (length-map C limited)
    (λ j. ap (λ z. ltb size_max (nat_abs z * h ^ j)) (get_or-map limited C j (pos 0)) ∙ limited-test (get_or C j (pos 0)) (h ^ j) (one-le-pow j h b))

all_small : (C : List ℤ) → ((j : ℕ) → j < length C → nat_abs (get_or C j (pos 0)) ≤ size_max) → map limited C ≡ C
all_small [] h = refl
all_small (c ∷ C) h = ap₂ (λ x l. x ∷ l) (limited-small c (h zero (omega arith))) (all_small C (λ j b. h (suc j) (omega arith)))

limited_is : (h : ℕ) (C : List ℤ) → 1 ≤ h → Sized h C → map limited C ≡ C
limited_is h C b kept = all_small C (λ j l. size-within _ (one-within C (sized_one h C b kept) j l))

-- ---- a scan after the last one

pub limited-follows : (k : ℕ) (last : Option Scan) (s : Scan) → Placed last s.position →
    first_too_large (append_products k last (limited_scan s)) ≡ first_too_large (append_products k last s)
limited-follows k none s placed = limited-products k 1 (left_list s) (omega arith)
limited-follows k (some held) s placed =
    follows_same k held (limited_scan s) s refl (limited-products k (gap held s.position) (left_list s) (omega (arith, placed.above held refl)))

pub limited-scan : (k : ℕ) (last : Option Scan) (s : Scan) → Placed last s.position → first_too_large (append_products k last s) ≡ none → limited_scan s ≡ s
limited-scan k none s placed e = ap (scan_of s.position) (limited_is 1 (left_list s) (omega arith) (kept_sized k 1 (left_list s) e))
limited-scan k (some held) s placed e =
    let h = gap held s.position in
    ap (scan_of s.position)
    (limited_is h (left_list s) (omega (arith, placed.above held refl)) (kept_sized k h (left_list s) (follows-new k (some held) s e)))

-- ---- the first n coefficients

pub take-⊙ : (x : ℤ) (n : ℕ) (a : List ℤ) → take n (x ⊙ a) ≡ x ⊙ take n a
unfolding ◌⊙◌
take-⊙ x zero a = refl
take-⊙ x (suc n) [] = refl
take-⊙ x (suc n) (y ∷ a) = ap (λ l. (x *ℤ y) ∷ l) (take-⊙ x n a)

pub take-⊕ : (n : ℕ) (a b : List ℤ) → take n (a ⊕ b) ≡ take n a ⊕ take n b
unfolding ◌⊕◌
take-⊕ zero a b = refl
take-⊕ (suc n) [] b = refl
take-⊕ (suc n) (x ∷ a) [] = refl
take-⊕ (suc n) (x ∷ a) (y ∷ b) = ap (λ l. (x +ℤ y) ∷ l) (take-⊕ n a b)
