-- Document 01, "The reel": the size rule, by the products that it tests; and request 6/14: their sequence, and the
-- first that exceeds the limit.
use Rattle.std.specs.Prelude.{Bool, true, false, List, [], ◌∷◌, ◌++◌, ℕ, zero, suc, ◌-◌, ltb, ℤ, length}
use Rattle.std.proofs.Math.Option.{Option, none, some}
use Rattle.integer.specs.Tests.{first_of}
use Rattle.rounding.specs.Limits.{size_max}
use Rattle.rounding.specs.Size.{product}
use Rattle.scans.specs.Scan.{Scan, left_list, right_list, gap}

-- request 6/14: "the knot, the order j and the gap" of a product
pub record Spot : Type 0 where
  pub knot : ℕ
  pub order : ℕ
  pub gap : ℕ

-- a product that the size rule tests: its spot, and what |C_j| × h^j comes to
pub record Product : Type 0 where
  pub spot : Spot
  pub size : ℕ

abbrev pub product_at : ℕ → ℕ → List ℤ → ℕ → Product
product_at k h C j = record { spot = record { knot = k; order = j; gap = h }; size = product h C j }

-- "orders rising": c of them from order j on
abbrev pub orders_from : (ℕ → Product) → ℕ → ℕ → List Product
orders_from f j zero = []
orders_from f j (suc c) = f j ∷ orders_from f (suc j) c

-- the products of the list C of knot k with the gap h
unfoldable pub products : ℕ → ℕ → List ℤ → List Product
products k h C = orders_from (product_at k h C) 0 (length C)

-- document 01: "for each gap h beside a knot", with the list that serves the piece there; "A knot with no neighbour is
-- tested with h = 1". Request 6/14: "the left gap and then the right"
abbrev pub size_products : ℕ → Option Scan → Scan → Option Scan → List Product
size_products k none s none = products k 1 (left_list s)
size_products k (some l) s none = products k (gap l s.position) (left_list s)
size_products k none s (some r) = products k (gap s r.position) (right_list s)
size_products k (some l) s (some r) =
    products k (gap l s.position) (left_list s) ++ products k (gap s r.position) (right_list s)

-- append of knot k: "the last held knot with the new gap, then the new knot"
abbrev pub append_products : ℕ → Option Scan → Scan → List Product
append_products k none s = size_products k none s none
append_products k (some held) s =
    products (k - 1) (gap held s.position) (right_list held) ++ size_products k (some held) s none

-- a block or a sum: "each knot in turn as if appended", here from knot k on, after the last one
abbrev pub turn_products : ℕ → Option Scan → List Scan → List Product
turn_products k last [] = []
turn_products k last (s ∷ scans) = append_products k last s ++ turn_products (suc k) (some s) scans

-- a product that exceeds the limit, 2^28
abbrev pub exceeds : Product → Bool
exceeds p = ltb size_max p.size

-- "the first in this sequence" that does
abbrev pub first_too_large : List Product → Option Spot
first_too_large = first_of exceeds (λ p. p.spot)

-- there is one
abbrev pub is_found : Option Spot → Bool
is_found none = false
is_found (some s) = true
