-- Document 02, request 6/14: the reason of a 6, and what the request says of the product that it names.
use Rattle.std.specs.Prelude.{cond, List, ◌∷◌, ◌++◌, ◌≡◌, ℕ, suc, ◌≤◌, ◌<◌, eqb, length, get_or}
use Rattle.std.proofs.Math.Option.{Option, none, some}
use Rattle.rounding.specs.Limits.{size_max}
use Rattle.rounding.specs.Size.{product}
use Rattle.scans.specs.Scan.{Scan, gap, at}
use Rattle.scans.specs.SizeRule.{Spot, Product, first_too_large}
use Rattle.scans.specs.RefusalTable.{bad_size}

-- of a call that is refused with the number of the size rule, the first of the products that it tests which is too
-- large; "After any other outcome the tool says so": none
abbrev pub reason : Option ℕ → List Product → Option Spot
reason none tested = none
reason (some n) tested = let found = first_too_large tested in cond (eqb n (bad_size found).number) found none

-- "It is the first in this sequence": "The product named must exceed the limit and every earlier one must not"
pub record First (tested : List Product) (spot : Spot) : Type 0 where
  pub earlier : List Product
  pub named : Product
  pub later : List Product
  pub sequence : tested ≡ earlier ++ named ∷ later
  pub spot_is : named.spot ≡ spot
  pub over : size_max < named.size
  pub earlier_kept : (i : ℕ) → i < length earlier → (get_or earlier i named).size ≤ size_max

-- a gap beside knot k: on its left, on its right; or 1, with which a first knot is tested alone
pub data GapBeside (scans : List Scan) (k h : ℕ) : Type 0 where
  on_left : (j : ℕ) → suc j ≡ k → h ≡ gap (at scans j) (at scans k).position → GapBeside scans k h
  on_right : suc k < length scans → h ≡ gap (at scans k) (at scans (suc k)).position → GapBeside scans k h
  alone : k ≡ 0 → h ≡ 1 → GapBeside scans k h

-- "the knot, the order j and the gap that broke the size rule": there are such a knot, such an order and such a gap,
-- and |C_j| × h^j of them exceeds the limit
pub record Breaks (scans : List Scan) (spot : Spot) : Type 0 where
  pub knot : spot.knot < length scans
  pub order : spot.order < length (at scans spot.knot).coefficients
  pub gap : GapBeside scans spot.knot spot.gap
  pub over : size_max < product spot.gap (at scans spot.knot).coefficients spot.order
