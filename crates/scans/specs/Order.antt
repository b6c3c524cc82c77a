-- Document 01, "Refusal table", "Order": the causes of append, correct and the queries, in the order in which they are
-- asked, and those of request 4/14. Those of read are `block_causes` of block/specs/Reading.antt.
use Rattle.std.specs.Prelude.{List, [], ◌∷◌, ◌++◌, ℕ, ◌+◌, ℤ, length}
use Rattle.std.proofs.Math.Option.{Option, none}
use Rattle.scans.specs.Scan.{Scan, scan_of}
use Rattle.scans.specs.SizeRule.{size_products, turn_products, first_too_large}
use Rattle.scans.specs.RefusalTable.{Cause, too_many, bad_size, outside, too_few, no_knot, no_range}
use Rattle.scans.specs.RefusalTable.{unlike_reels, bad_multiplier, list_causes, position_causes, size_causes}
use Rattle.scans.specs.Combination.{all_aligned, combination}

-- append, where `count` knots are held and `last` is the last of them: 2, 3, 4, 5, 6
abbrev pub append_causes : ℕ → Option Scan → ℕ → List ℤ → List Cause
append_causes count last x C =
    too_many (count + 1) ∷ list_causes (length C) ++ position_causes last x ++ size_causes count last (scan_of x C)

-- correct of knot k, where `count` knots are held; it lies at x, between the neighbours `left` and `right`: 9, 3, 6
abbrev pub correct_causes : ℕ → ℕ → Option Scan → ℕ → Option Scan → List ℤ → List Cause
correct_causes k count left x right C =
    no_knot k count ∷ list_causes (length C) ++ bad_size (first_too_large (size_products k left (scan_of x C) right)) ∷ []

-- value and trend at x, with the places of the first and the last knot: 8, 7
abbrev pub query_causes : ℕ → ℕ → ℕ → ℕ → List Cause
query_causes count from to x = too_few count ∷ outside from to x ∷ []

-- total from knot i to knot j: 8, 9
abbrev pub range_causes : ℕ → ℕ → ℕ → List Cause
range_causes count i j = too_few count ∷ no_range i j count ∷ []

-- request 4/14, the sum of the scans A and B: 14, 13, then 6 as append tests it, knot by knot
abbrev pub combination_causes : ℤ → ℤ → List Scan → List Scan → List Cause
combination_causes α β A B =
    bad_multiplier α ∷ bad_multiplier β ∷ unlike_reels (all_aligned A B) ∷
    bad_size (first_too_large (turn_products 0 none (combination α β A B))) ∷ []
