-- Document 01, "The reel": a knot of the list, in the model called a scan, and its neighbours.
use Rattle.std.specs.Prelude.{List, [], ℕ, zero, suc, ◌-◌, ℤ, length, get_or}
use Rattle.std.proofs.Math.Option.{Option, none}
use Rattle.std.proofs.Math.ListN.{get_elem?}

-- its position in steps and its coefficients C_0 to C_m; its grade is the length of the list less one
pub record Scan : Type 0 where
  pub position : ℕ
  pub coefficients : List ℤ

-- the scan at x with the coefficients C
abbrev pub scan_of : ℕ → List ℤ → Scan
scan_of x C = record { position = x; coefficients = C }

-- its grade m
abbrev pub grade : Scan → ℕ
grade s = length s.coefficients - 1

-- the list that serves the piece on its left, and the one for the piece on its right: a scan has one list, and the two
-- names wait for request 8/14, which gives it two
abbrev pub left_list : Scan → List ℤ
left_list s = s.coefficients

abbrev pub right_list : Scan → List ℤ
right_list s = s.coefficients

-- the gap from a scan to the position of the next, in steps
abbrev pub gap : Scan → ℕ → ℕ
gap s x = x - s.position

-- scan k of a list, counted from 0
abbrev pub at : List Scan → ℕ → Scan
at scans k = get_or scans k (scan_of 0 [])

-- the neighbours of place k in a list: the scans at k − 1 and k + 1, where there are such
abbrev pub before : List Scan → ℕ → Option Scan
before scans zero = none
before scans (suc k) = get_elem? scans k

abbrev pub after : List Scan → ℕ → Option Scan
after scans k = get_elem? scans (suc k)
