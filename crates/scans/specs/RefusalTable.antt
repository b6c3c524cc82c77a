-- Document 01, "Refusal table", with the rows of document 02: each a cause that holds or not, with its number; and the
-- first that holds.
use Rattle.std.specs.Prelude.{Bool, false, not, ◌||◌, List, [], ◌∷◌, ℕ, ◌+◌, eqb, leb, ltb, ℤ, nat_abs}
use Rattle.std.proofs.Math.Option.{Option, none, some}
use Rattle.integer.specs.Tests.{first_of}
use Rattle.rounding.specs.Limits.{knots_max, position_max, grade_max, gap_max, readings_max, multiplier_max}
use Rattle.scans.specs.Scan.{Scan, gap}
use Rattle.scans.specs.SizeRule.{Spot, append_products, first_too_large, is_found}

pub record Cause : Type 0 where
  pub number : ℕ
  pub holds : Bool

-- the number of the first cause that holds
abbrev pub first : List Cause → Option ℕ
first = first_of (λ c. c.holds) (λ c. c.number)

-- ---- the rows, in the table's order

-- of a block: bytes not a multiple of 4, below 8; wrong kind, edition, spare bits, end count; words missing or over
abbrev pub bad_form : Bool → Cause
bad_form wrong = record { number = 1; holds = wrong }

-- a knot count above 129
abbrev pub too_many : ℕ → Cause
too_many count = record { number = 2; holds = ltb knots_max count }

-- coefficient list of length 0 or above 8
abbrev pub bad_list : ℕ → Cause
bad_list n = record { number = 3; holds = eqb n 0 || ltb (grade_max + 1) n }

-- position above 65,535 or not above the last
abbrev pub bad_position : Option Scan → ℕ → Cause
bad_position last x = record { number = 4; holds = ltb position_max x || not_above last }
  where
    not_above : Option Scan → Bool
    not_above none = false
    not_above (some held) = leb x held.position

-- gap above 16
abbrev pub wide_gap : Option Scan → ℕ → Cause
wide_gap last x = record { number = 5; holds = wide last }
  where
    wide : Option Scan → Bool
    wide none = false
    wide (some held) = ltb gap_max (gap held x)

-- size rule broken: of the products that are tested one is found that exceeds the limit
abbrev pub bad_size : Option Spot → Cause
bad_size found = record { number = 6; holds = is_found found }

-- position before the first or after the last knot, all in 1/256 step
abbrev pub outside : ℕ → ℕ → ℕ → Cause
outside from to x = record { number = 7; holds = ltb x from || ltb to x }

-- fewer than two knots, in a query
abbrev pub too_few : ℕ → Cause
too_few count = record { number = 8; holds = ltb count 2 }

-- no knot k; or i above j, or no knot j
abbrev pub no_knot : ℕ → ℕ → Cause
no_knot k count = record { number = 9; holds = leb count k }

abbrev pub no_range : ℕ → ℕ → ℕ → Cause
no_range i j count = record { number = 9; holds = ltb j i || leb count j }

-- output shorter than the block
abbrev pub short_output : ℕ → ℕ → Cause
short_output room size = record { number = 10; holds = ltb room size }

-- request 1/14: a view with n of 0
abbrev pub zero_stride : ℕ → Cause
zero_stride n = record { number = 11; holds = eqb n 0 }

-- request 1/14: a 33rd reading
abbrev pub too_many_readings : ℕ → Cause
too_many_readings count = record { number = 12; holds = ltb readings_max count }

-- request 4/14: unlike positions or grades, of two reels
abbrev pub unlike_reels : Bool → Cause
unlike_reels alike = record { number = 13; holds = not alike }

-- request 4/14: a multiplier outside −16 to 16
abbrev pub bad_multiplier : ℤ → Cause
bad_multiplier α = record { number = 14; holds = ltb multiplier_max (nat_abs α) }

-- ---- what append, correct and the reader of blocks have in common

-- of a list: 3, one row until request 8/14
abbrev pub list_causes : ℕ → List Cause
list_causes n = bad_list n ∷ []

-- of a position after the last knot: 4, then 5
abbrev pub position_causes : Option Scan → ℕ → List Cause
position_causes last x = bad_position last x ∷ wide_gap last x ∷ []

-- of knot k after the last one: 6
abbrev pub size_causes : ℕ → Option Scan → Scan → List Cause
size_causes k last s = bad_size (first_too_large (append_products k last s)) ∷ []
