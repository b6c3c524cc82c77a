-- The machine's sum of two lists of knots in the model.
use Rattle.std.specs.Prelude.{true, cond, List, [], ◌∷◌, map, ◌≡◌, ℕ, ◌+◌, leb, length, take, ℤ, pos, nat_abs}
use Rattle.std.specs.Prelude.{Result, IfOk}
use Rattle.std.proofs.Math.Option.{none}
use Rattle.integer.specs.Within.{Within}
use Rattle.rounding.specs.Limits.{size_max, multiplier_max, knots_max}
use Rattle.scans.specs.Scan.{Scan, scan_of}
use Rattle.scans.specs.Standing.{Standing}
use Rattle.scans.specs.SizeRule.{turn_products, first_too_large}
use Rattle.scans.specs.RefusalTable.{Cause, first, bad_size}
use Rattle.scans.specs.Reason.{reason as reason_of}
use Rattle.scans.specs.Combination.{all_aligned, combination}
use Rattle.scans.specs.Order.{combination_causes}
use Rattle.knot.specs.Machine.{scans, fault_in, reason_in}
use Rattle.knot.specs.declared.held.Knot.{Knot}
use Rattle.knot.specs.declared.reason.Fault.{Fault}

-- a coefficient as a knot holds it: 2^28 + 1 stands for one above 2^28 in size, which no gap admits either; and the
-- scan with such coefficients
abbrev pub limited : ℤ → ℤ
limited c = cond (leb (nat_abs c) size_max) c (pos (size_max + 1))

abbrev pub limited_scan : Scan → Scan
limited_scan s = scan_of s.position (map limited s.coefficients)

-- where knots can be added up: multipliers from −16 to 16, and the same positions and grades
pub record Summable (α β : ℤ) (knots others : List Knot) : Type 0 where
  pub multiplier : Within multiplier_max α
  pub other_multiplier : Within multiplier_max β
  pub standing : Standing (scans knots)
  pub aligned : all_aligned (scans knots) (scans others) ≡ true

-- the first of the causes, and the reason, where a 6 is it; where none holds, a full array that begins with so many
-- knots of the sum
pub record Sums (r : Result (List Knot) Fault) (count : ℕ) (causes : List Cause) (sum : List Scan) : Type 0 where
  pub cause : fault_in r ≡ first causes
  pub reason : reason_in r ≡ reason_of (first causes) (turn_products 0 none sum)
  pub room : IfOk r (λ knots. length knots ≡ knots_max)
  pub are : IfOk r (λ knots. scans (take count knots) ≡ sum)

-- of scans with the same positions and grades: 6; and of all: 14, 13, 6
abbrev pub SumsKnots : Result (List Knot) Fault → ℕ → ℤ → ℤ → List Scan → List Scan → Type 0
SumsKnots r count α β A B =
    let C = combination α β A B in Sums r count (bad_size (first_too_large (turn_products 0 none C)) ∷ []) C

abbrev pub SumsReels : Result (List Knot) Fault → ℕ → ℤ → ℤ → List Scan → List Scan → Type 0
SumsReels r count α β A B = Sums r count (combination_causes α β A B) (combination α β A B)
