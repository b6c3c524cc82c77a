-- What the machine's knots, refusals and reasons are in the model.
use Rattle.std.specs.Prelude.{List, map, ℕ, zero, suc, ◌+◌, ◌≡◌, ◌≤◌, take}
use Rattle.std.specs.Prelude.{Option as Given, Some, None, Result, Ok, Err}
use Rattle.std.proofs.Math.Option.{Option, none, some}
use Rattle.scans.specs.Scan.{Scan}
use Rattle.scans.specs.SizeRule.{Spot as ModelSpot}
use Rattle.knot.specs.declared.held.Knot.{Knot}
use Rattle.knot.specs.declared.reason.Spot.{Spot}
use Rattle.knot.specs.declared.reason.Fault.{Fault}
use Rattle.knot.specs.declared.reason.Fault.TheVariants as Faults
use Rattle.knot.specs.declared.table.Refusal.{Refusal}
use Rattle.knot.specs.declared.table.Refusal.TheVariants as Refusals

-- the scan of a knot: its list is its first grade + 1 coefficients, and those past them are free
abbrev pub scan : Knot → Scan
scan k = record { position = k.position; coefficients = take (k.grade + 1) k.coefficients }

-- the scans of knots
abbrev pub scans : List Knot → List Scan
scans knots = map scan knots

-- the documents' number of each cause
abbrev pub number : Refusal → ℕ
number Refusals.Form = 1
number Refusals.Full = 2
number Refusals.List = 3
number Refusals.Position = 4
number Refusals.Gap = 5
number Refusals.Size = 6
number Refusals.Outside = 7
number Refusals.Few = 8
number Refusals.Index = 9
number Refusals.Output = 10
number Refusals.Stride = 11
number Refusals.Readings = 12
number Refusals.Unlike = 13
number Refusals.Multiplier = 14

-- the number that a result refuses with
abbrev pub refusal : {T : Type 0} → Result T Refusal → Option ℕ
refusal (Ok t) = none
refusal (Err r) = some (number r)

-- the refusal that a number from 0 to 14 stands for; 0 is none
abbrev pub refusal_of : ℕ → Option ℕ
refusal_of zero = none
refusal_of (suc n) = some (suc n)

pub record Numbers (n : ℕ) (found : Option ℕ) : Type 0 where
  pub known : n ≤ 14
  pub is : refusal_of n ≡ found

-- the spot that an answer names, and the one that a test of the size rule finds
abbrev pub spot : Spot → ModelSpot
spot s = record { knot = s.knot; order = s.order; gap = s.gap }

abbrev pub spot_in : Given Spot → Option ModelSpot
spot_in None = none
spot_in (Some s) = some (spot s)

abbrev pub too_large : Result Unit Spot → Option ModelSpot
too_large (Ok t) = none
too_large (Err s) = some (spot s)

-- the number of a fault, and the spot that it names
abbrev pub fault_number : Fault → ℕ
fault_number (Faults.Cause r) = number r
fault_number (Faults.TooLarge s) = 6

abbrev pub fault_spot : Fault → Option ModelSpot
fault_spot (Faults.Cause r) = none
fault_spot (Faults.TooLarge s) = some (spot s)

-- the same of a result: what it refuses with, and why
abbrev pub fault_in : {T : Type 0} → Result T Fault → Option ℕ
fault_in (Ok t) = none
fault_in (Err f) = some (fault_number f)

abbrev pub reason_in : {T : Type 0} → Result T Fault → Option ModelSpot
reason_in (Ok t) = none
reason_in (Err f) = fault_spot f
