-- What the machine's neighbours are in the model: a knot that is lent, or its position alone, where there is one.
use Rattle.std.specs.Borrow.{Bor}
use Rattle.std.specs.Prelude.{List, ℕ, ◌-◌, ◌≤◌, ℤ, ⊤, Option as Given, Some, None}
use Rattle.std.proofs.Math.Option.{Option, none, some}
use Rattle.rounding.specs.Limits.{gap_max}
use Rattle.scans.specs.Scan.{Scan, scan_of, gap}
use Rattle.knot.specs.Machine.{scan}
use Rattle.knot.specs.declared.held.Knot.{Knot}

-- the scan of a neighbour
abbrev pub neighbour : Given (Bor Knot) → Option Scan
neighbour None = none
neighbour (Some n) = some (scan n.now)

-- a scan that lies at a neighbour's position, where there is one: the one with the list A. Of a neighbour
-- position_causes, knot_causes and size_products look at the position alone, so what they give is promised for every A
abbrev pub lying : Given ℕ → List ℤ → Option Scan
lying None A = none
lying (Some x) A = some (scan_of x A)

-- a neighbour on the left, if there is one, lies at most 16 steps before position x; one on the right as much after it
abbrev pub CloseBefore : Option Scan → ℕ → Type 0
CloseBefore none x = ⊤
CloseBefore (some l) x = gap l x ≤ gap_max

abbrev pub CloseAfter : ℕ → Option Scan → Type 0
CloseAfter x none = ⊤
CloseAfter x (some r) = r.position - x ≤ gap_max
