-- What is found of a call that puts a knot into the list.
use Rattle.std.specs.Prelude.{List, ◌≡◌, ℕ, ℤ, length, Result, IfOk}
use Rattle.std.proofs.Math.Option.{Option}
use Rattle.scans.specs.Scan.{Scan, scan_of, at, before, after}
use Rattle.scans.specs.SizeRule.{Product, size_products, append_products}
use Rattle.scans.specs.RefusalTable.{Cause, first}
use Rattle.scans.specs.Reason.{reason as reason_of}
use Rattle.scans.specs.Order.{append_causes, correct_causes}
use Rattle.knot.specs.Machine.{scan, fault_in, reason_in}
use Rattle.knot.specs.declared.held.Knot.{Knot}
use Rattle.knot.specs.declared.reason.Fault.{Fault}
use Rattle.following.specs.Machine.{CloseBefore, CloseAfter}

-- the first of the call's causes, and the reason, where a 6 is it; where none holds, the knot with this scan
pub record Finds (r : Result Knot Fault) (causes : List Cause) (tested : List Product) (s : Scan) : Type 0 where
  pub fault : fault_in r ≡ first causes
  pub reason : reason_in r ≡ reason_of (first causes) tested
  pub knot : IfOk r (λ k. scan k ≡ s)

-- what an append at x after these scans finds
abbrev pub FindsAppended : Result Knot Fault → List Scan → ℕ → List ℤ → Type 0
FindsAppended r scans x C =
    let count = length scans in
    let last = before scans count in
    Finds r (append_causes count last x C) (append_products count last (scan_of x C)) (scan_of x C)

-- what a correct of knot k of so many finds, which lies at x between these neighbours: the first of its causes, or else
-- the knot with the new coefficients, at x
abbrev pub FindsBetween : Result Knot Fault → ℕ → ℕ → Option Scan → ℕ → Option Scan → List ℤ → Type 0
FindsBetween r k count left x right C =
    Finds r (correct_causes k count left x right C) (size_products k left (scan_of x C) right) (scan_of x C)

-- what a correct of scan k of these needs and finds: the scans before and after it, where there are any, are at most 16
-- steps away; the first of its causes, or else the knot with the new coefficients, where scan k lies
abbrev pub CloseBeside : List Scan → ℕ → Type 0
CloseBeside scans k =
    let x = (at scans k).position in CloseBefore (before scans k) x × CloseAfter x (after scans k)

abbrev pub FindsCorrected : Result Knot Fault → List Scan → ℕ → List ℤ → Type 0
FindsCorrected r scans k C =
    FindsBetween r k (length scans) (before scans k) (at scans k).position (after scans k) C
