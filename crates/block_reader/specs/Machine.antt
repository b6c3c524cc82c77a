-- What reading a block gives, in the model.
use Rattle.std.specs.Prelude.{List, ◌≡◌, ℕ, ◌-◌, length, drop, take, Result, IfOk}
use Rattle.std.proofs.Math.Option.{Option, none}
use Rattle.scans.specs.Scan.{Scan}
use Rattle.scans.specs.SizeRule.{turn_products}
use Rattle.scans.specs.RefusalTable.{first}
use Rattle.scans.specs.Reason.{reason as reason_of}
use Rattle.block.specs.Reading.{knots_causes, knots_from}
use Rattle.knot.specs.Machine.{fault_in, reason_in, scans}
use Rattle.knot.specs.declared.reason.Fault.{Fault}
use Rattle.block_reader.specs.declared.contents.Contents.{Contents}

-- the first fault, if there is one, and the reason where that is 6; if there is none, the list
pub record Reads (r : Result Contents Fault) (fault : Option ℕ) (list : List Scan) : Type 0 where
  pub found : fault_in r ≡ fault
  pub reason : reason_in r ≡ reason_of fault (turn_products 0 none list)
  pub knots : IfOk r (λ c. scans (take c.count c.knots) ≡ list)

-- the same of a block's knots and its end word, with its edition and its words given: from the second one on, so many
-- knots
abbrev pub ReadsKnots : Result Contents Fault → ℕ → ℕ → List ℕ → Type 0
ReadsKnots r e count ws =
    Reads r (first (knots_causes e (length ws - 1) 0 count none (drop 1 ws))) (knots_from e count (drop 1 ws))
