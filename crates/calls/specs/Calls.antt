-- Document 01, "The reel", "Refusal table" and "Sequences and standing scans": what each call answers and leaves, of
-- the scans that stand.
use Rattle.std.specs.Prelude.{Bool, true, false, List, [], ◌∷◌, ◌++◌, ℕ, ◌-◌, ℤ, pos, length, set}
use Rattle.std.proofs.Math.Option.{Option, none, some}
use Rattle.scans.specs.Scan.{Scan, scan_of, at, before, after}
use Rattle.scans.specs.RefusalTable.{Cause, first, no_knot, short_output}
use Rattle.scans.specs.Order.{append_causes, correct_causes, query_causes, range_causes}
use Rattle.scans.specs.Pieces.{mark}
use Rattle.scans.specs.Queries.{value_at, trend_at, total_over}
use Rattle.block.specs.Block.{block, written}
use Rattle.block.specs.Reading.{block_causes, list_of}

-- a call of a sequence, with its arguments: of read the bytes of its block, of write those of the lent output as they
-- are before, of value and trend the query position in 1/256 step, of total the knots i and j
pub data Call : Type 0 where
  clear : Call
  append : ℕ → List ℤ → Call
  correct : ℕ → List ℤ → Call
  read : List ℕ → Call
  write : List ℕ → Call
  value : ℕ → Call
  trend : ℕ → Call
  total : ℕ → ℕ → Call

-- what a call answers: that it is accepted, a number, or the number of a refusal
pub data Reply : Type 0 where
  accepted : Reply
  number : ℤ → Reply
  refused : ℕ → Reply

-- scan k with other coefficients: its position stays
abbrev pub corrected : List Scan → ℕ → List ℤ → Scan
corrected scans k C = scan_of (at scans k).position C

-- document 01, "Refusal table", Order: the causes of each call, in the order in which they are asked
abbrev pub causes : Call → List Scan → List Cause
causes clear scans = []
causes (append x C) scans = append_causes (length scans) (before scans (length scans)) x C
causes (correct k C) scans = correct_causes k (length scans) (before scans k) (at scans k).position (after scans k) C
causes (read bytes) scans = block_causes bytes
causes (write out) scans = short_output (length out) (length (block scans)) ∷ []
causes (value x) scans = query_causes (length scans) (mark scans 0) (mark scans (length scans - 1)) x
causes (trend x) scans = query_causes (length scans) (mark scans 0) (mark scans (length scans - 1)) x
causes (total i j) scans = range_causes (length scans) i j

-- the list as an accepted call leaves it
abbrev pub changed : Call → List Scan → List Scan
changed clear scans = []
changed (append x C) scans = scans ++ scan_of x C ∷ []
changed (correct k C) scans = set scans k (corrected scans k C)
changed (read bytes) scans = list_of bytes
changed (write out) scans = scans
changed (value x) scans = scans
changed (trend x) scans = scans
changed (total i j) scans = scans

-- the calls that change it
abbrev pub changes : Call → Bool
changes clear = true
changes (append x C) = true
changes (correct k C) = true
changes (read bytes) = true
changes (write out) = false
changes (value x) = false
changes (trend x) = false
changes (total i j) = false

-- what an accepted call answers
abbrev pub says : Call → List Scan → Reply
says clear scans = accepted
says (append x C) scans = accepted
says (correct k C) scans = accepted
says (read bytes) scans = accepted
says (write out) scans = number (pos (length (block scans)))
says (value x) scans = number (value_at scans x)
says (trend x) scans = number (trend_at scans x)
says (total i j) scans = number (total_over scans i j)

-- the lent output as it was, and as an accepted call leaves it; no bytes where nothing is lent
abbrev pub lent : Call → List ℕ
lent clear = []
lent (append x C) = []
lent (correct k C) = []
lent (read bytes) = []
lent (write out) = out
lent (value x) = []
lent (trend x) = []
lent (total i j) = []

abbrev pub filled : Call → List Scan → List ℕ
filled clear scans = []
filled (append x C) scans = []
filled (correct k C) scans = []
filled (read bytes) scans = []
filled (write out) scans = written scans out
filled (value x) scans = []
filled (trend x) scans = []
filled (total i j) scans = []

-- if a cause holds, the first one's number; if none does, the answer of an accepted call
abbrev pub answered : Option ℕ → Reply → Reply
answered none reply = reply
answered (some n) reply = refused n

-- if a cause holds, the list and a lent output stay as they were
abbrev pub kept : {A : Type 0} → Option ℕ → A → A → A
kept none old new = new
kept (some n) old new = old

-- what a call answers, the list it leaves, and what then stands in the output
unfoldable pub reply_to : Call → List Scan → Reply
reply_to call scans = answered (first (causes call scans)) (says call scans)

unfoldable pub standing_after : Call → List Scan → List Scan
standing_after call scans = kept (first (causes call scans)) scans (changed call scans)

unfoldable pub output : Call → List Scan → List ℕ
output call scans = kept (first (causes call scans)) (lent call) (filled call scans)

-- not a call of the sequences: the position of scan k
unfoldable pub position_of : ℕ → List Scan → Reply
position_of k scans = answered (first (no_knot k (length scans) ∷ [])) (number (pos (at scans k).position))
