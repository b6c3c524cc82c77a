-- Document 02, request 6/14: why a call or a sum is refused with 6, of the scans that stand. The questions for it are
-- no calls of the sequences.
use Rattle.std.specs.Prelude.{List, [], ◌≡◌, ℕ, ℤ, length}
use Rattle.std.proofs.Math.Option.{Option, none, some}
use Rattle.scans.specs.Scan.{Scan, scan_of, before, after}
use Rattle.scans.specs.SizeRule.{Spot, Product, size_products, append_products, turn_products}
use Rattle.scans.specs.RefusalTable.{first}
use Rattle.scans.specs.Reason.{reason, First, Breaks}
use Rattle.scans.specs.Combination.{combination}
use Rattle.scans.specs.Order.{combination_causes}
use Rattle.block.specs.Reading.{block_causes, list_of}
use Rattle.block.specs.View.{view_causes}
use Rattle.calls.specs.Calls.{Call, clear, append, correct, read, write, value, trend, total, corrected}
use Rattle.calls.specs.Calls.{Reply, refused, causes, changed, reply_to}
use Rattle.calls.specs.Combination.{sum_reply}

-- the products that a call tests where it comes to 6, in the request's sequence: "for an append the held knot and then
-- the new one; for a correction the left gap and then the right; for a block .. each knot in turn as if appended";
-- another call tests none
abbrev pub tested : Call → List Scan → List Product
tested clear scans = []
tested (append x C) scans = append_products (length scans) (before scans (length scans)) (scan_of x C)
tested (correct k C) scans = size_products k (before scans k) (corrected scans k C) (after scans k)
tested (read bytes) scans = turn_products 0 none (list_of bytes)
tested (write out) scans = []
tested (value x) scans = []
tested (trend x) scans = []
tested (total i j) scans = []

-- and those of the sum of the scans A and B: "for .. a sum of reels each knot in turn as if appended"
abbrev pub sum_tested : ℤ → ℤ → List Scan → List Scan → List Product
sum_tested α β A B = turn_products 0 none (combination α β A B)

-- the reason of a call, and of a sum: "the knot, the order j and the gap that broke the size rule"
unfoldable pub reason_for : Call → List Scan → Option Spot
reason_for call scans = reason (first (causes call scans)) (tested call scans)

unfoldable pub sum_reason : ℤ → ℤ → List Scan → List Scan → Option Spot
sum_reason α β A B = reason (first (combination_causes α β A B)) (sum_tested α β A B)

-- what the request says of the reason of a call that tests these products, would leave these scans, and is answered so
pub record Reasoned (products : List Product) (would : List Scan) (reply : Reply) (found : Option Spot) : Type 0 where
  -- it names the first product that exceeds the limit
  pub names : (spot : Spot) → found ≡ some spot → First products spot
  -- which is that of this knot, of this order, with this gap
  pub breaks : (spot : Spot) → found ≡ some spot → Breaks would spot
  -- a 6 has one
  pub of_six : reply ≡ refused 6 → found ≡ none → ⊥
  -- "After any other outcome the tool says so"
  pub of_nothing_else : (reply ≡ refused 6 → ⊥) → found ≡ none

-- so it is of every call, of every scans, and of every sum; and a view is refused with 6 only where a read of its block
-- is, so that the reason is the read's
pub record ReasonLaws : Type 0 where
  pub calls : (call : Call) (scans : List Scan) →
      Reasoned (tested call scans) (changed call scans) (reply_to call scans) (reason_for call scans)
  pub sums : (α β : ℤ) (A B : List Scan) →
      Reasoned (sum_tested α β A B) (combination α β A B) (sum_reply α β A B) (sum_reason α β A B)
  pub views : (bytes : List ℕ) (k n : ℕ) → first (view_causes bytes k n) ≡ some 6 → first (block_causes bytes) ≡ some 6
