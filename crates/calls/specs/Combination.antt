-- Document 02, request 4/14: the sum of two reels, of the scans A and B that stand in them. It is not a call of the
-- sequences.
use Rattle.std.specs.Prelude.{List, ◌≡◌, ℕ, ℤ}
use Rattle.rounding.specs.Piece.{Piece}
use Rattle.rounding.specs.Combination.{CombinedDistance}
use Rattle.scans.specs.Scan.{Scan}
use Rattle.scans.specs.RefusalTable.{first}
use Rattle.scans.specs.Combination.{combination}
use Rattle.scans.specs.Order.{combination_causes}
use Rattle.calls.specs.Calls.{Reply, accepted, number, refused, answered, kept}

-- what it answers: the number of the first of its causes, or that it is accepted
unfoldable pub sum_reply : ℤ → ℤ → List Scan → List Scan → Reply
sum_reply α β A B = answered (first (combination_causes α β A B)) accepted

-- the scans of the reel that it hands over: those with coefficients αA + βB, and after a refusal the first reel's
unfoldable pub sum_scans : ℤ → ℤ → List Scan → List Scan → List Scan
sum_scans α β A B = kept (first (combination_causes α β A B)) A (combination α β A B)

-- where value answers v in the reel of A: it answers v' in that of B and w in that of the sum, and w differs from
-- αv + βv' by at most (1+|α|+|β|) × (m+n+1)
pub record SumNumbers (α β : ℤ) (P : Piece) (v : ℤ) (other sum : Reply) : Type 0 where
  pub v' : ℤ
  pub w : ℤ
  pub other_is : other ≡ number v'
  pub sum_is : sum ≡ number w
  pub distance : CombinedDistance α β P v v' w

-- what value answers at one position in the reels of A, of B and of their sum: the same refusal, or three such numbers
pub record SumValues (α β : ℤ) (P : Piece) (one other sum : Reply) : Type 0 where
  pub refusals : (n : ℕ) → one ≡ refused n → (other ≡ refused n) × (sum ≡ refused n)
  pub numbers : (v : ℤ) → one ≡ number v → SumNumbers α β P v other sum

-- what a query answers in the reels of A, of B and of their sum: all three refuse with the same number, or they answer
-- the numbers v, v' and w of which `Law` holds
pub data SumReplies (Law : ℤ → ℤ → ℤ → Type 0) : Reply → Reply → Reply → Type 0 where
  all_refuse : (n : ℕ) → SumReplies Law (refused n) (refused n) (refused n)
  all-answer : (v v' w : ℤ) → Law v v' w → SumReplies Law (number v) (number v') (number w)
