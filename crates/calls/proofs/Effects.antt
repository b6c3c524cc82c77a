-- What a call answers, the scans that then stand and its output: where a cause holds, and where none does.
use mathlib.Core.Bool.{Bool, true, false, true≢false}
use mathlib.Core.List.{List}
use mathlib.Core.Option.{Option, none, some}
use mathlib.Core.Path.{◌≡◌, refl, ◌∙◌, ap}
use Prim.Native.Nat.{ℕ}
use lib.IntN.{ℤ}
use Rattle.scans.specs.Scan.{Scan}
use Rattle.scans.specs.RefusalTable.{first}
use Rattle.calls.specs.Calls.{Call, Reply, accepted, number, refused}
use Rattle.calls.specs.Calls.{causes, changed, says, lent, filled, answered, reply_to, standing_after, output}

-- document 01: "the answer is the number of the first in that order, and the standing scans and a lent output stay as they were"
module _ (call : Call) (scans : List Scan) {n : ℕ} (cause : first (causes call scans) ≡ some n) where
  pub refusal-replies : reply_to call scans ≡ refused n
  unfolding reply_to
  refusal-replies = rw cause refl

  pub refusal-leaves : standing_after call scans ≡ scans
  unfolding standing_after
  refusal-leaves = rw cause refl

  pub refusal-writes : output call scans ≡ lent call
  unfolding output
  refusal-writes = rw cause refl

-- document 01: "If none holds, the list changes as that call's line under The reel says"
module _ (call : Call) (scans : List Scan) (quiet : first (causes call scans) ≡ none) where
  pub acceptance_replies : reply_to call scans ≡ says call scans
  unfolding reply_to
  acceptance_replies = rw quiet refl

  pub acceptance_leaves : standing_after call scans ≡ changed call scans
  unfolding standing_after
  acceptance_leaves = rw quiet refl

  pub acceptance_writes : output call scans ≡ filled call scans
  unfolding output
  acceptance_writes = rw quiet refl

-- ---- a reply that is no refusal comes of an accepted call

abbrev is_refused : Reply → Bool
is_refused accepted = false
is_refused (number z) = false
is_refused (refused n) = true

pub answer_is : (o : Option ℕ) (said reply : Reply) → is_refused reply ≡ false → answered o said ≡ reply → (o ≡ none) × (said ≡ reply)
answer_is none said reply plain e = (refl, e)
answer_is (some n) said reply plain e = absurd (true≢false (ap is_refused e ∙ plain))

module _ (call : Call) (scans : List Scan) where
  pub number-quiet : {z : ℤ} → reply_to call scans ≡ number z → (first (causes call scans) ≡ none) × (says call scans ≡ number z)
  unfolding reply_to
  number-quiet {z} e = answer_is (first (causes call scans)) (says call scans) (number z) refl e

  pub accepted-quiet : reply_to call scans ≡ accepted → first (causes call scans) ≡ none
  unfolding reply_to
  accepted-quiet e = (answer_is (first (causes call scans)) (says call scans) accepted refl e).0
