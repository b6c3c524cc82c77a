-- What a call promises, from the first of its causes: a refusal leaves the reel itself, an acceptance the changed list.
use mathlib.Core.Bool.{true, true≢false}
use mathlib.Core.List.{List, []}
use mathlib.Core.Option.{none, some}
use mathlib.Core.Path.{◌≡◌, refl, sym, ◌∙◌, ap}
use Prim.Native.Nat.{ℕ}
use lib.IntN.{ℤ}
use Rattle.scans.specs.RefusalTable.{first}
use Rattle.scans.specs.Standing.{Standing}
use Rattle.scans.specs.Combination.{combination}
use Rattle.scans.specs.Order.{combination_causes}
use Rattle.scans.proofs.Combination.{sum-standing}
use Rattle.knot.specs.Machine.{number as refusalNumber}
use Rattle.knot.specs.declared.table.Refusal.{Refusal}
use Rattle.calls.specs.Calls.{Call, accepted, number, causes, changed, changes, says, lent, filled}
use Rattle.calls.proofs.Combination.{refused-sum-replies, refused-sum-leaves, sum-replies, sum-leaves}
use Rattle.calls.proofs.Effects.{refusal-replies, refusal-leaves, refusal-writes, acceptance_replies, acceptance_leaves, acceptance_writes}
use Rattle.reel.specs.Machine.{scans, Does, Combines}
use Rattle.reel.proofs.Scans.{stands}
use Rattle.reel.specs.declared.held.Reel.{Reel}
use Rattle.reel.specs.declared.answer.Answer.TheVariants as Answers
use Rattle.reel.specs.declared.answer.Handed.{Handed}
use Rattle.calls.proofs.Standing.{standing-after}

-- a refused call leaves the reel itself and the output that was lent
pub refuses_by : (call : Call) (r : Reel) (cause : Refusal) → first (causes call (scans r)) ≡ some (refusalNumber cause) →
    Does call r (Answers.Refused cause) r (lent call)
refuses_by call r cause e = record {
  replies = sym (refusal-replies call (scans r) e);
  leaves = sym (refusal-leaves call (scans r) e);
  refusal_keeps = λ n q. refl;
  no_change_keeps = λ q. refl;
  writes = sym (refusal-writes call (scans r) e);
}

-- and so does what `refused` hands over
pub refuses : (call : Call) (r : Reel) (cause : Refusal) (handed : Handed) → (handed.reel ≡ r) × (handed.answer ≡ Answers.Refused cause) →
    first (causes call (scans r)) ≡ some (refusalNumber cause) → Does call r handed.answer handed.reel (lent call)
refuses call r cause handed is e = rw (is.0, is.1) (refuses_by call r cause e)

-- an accepted one leaves scans that can stand
pub changed-stands : (call : Call) (r : Reel) → first (causes call (scans r)) ≡ none → Standing (changed call (scans r))
changed-stands call r e = rw (acceptance_leaves call (scans r) e) at (standing-after call (scans r) (stands r))

-- and, if it is of those that change the list and are lent no output, this is its promise
pub accepts : (call : Call) (r next : Reel) → first (causes call (scans r)) ≡ none → changes call ≡ true →
    says call (scans r) ≡ accepted → filled call (scans r) ≡ [] →
    scans next ≡ changed call (scans r) → Does call r Answers.Accepted next []
accepts call r next e does answer none_lent is = record {
  replies = sym (acceptance_replies call (scans r) e ∙ answer);
  leaves = is ∙ sym (acceptance_leaves call (scans r) e);
  refusal_keeps = λ n q. cc q;
  no_change_keeps = λ q. absurd (true≢false (sym does ∙ q));
  writes = sym (acceptance_writes call (scans r) e ∙ none_lent);
}

-- one that answers a number and leaves the reel itself
pub answers : (call : Call) (r : Reel) (z w : ℤ) (out : List ℕ) → first (causes call (scans r)) ≡ none → says call (scans r) ≡ number w →
    z ≡ w → changed call (scans r) ≡ scans r → out ≡ filled call (scans r) → Does call r (Answers.Number z) r out
answers call r z w out e answer is stays fills = record {
  replies = ap number is ∙ sym (acceptance_replies call (scans r) e ∙ answer);
  leaves = sym (acceptance_leaves call (scans r) e ∙ stays);
  refusal_keeps = λ n q. refl;
  no_change_keeps = λ q. refl;
  writes = fills ∙ sym (acceptance_writes call (scans r) e);
}

-- ---- the sum of two reels

module _ (α β : ℤ) (r other : Reel) where
  sum-refuses_by : (cause : Refusal) → first (combination_causes α β (scans r) (scans other)) ≡ some (refusalNumber cause) →
      Combines α β r other (Answers.Refused cause) r
  sum-refuses_by cause e = record {
    replies = sym (refused-sum-replies α β (scans r) (scans other) e);
    leaves = sym (refused-sum-leaves α β (scans r) (scans other) e);
    refusal_keeps = λ n q. refl;
  }

  pub sum-refuses : (cause : Refusal) (handed : Handed) → (handed.reel ≡ r) × (handed.answer ≡ Answers.Refused cause) →
      first (combination_causes α β (scans r) (scans other)) ≡ some (refusalNumber cause) → Combines α β r other handed.answer handed.reel
  sum-refuses cause handed is e = rw (is.0, is.1) (sum-refuses_by cause e)

  pub sum-stands : first (combination_causes α β (scans r) (scans other)) ≡ none → Standing (combination α β (scans r) (scans other))
  sum-stands e = sum-standing α β (scans r) (scans other) e (stands r) (stands other)

  pub sum-accepts : (next : Reel) → first (combination_causes α β (scans r) (scans other)) ≡ none →
      scans next ≡ combination α β (scans r) (scans other) → Combines α β r other Answers.Accepted next
  sum-accepts next e is = record {
    replies = sym (sum-replies α β (scans r) (scans other) e);
    leaves = is ∙ sym (sum-leaves α β (scans r) (scans other) e);
    refusal_keeps = λ n q. cc q;
  }
