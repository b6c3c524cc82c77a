-- Demand 1: an append, a correct and a sum are accepted exactly when what they would leave can stand.
use borrow.Author.Tests.{ltb-false, leb-false, lt-leb}
use mathlib.Core.List.{List}
use mathlib.Core.Logic.{◌↔◌}
use mathlib.Core.Option.{none}
use mathlib.Core.Path.{◌≡◌, refl, sym, ap}
use Prim.Native.Nat.{ℕ, ◌<◌}
use native.Mathlib.Omega.{arith}
use lib.IntN.{ℤ, nat_abs}
use lib.ListN.{length, set, length-set}
use Rattle.rounding.specs.Limits.{multiplier_max}
use Rattle.scans.specs.Scan.{Scan}
use Rattle.scans.specs.SizeRule.{is_found}
use Rattle.scans.specs.RefusalTable.{first}
use Rattle.scans.specs.Standing.{Standing}
use Rattle.scans.specs.Order.{combination_causes}
use Rattle.scans.proofs.Causes.{quiet, silent, list_passes}
use Rattle.scans.proofs.Combination.{counts, positions, grades, accepted-aligned, sum-standing}
use Rattle.scans.proofs.Acceptance.{append_passes, sum_passes}
use Rattle.calls.specs.Calls.{clear, append, correct, corrected, accepted, causes, changed, reply_to}
use Rattle.calls.specs.Acceptance.{SumNeeds, AcceptanceLaws}
use Rattle.calls.proofs.Effects.{acceptance_replies, accepted-quiet}
use Rattle.calls.proofs.Standing.{at_set, products_stay, changed-standing}
use Rattle.calls.proofs.Combination.{sum-replies, sum-accepted}

-- 9, 3, 6
correct_passes : (k : ℕ) (C : List ℤ) (scans : List Scan) → k < length scans → Standing (changed (correct k C) scans) →
    first (causes (correct k C) scans) ≡ none
correct_passes k C scans h st =
    let s : Scan = corrected scans k C in
    let b : k < length (set scans k s) = omega (arith, length-set scans k s) in
    let own = at_set scans k s refl h in
    let size = rw (own, products_stay scans k s refl h k s) at (st.size k b) in
    silent (causes (correct k C) scans)
    (lt-leb (length scans) k h, (list_passes C (rw own at (st.left_grade k b)), (ap is_found size, tt)))

correct-accepted : (k : ℕ) (C : List ℤ) (scans : List Scan) → Standing scans →
    reply_to (correct k C) scans ≡ accepted ↔ (k < length scans) × Standing (changed (correct k C) scans)
correct-accepted k C scans st = (
  λ e. let q = accepted-quiet (correct k C) scans e in
      (leb-false (length scans) k (quiet (causes (correct k C) scans) q).0, changed-standing (correct k C) scans st q),
  λ p. acceptance_replies (correct k C) scans (correct_passes k C scans p.0 p.1),
)

summable : (α β : ℤ) (A B : List Scan) → Standing A → Standing B → first (combination_causes α β A B) ≡ none → SumNeeds α β A B
summable α β A B st st' e =
    let q = quiet (combination_causes α β A B) e in
    let alike = accepted-aligned α β A B e in
    record {
      alpha = ltb-false multiplier_max (nat_abs α) q.0;
      beta = ltb-false multiplier_max (nat_abs β) q.1.0;
      counts = counts A B alike;
      positions = λ k h. sym (positions A B alike k h);
      grades = λ k h. sym (grades A B alike k h);
      stands = sum-standing α β A B e st st';
    }

pub acceptance_laws : AcceptanceLaws
acceptance_laws = record {
  clears = λ scans. acceptance_replies clear scans refl;
  appends = λ x C scans st. (
    λ e. changed-standing (append x C) scans st (accepted-quiet (append x C) scans e),
    λ after. acceptance_replies (append x C) scans (append_passes scans x C after),
  );
  corrects = correct-accepted;
  sums = λ α β A B st st'. (
    λ e. summable α β A B st st' (sum-accepted α β A B e),
    λ s. sum-replies α β A B (sum_passes α β A B s.counts s.alpha s.beta s.positions s.grades s.stands),
  );
}
