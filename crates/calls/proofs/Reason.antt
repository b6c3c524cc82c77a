-- Request 6/14: a call and a sum have a reason exactly where the answer is 6, and it names the first product that exceeds the limit.
use borrow.Author.Tests.{eqb-true}
use mathlib.Core.Bool.{Bool, true, false, cond, true≢false}
use mathlib.Core.List.{List, [], ◌∷◌, ◌++◌}
use mathlib.Core.Option.{Option, none, some, some-ne-none, some-injective}
use mathlib.Core.Path.{◌≡◌, refl, sym, ◌∙◌, ap}
use Prim.Native.Nat.{ℕ, ◌+◌, ◌<◌}
use native.Mathlib.Decide.{dec_lt}
use native.Mathlib.Omega.{arith}
use lib.Dec.{eqb}
use lib.IntN.{ℤ}
use lib.ListN.{length, set, length-set}
use Rattle.scans.specs.Scan.{Scan, scan_of, at, before, after}
use Rattle.scans.specs.SizeRule.{Spot, Product, first_too_large}
use Rattle.scans.specs.RefusalTable.{first, too_many, no_knot, bad_size, unlike_reels, bad_multiplier, list_causes, position_causes, size_causes}
use Rattle.scans.specs.Reason.{reason, First}
use Rattle.scans.specs.Combination.{all_aligned, combination}
use Rattle.scans.specs.Order.{combination_causes}
use Rattle.scans.proofs.Reason.{others, others-passed, size_six, first-named}
use Rattle.scans.proofs.Order.{no_knot_lem}
use Rattle.scans.proofs.Tied.{AllTied, named-breaks, size_tied, turns_tied, appended_tied}
use Rattle.block.specs.Reading.{list_of}
use Rattle.block.proofs.Reason.{block_six}
use Rattle.block.proofs.View.{view_six}
use Rattle.calls.specs.Calls.{Call, clear, append, correct, read, write, value, trend, total, corrected, causes, changed, says}
use Rattle.calls.specs.Calls.{Reply, accepted, refused, answered, reply_to}
use Rattle.calls.specs.Combination.{sum_reply}
use Rattle.calls.specs.Reason.{tested, sum_tested, reason_for, sum_reason, Reasoned, ReasonLaws}
use Rattle.calls.proofs.Standing.{at_set, products_stay}

-- ---- of any answer and any products

module _ (products : List Product) (would : List Scan) where
  reason-first : (refusal : Option ℕ) (spot : Spot) → reason refusal products ≡ some spot → first_too_large products ≡ some spot
  reason-first none spot e = absurd (some-ne-none _ (sym e))
  reason-first (some n) spot e = go (eqb n 6) e
    where
      go : (b : Bool) → cond b (first_too_large products) none ≡ some spot → first_too_large products ≡ some spot
      go true q = q
      go false q = absurd (some-ne-none _ (sym q))

  reason_six : (refusal : Option ℕ) (spot : Spot) → reason refusal products ≡ some spot → refusal ≡ some 6
  reason_six none spot e = absurd (some-ne-none _ (sym e))
  reason_six (some n) spot e = go (eqb n 6) refl e
    where
      go : (b : Bool) → eqb n 6 ≡ b → cond b (first_too_large products) none ≡ some spot → some n ≡ some 6
      go true six q = ap some (eqb-true n 6 six)
      go false six q = absurd (some-ne-none _ (sym q))

  reason_otherwise : (refusal : Option ℕ) (reply : Reply) → (answered refusal reply ≡ refused 6 → ⊥) → reason refusal products ≡ none
  reason_otherwise none reply other = refl
  reason_otherwise (some n) reply other = go (eqb n 6) refl
    where
      go : (b : Bool) → eqb n 6 ≡ b → cond b (first_too_large products) none ≡ none
      go true e = absurd (other (ap refused (eqb-true n 6 e)))
      go false e = refl

  reason_of_six : (refusal : Option ℕ) (reply : Reply) → (reply ≡ refused 6 → ⊥) → (refusal ≡ some 6 → first_too_large products ≡ none → ⊥) →
      answered refusal reply ≡ refused 6 → reason refusal products ≡ none → ⊥
  reason_of_six none reply says there e q = says e
  reason_of_six (some n) reply says there e q =
      let six : n ≡ 6 = cc in
      there (ap some six) (sym (ap (λ m. reason (some m) products) six) ∙ q)

  reasoned : (refusal : Option ℕ) (reply : Reply) → (reply ≡ refused 6 → ⊥) → (refusal ≡ some 6 → AllTied would products) →
      (refusal ≡ some 6 → first_too_large products ≡ none → ⊥) → Reasoned products would (answered refusal reply) (reason refusal products)
  reasoned refusal reply says tied there = record {
    names = named;
    breaks = λ spot e. named-breaks would products spot (tied (reason_six refusal spot e)) (named spot e);
    of_six = reason_of_six refusal reply says there;
    of_nothing_else = reason_otherwise refusal reply;
  }
    where
      named : (spot : Spot) → reason refusal products ≡ some spot → First products spot
      named spot e = first-named products spot (reason-first refusal spot e)

-- ---- no call that is accepted answers a refusal

accepted_not : accepted ≡ refused 6 → ⊥
accepted_not e = let z : ◌≡◌ {A = ℕ} 0 1 = cc in omega arith

says_no_refusal : (call : Call) (scans : List Scan) → says call scans ≡ refused 6 → ⊥
says_no_refusal clear scans e = accepted_not e
says_no_refusal (append x C) scans e = accepted_not e
says_no_refusal (correct k C) scans e = accepted_not e
says_no_refusal (read bytes) scans e = accepted_not e
says_no_refusal (write out) scans e = let z : ◌≡◌ {A = ℕ} 0 1 = cc in omega arith
says_no_refusal (value x) scans e = let z : ◌≡◌ {A = ℕ} 0 1 = cc in omega arith
says_no_refusal (trend x) scans e = let z : ◌≡◌ {A = ℕ} 0 1 = cc in omega arith
says_no_refusal (total i j) scans e = let z : ◌≡◌ {A = ℕ} 0 1 = cc in omega arith

-- ---- each product of a call is that of a knot of the list as the call would leave it

corrected_tied : (k : ℕ) (C : List ℤ) (scans : List Scan) → k < length scans → AllTied (changed (correct k C) scans) (tested (correct k C) scans)
corrected_tied k C scans h =
    let s = corrected scans k C in
    rw (at_set scans k s refl h, products_stay scans k s refl h k s) at (size_tied (set scans k s) k (omega (arith, length-set scans k s)))

call_tied : (call : Call) (scans : List Scan) → first (causes call scans) ≡ some 6 → AllTied (changed call scans) (tested call scans)
call_tied clear scans six = tt
call_tied (append x C) scans six = appended_tied scans (scan_of x C)
call_tied (correct k C) scans six = corrected_tied k C scans (there (dec_lt k (length scans)))
  where
    there : Dec (k < length scans) → k < length scans
    there (yes h) = h
    there (no h) =
        let nine = no_knot_lem k (length scans) (before scans k) (at scans k).position (after scans k) C (omega arith) in
        absurd (omega (arith, some-injective 9 6 (sym nine ∙ six)))
call_tied (read bytes) scans six = turns_tied (list_of bytes)
call_tied (write out) scans six = tt
call_tied (value x) scans six = tt
call_tied (trend x) scans six = tt
call_tied (total i j) scans six = tt

sum_tied : (α β : ℤ) (A B : List Scan) → AllTied (combination α β A B) (sum_tested α β A B)
sum_tied α β A B = turns_tied (combination α β A B)

-- ---- where the first cause is 6, a product is too large

call_six : (call : Call) (scans : List Scan) → first (causes call scans) ≡ some 6 → first_too_large (tested call scans) ≡ none → ⊥
call_six clear scans six kept = some-ne-none _ (sym six)
call_six (append x C) scans six kept =
    let last = before scans (length scans) in
    size_six _ (others-passed (too_many (length scans + 1) ∷ list_causes (length C) ++ position_causes last x) (size_causes (length scans) last (scan_of x C))
    (refl, (refl, (refl, (refl, tt)))) six) kept
call_six (correct k C) scans six kept =
    size_six _ (others-passed (no_knot k (length scans) ∷ list_causes (length C)) (bad_size (first_too_large (tested (correct k C) scans)) ∷ [])
    (refl, (refl, tt)) six) kept
call_six (read bytes) scans six kept = block_six bytes six kept
call_six (write out) scans six kept = true≢false (others (causes (write out) scans) (refl, tt) six)
call_six (value x) scans six kept = true≢false (others (causes (value x) scans) (refl, (refl, tt)) six)
call_six (trend x) scans six kept = true≢false (others (causes (trend x) scans) (refl, (refl, tt)) six)
call_six (total i j) scans six kept = true≢false (others (causes (total i j) scans) (refl, (refl, tt)) six)

call-reasoned : (call : Call) (scans : List Scan) → Reasoned (tested call scans) (changed call scans) (reply_to call scans) (reason_for call scans)
unfolding reply_to reason_for
call-reasoned call scans =
    reasoned (tested call scans) (changed call scans) (first (causes call scans)) (says call scans) (says_no_refusal call scans) (call_tied call scans)
    (call_six call scans)

sum-reasoned : (α β : ℤ) (A B : List Scan) → Reasoned (sum_tested α β A B) (combination α β A B) (sum_reply α β A B) (sum_reason α β A B)
unfolding sum_reply sum_reason
sum-reasoned α β A B =
    reasoned (sum_tested α β A B) (combination α β A B) (first (combination_causes α β A B)) accepted accepted_not (λ six. sum_tied α β A B)
    (λ six. size_six _ (others-passed (bad_multiplier α ∷ bad_multiplier β ∷ unlike_reels (all_aligned A B) ∷ [])
    (bad_size (first_too_large (sum_tested α β A B)) ∷ []) (refl, (refl, (refl, tt))) six))

pub reason_laws : ReasonLaws
reason_laws = record { calls = call-reasoned; sums = sum-reasoned; views = view_six }
