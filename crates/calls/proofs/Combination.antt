-- Request 4/14: what a sum answers and hands over, and what the queries answer of it and of the two reels that were added.
use mathlib.Core.Bool.{true}
use mathlib.Core.List.{List}
use mathlib.Core.Option.{Option, none, some}
use mathlib.Core.Path.{◌≡◌, refl, sym, ◌∙◌, ap}
use Prim.Native.Nat.{ℕ, ◌*◌, ◌-◌, ◌<◌}
use native.Mathlib.Decide.{dec_lt}
use native.Mathlib.Omega.{arith}
use lib.IntN.{ℤ, ◌+ℤ◌, ◌*ℤ◌}
use lib.ListN.{length}
use Rattle.rounding.specs.Piece.{position_unit}
use Rattle.rounding.specs.Combination.{CombinedDistance}
use Rattle.scans.specs.Scan.{Scan, at}
use Rattle.scans.specs.Standing.{Standing}
use Rattle.scans.specs.RefusalTable.{first}
use Rattle.scans.specs.Order.{combination_causes}
use Rattle.scans.specs.Combination.{combination, all_aligned}
use Rattle.scans.specs.Combined.{Combined}
use Rattle.scans.specs.Pieces.{mark}
use Rattle.scans.specs.Queries.{value_piece, value_at, total_over}
use Rattle.scans.proofs.Order.{few-query, in_reel, in_range}
use Rattle.scans.proofs.Combination.{counts, positions, count_is, position_is, combination_laws, accepted-aligned}
use Rattle.calls.specs.Calls.{accepted, number, refused, answered, value, causes, reply_to, total}
use Rattle.calls.specs.Combination.{sum_reply, sum_scans, SumValues, SumReplies, all_refuse, all-answer}
use Rattle.calls.proofs.Effects.{answer_is, number-quiet, acceptance_replies}

-- where a cause holds, the answer is the first one's number, and the reel handed over has the first reel's scans
module _ (α β : ℤ) (A B : List Scan) {n : ℕ} (cause : first (combination_causes α β A B) ≡ some n) where
  pub refused-sum-replies : sum_reply α β A B ≡ refused n
  unfolding sum_reply
  refused-sum-replies = rw cause refl

  pub refused-sum-leaves : sum_scans α β A B ≡ A
  unfolding sum_scans
  refused-sum-leaves = rw cause refl

-- where none does, it is accepted, and the reel has the sum's scans
module _ (α β : ℤ) (A B : List Scan) (quiet : first (combination_causes α β A B) ≡ none) where
  pub sum-replies : sum_reply α β A B ≡ accepted
  unfolding sum_reply
  sum-replies = rw quiet refl

  pub sum-leaves : sum_scans α β A B ≡ combination α β A B
  unfolding sum_scans
  sum-leaves = rw quiet refl

pub sum-accepted : (α β : ℤ) (A B : List Scan) → sum_reply α β A B ≡ accepted → first (combination_causes α β A B) ≡ none
unfolding sum_reply
sum-accepted α β A B e = (answer_is (first (combination_causes α β A B)) accepted accepted refl e).0

-- a position that is refused in one list is refused in every list with the same positions
module _ (A S : List Scan) (x : ℕ) (count : length S ≡ length A) (same : (k : ℕ) → k < length A → (at S k).position ≡ (at A k).position) where
  same-refusal : first (causes (value x) S) ≡ first (causes (value x) A)
  same-refusal = go (dec_lt 0 (length A))
    where
      go : Dec (0 < length A) → first (causes (value x) S) ≡ first (causes (value x) A)
      go (yes h) =
          let from : mark S 0 ≡ mark A 0 = ap (λ y. position_unit * y) (same 0 h) in
          let to : mark S (length A - 1) ≡ mark A (length A - 1) = ap (λ y. position_unit * y) (same (length A - 1) (omega arith)) in
          rw (count, from, to) refl
      go (no h) = few-query (length S) _ _ x (omega arith) ∙ sym (few-query (length A) _ _ x (omega arith))

refused_as_well : (o : Option ℕ) (v w : ℤ) {n : ℕ} → answered o (number v) ≡ refused n → answered o (number w) ≡ refused n
refused_as_well none v w e = cc e
refused_as_well (some m) v w e = e

module _ (α β : ℤ) (A B : List Scan) (st : Standing A) (quiet : first (combination_causes α β A B) ≡ none) (x : ℕ) where
  abbrev C : List Scan
  C = combination α β A B

  its-refusal : first (causes (value x) B) ≡ first (causes (value x) A)
  its-refusal = let alike = accepted-aligned α β A B quiet in same-refusal A B x (sym (counts A B alike)) (positions A B alike)

  sum-refusal : first (causes (value x) C) ≡ first (causes (value x) A)
  sum-refusal = let alike = accepted-aligned α β A B quiet in same-refusal A C x (count_is A B alike α β) (position_is A B alike α β)

  refuses_as_well : (S : List Scan) → first (causes (value x) S) ≡ first (causes (value x) A) → {n : ℕ} →
      reply_to (value x) A ≡ refused n → reply_to (value x) S ≡ refused n
  unfolding reply_to
  refuses_as_well S same e = rw same (refused_as_well (first (causes (value x) A)) (value_at A x) (value_at S x) e)

  pub sum-values : SumValues α β (value_piece A x) (reply_to (value x) A) (reply_to (value x) B) (reply_to (value x) C)
  sum-values = record {
    refusals = λ n e. (refuses_as_well B its-refusal e, refuses_as_well C sum-refusal e);
    numbers = λ v e.
        let a = number-quiet (value x) A e in
        let is : value_at A x ≡ v = cc a.1 in
        record {
          v' = value_at B x;
          w = value_at C x;
          other_is = acceptance_replies (value x) B (its-refusal ∙ a.0);
          sum_is = acceptance_replies (value x) C (sum-refusal ∙ a.0);
          distance = rw (← is) ((combination_laws α β A B st (accepted-aligned α β A B quiet)).values x (in_reel A x a.0));
        };
  }

-- where the three lists have the same first cause, or none
replies-are : {Law : ℤ → ℤ → ℤ → Type 0} (o : Option ℕ) (v v' w : ℤ) → (o ≡ none → Law v v' w) →
    SumReplies Law (answered o (number v)) (answered o (number v')) (answered o (number w))
replies-are none v v' w law = all-answer v v' w (law refl)
replies-are (some n) v v' w law = all_refuse n

module _ (α β : ℤ) (A B : List Scan) (st : Standing A) (quiet : first (combination_causes α β A B) ≡ none) where
  abbrev both : List Scan
  both = combination α β A B

  alike : all_aligned A B ≡ true
  alike = accepted-aligned α β A B quiet

  pub sum-combined : Combined α β A B both
  sum-combined = combination_laws α β A B st alike

  pub sum-total-replies : (i j : ℕ) →
      SumReplies (λ t t' w. w ≡ α *ℤ t +ℤ β *ℤ t') (reply_to (total i j) A) (reply_to (total i j) B) (reply_to (total i j) both)
  unfolding reply_to
  sum-total-replies i j = rw (← counts A B alike, count_is A B alike α β)
      (replies-are (first (causes (total i j) A)) (total_over A i j) (total_over B i j) (total_over both i j)
      (λ e. let r = in_range (length A) i j e in sum-combined.totals i j r.order r.last))

  pub sum-value-replies : (x : ℕ) → SumReplies (CombinedDistance α β (value_piece A x)) (reply_to (value x) A) (reply_to (value x) B) (reply_to (value x) both)
  unfolding reply_to
  sum-value-replies x =
      rw (same-refusal A B x (sym (counts A B alike)) (positions A B alike), same-refusal A both x (count_is A B alike α β) (position_is A B alike α β))
      (replies-are (first (causes (value x) A)) (value_at A x) (value_at B x) (value_at both x) (λ e. sum-combined.values x (in_reel A x e)))
