-- Request 4/14: the sum of two lists of scans, place by place; that it stands where each scan of it may follow those before it; and its
-- blends, totals and values.
use borrow.Author.Tests.{eqb-true}
use mathlib.Core.Bool.{true}
use mathlib.Core.List.{List, [], ◌∷◌}
use mathlib.Core.Option.{Option, none, some, some-ne-none, some-injective}
use mathlib.Core.Path.{◌≡◌, refl, sym, ◌∙◌, ap, subst}
use Prim.Native.Nat.{ℕ, zero, suc, ◌+◌, ◌*◌, ◌-◌, ◌≤◌, ◌<◌}
use native.Mathlib.Omega.{arith}
use lib.Dec.{eqb}
use lib.IntN.{ℤ, ◌+ℤ◌, ◌*ℤ◌}
use lib.ListN.{length, get_elem?}
use Rattle.integer.proofs.Tests.{both_first, both-second, pairs-counts, pairs_at}
use Rattle.hermite.specs.Polynomial.{◌⊕◌, ◌⊙◌}
use Rattle.rounding.specs.Piece.{m, n, position_unit}
use Rattle.rounding.specs.Size.{Listed}
use Rattle.rounding.specs.Value.{value}
use Rattle.rounding.specs.Water.{total}
use Rattle.rounding.specs.Combination.{CombinedDistance}
use Rattle.rounding.proofs.Combination.{combined-length, combined_piece, coefficients_combine, total-combines, value-combines}
use Rattle.scans.specs.Scan.{Scan, scan_of, grade, gap, at, before}
use Rattle.scans.specs.SizeRule.{append_products, turn_products, first_too_large}
use Rattle.scans.specs.Standing.{Standing}
use Rattle.scans.specs.Pieces.{piece_of, mark, InReel, first_past, piece_at, value_place}
use Rattle.scans.specs.Queries.{value_piece, value_at, total_over}
use Rattle.scans.specs.RefusalTable.{first}
use Rattle.scans.specs.Order.{combination_causes}
use Rattle.scans.specs.Combination.{aligned, all_aligned, combined_scan, combination}
use Rattle.scans.specs.Combined.{Combined, CombinationLaws}
use Rattle.scans.proofs.Lists.{there}
use Rattle.scans.proofs.SizeRule.{large_left, large_right}
use Rattle.scans.proofs.Causes.{Placed}
use Rattle.scans.proofs.Order.{sum_free}
use Rattle.scans.proofs.Standing.{size-follows}
use Rattle.scans.proofs.Pieces.{piece-admitted, value-lies}
use Rattle.scans.proofs.Sums.{sum_from-combines}

-- ---- each knot in turn

-- the scan before place j, where `last` stands before the first
abbrev previous : Option Scan → List Scan → ℕ → Option Scan
previous last scans zero = last
previous last scans (suc j) = get_elem? scans j

turn-from : (k : ℕ) (last : Option Scan) (scans : List Scan) → first_too_large (turn_products k last scans) ≡ none → (j : ℕ) → j < length scans →
    first_too_large (append_products (k + j) (previous last scans j) (at scans j)) ≡ none
turn-from k last [] e j h = absurd (omega arith)
turn-from k last (s ∷ scans) e zero h =
    let here : k + 0 ≡ k = omega arith in
    ap (λ i. first_too_large (append_products i last s)) here ∙ large_left (append_products k last s) (turn_products (suc k) (some s) scans) e
turn-from k last (s ∷ scans) e (suc j) h =
    let there : k + suc j ≡ suc k + j = omega arith in
    ap (λ i. first_too_large (append_products i (get_elem? (s ∷ scans) j) (at scans j))) there ∙ earlier j
    (turn-from (suc k) (some s) scans (large_right (append_products k last s) (turn_products (suc k) (some s) scans) e) j (omega arith))
  where
    earlier : (i : ℕ) → first_too_large (append_products (suc k + i) (previous (some s) scans i) (at scans i)) ≡ none →
        first_too_large (append_products (suc k + i) (get_elem? (s ∷ scans) i) (at scans i)) ≡ none
    earlier zero q = q
    earlier (suc i) q = q

-- where each knot in turn names none, each follows the one before it
turn-each : (scans : List Scan) → first_too_large (turn_products 0 none scans) ≡ none → (k : ℕ) → k < length scans →
    first_too_large (append_products k (before scans k) (at scans k)) ≡ none
turn-each scans e zero h = turn-from 0 none scans e zero h
turn-each scans e (suc k) h = let there : 0 + suc k ≡ suc k = omega arith in
    sym (ap (λ i. first_too_large (append_products i (get_elem? scans k) (at scans (suc k)))) there) ∙ turn-from 0 none scans e (suc k) h

-- ---- place by place

length-combination : (α β : ℤ) (A B : List Scan) → length A ≡ length B → length (combination α β A B) ≡ length A
length-combination α β [] B e = refl
length-combination α β (s ∷ A) [] e = absurd (omega arith)
length-combination α β (s ∷ A) (t ∷ B) e = ap suc (length-combination α β A B (omega arith))

at_combination : (α β : ℤ) (A B : List Scan) → length A ≡ length B → (k : ℕ) → k < length A →
    at (combination α β A B) k ≡ combined_scan α β (at A k) (at B k)
at_combination α β [] B e k h = absurd (omega arith)
at_combination α β (s ∷ A) [] e k h = absurd (omega arith)
at_combination α β (s ∷ A) (t ∷ B) e zero h = refl
at_combination α β (s ∷ A) (t ∷ B) e (suc k) h = at_combination α β A B (omega arith) k (omega arith)

-- ---- the place of a value depends on the positions only

module _ (A B : List Scan) (x : ℕ) where
  first-past-same : (count k c : ℕ) → ((j : ℕ) → j < count → mark B j ≡ mark A j) → k + c < count → first_past B x k c ≡ first_past A x k c
  unfolding first_past
  first-past-same count k zero same h = refl
  first-past-same count k (suc c) same h = rw (same (suc k) (omega arith), first-past-same count (suc k) c same (omega arith)) refl

  place_same : length B ≡ length A → ((j : ℕ) → j < length A → (at B j).position ≡ (at A j).position) → Standing A → InReel A x →
      value_place B x ≡ value_place A x
  place_same e same st within =
      let queries : (j : ℕ) → j < length A → mark B j ≡ mark A j = λ j h. ap (λ y. position_unit * y) (same j h) in
      let there : piece_at A x < length A = omega (arith, (value-lies A st x within).piece) in
      let piece : piece_at B x ≡ piece_at A x = rw e (first-past-same (length A) 0 (length A - 2) queries (omega (arith, within.two))) in
      rw (piece, queries (piece_at A x) there) refl

-- ---- two lists with the same positions and grades

module _ (A B : List Scan) (alike : all_aligned A B ≡ true) where
  pub counts : length A ≡ length B
  counts = pairs-counts aligned A B alike

  scans-aligned : (k : ℕ) → k < length A → aligned (at A k) (at B k) ≡ true
  scans-aligned = pairs_at aligned (scan_of 0 []) A B alike

  pub positions : (k : ℕ) → k < length A → (at B k).position ≡ (at A k).position
  positions k h = sym (eqb-true _ _ (both_first (eqb (at A k).position (at B k).position) _ (scans-aligned k h)))

  pub grades : (k : ℕ) → k < length A → grade (at B k) ≡ grade (at A k)
  grades k h = sym (eqb-true _ _ (both-second (eqb (at A k).position (at B k).position) _ (scans-aligned k h)))

  module _ (k : ℕ) (h : suc k < length A) where
    same_gap : (piece_of B k).h ≡ (piece_of A k).h
    same_gap = rw (positions k (omega arith), positions (suc k) h) refl

    same_left : m (piece_of B k) ≡ m (piece_of A k)
    same_left = grades k (omega arith)

    same-right : n (piece_of B k) ≡ n (piece_of A k)
    same-right = grades (suc k) h

  module _ (α β : ℤ) where
    abbrev C : List Scan
    C = combination α β A B

    pub count_is : length C ≡ length A
    count_is = length-combination α β A B counts

    pub scan_is : (k : ℕ) → k < length A → at C k ≡ combined_scan α β (at A k) (at B k)
    scan_is = at_combination α β A B counts

    pub position_is : (k : ℕ) → k < length A → (at C k).position ≡ (at A k).position
    position_is k h = ap (λ s. s.position) (scan_is k h)

    piece_is : (k : ℕ) → suc k < length A → piece_of C k ≡ combined_piece α β (piece_of A k) (piece_of B k)
    piece_is k h = rw (scan_is k (omega arith), scan_is (suc k) h) refl

    -- ---- its blends, totals and values

    totals_combine : (i j : ℕ) → i ≤ j → j < length A → total_over C i j ≡ α *ℤ total_over A i j +ℤ β *ℤ total_over B i j
    unfolding total_over
    totals_combine i j order last = sum_from-combines α β (λ k. total (piece_of A k)) (λ k. total (piece_of B k)) (λ k. total (piece_of C k)) i (j - i) one
      where
        one : (k : ℕ) → i ≤ k → k < i + (j - i) → total (piece_of C k) ≡ α *ℤ total (piece_of A k) +ℤ β *ℤ total (piece_of B k)
        one k l b =
            let h : suc k < length A = omega arith in
            rw (piece_is k h) (total-combines α β (piece_of A k) (piece_of B k) (same_gap k h) (same_left k h) (same-right k h))

    values_combine : Standing A → (x : ℕ) → InReel A x → CombinedDistance α β (value_piece A x) (value_at A x) (value_at B x) (value_at C x)
    unfolding value_at
    values_combine st x within =
        let k = (value_place A x).k in
        let r = (value_place A x).r in
        let lies = value-lies A st x within in
        let h = lies.piece in
        let its : value_at B x ≡ value (piece_of B k) r = ap (λ p. value (piece_of B p.k) p.r) (place_same A B x (sym counts) positions st within) in
        let sum : value_at C x ≡ value (combined_piece α β (piece_of A k) (piece_of B k)) r =
        ap (λ p. value (piece_of C p.k) p.r) (place_same A C x count_is position_is st within) ∙ ap (λ P. value P r) (piece_is k h) in
        subst (λ v. CombinedDistance α β (value_piece A x) (value_at A x) v (value_at C x)) (sym its)
        (subst (λ w. CombinedDistance α β (value_piece A x) (value_at A x) (value (piece_of B k) r) w) (sym sum)
        (value-combines α β (piece_of A k) (piece_of B k) (same_gap k h) (same_left k h) (same-right k h) r
        (piece-admitted A st k h).gap_at_least lies.within))

    combined : Standing A → Combined α β A B C
    combined st = record {
      blends = λ k i h. rw (piece_is k h) (coefficients_combine α β (piece_of A k) (piece_of B k) (same_gap k h) (same_left k h) (same-right k h) i);
      totals = totals_combine;
      values = values_combine st;
    }

    -- ---- it stands

    listed : {X Y : List ℤ} → Listed X → Listed Y → Listed (α ⊙ X ⊕ β ⊙ Y)
    listed {X} {Y} one other = record {
      at_least = omega (arith, combined-length α β X Y, one.at_least);
      at_most = omega (arith, combined-length α β X Y, one.at_most, other.at_most);
    }

    gap_is : (k : ℕ) → suc k < length A → gap (at C k) (at C (suc k)).position ≡ gap (at A k) (at A (suc k)).position
    gap_is k h = rw (position_is k (omega arith), position_is (suc k) h) refl

    -- each scan's position may follow the one before it
    pub placed_is : Standing A → (k : ℕ) → k < length A → Placed (before C k) (at C k).position
    placed_is st zero h = record {
      position = rw (position_is 0 h) (st.position 0 h);
      above = λ held e. absurd (some-ne-none _ (sym e));
      near = λ held e. absurd (some-ne-none _ (sym e));
    }
    placed_is st (suc k) h =
        let last : (held : Scan) → before C (suc k) ≡ some held → at C k ≡ held =
        λ held e. some-injective (at C k) held (sym (there C k (omega (arith, count_is))) ∙ e) in
        record {
          position = rw (position_is (suc k) h) (st.position (suc k) h);
          above = λ held e. rw (← last held e) (omega (arith, gap_is k h, st.gap_at_least k h));
          near = λ held e. rw (← last held e) (omega (arith, gap_is k h, st.gap_at_most k h));
        }

    combination-standing : Standing A → Standing B → first_too_large (turn_products 0 none C) ≡ none → Standing C
    combination-standing st st' sizes = record {
      count = rw count_is st.count;
      position = λ k h. rw (position_is k (omega (arith, count_is))) (st.position k (omega (arith, count_is)));
      left_grade = λ k h. let b : k < length A = omega (arith, count_is) in
          rw (scan_is k b) (listed (st.left_grade k b) (st'.left_grade k (omega (arith, counts))));
      right_grade = λ k h. let b : k < length A = omega (arith, count_is) in
          rw (scan_is k b) (listed (st.right_grade k b) (st'.right_grade k (omega (arith, counts))));
      gap_at_least = λ k h. rw (gap_is k (omega (arith, count_is))) (st.gap_at_least k (omega (arith, count_is)));
      gap_at_most = λ k h. rw (gap_is k (omega (arith, count_is))) (st.gap_at_most k (omega (arith, count_is)));
      size = size-follows C (turn-each C sizes);
    }

pub combination_laws : CombinationLaws
combination_laws α β A B st alike = combined A B alike α β st

-- ---- where no cause refuses the sum

module _ (α β : ℤ) (A B : List Scan) (accepted : first (combination_causes α β A B) ≡ none) where
  pub accepted-aligned : all_aligned A B ≡ true
  accepted-aligned = (sum_free α β A B accepted).0

  pub sum-standing : Standing A → Standing B → Standing (combination α β A B)
  sum-standing st st' = combination-standing A B accepted-aligned α β st st' (sum_free α β A B accepted).1
