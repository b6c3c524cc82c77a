-- The pair of a turn is that of the next piece, and the totals of all of them fit.
use Rattle.std.proofs.Common.{◌≡◌, ℕ, ℤ, suc, pos, ◌+◌, ◌-◌, ◌^◌, ◌≤◌, ◌<◌, ◌+ℤ◌, List}
use Rattle.std.proofs.Common.{length, get_or, take, drop, arith, rules, to_z, of_z, w64, ap, ap₂, sym, ◌∙◌}
use Rattle.std.proofs.lemmas.Iterator.{window_more}
use Rattle.std.proofs.lemmas.List.{get_or-take, get_or-drop, length-take-le, length-drop}
use Rattle.std.specs.Slice.Iter.{windows_rest}
use native.Mathlib.Nat.{mul-le-mul_right}
use lib.Dec.{lit<}
use lib.Signed.{mag}
use mir.Val.{SFits}
use mir.Facts.{to_z-of_z}
use Rattle.integer.specs.Within.{Within}
use Rattle.integer.proofs.Within.{within_more, within-fits, result_is}
use Rattle.rounding.specs.Piece.{Piece}
use Rattle.rounding.specs.Water.{total}
use Rattle.rounding.proofs.Fits.{total-within}
use Rattle.knot.specs.Machine.{scans}
use Rattle.knot.specs.declared.held.Knot.{Knot}
use Rattle.knot.proofs.Lists.{length-scans}
use Rattle.scans.specs.Scan.{Scan}
use Rattle.scans.specs.Standing.{Standing}
use Rattle.scans.specs.Pieces.{piece_of}
use Rattle.scans.specs.Queries.{total_over}
use Rattle.scans.proofs.Pieces.{piece-admitted}
use Rattle.scans.proofs.Sums.{sum-within, total_none, total-next}
use Rattle.chain.proofs.Knots.{piece_is, admitted}
use Rattle.chain.proofs.queries.total.Goals as goal

-- ---- totals

totals-within : (all : List Scan) → Standing all → (i j : ℕ) → i ≤ j → j < length all → Within (2 ^ 61) (total_over all i j)
unfolding total_over
totals-within all st i j h b =
    within_more (mul-le-mul_right (2 ^ 54) few) (sum-within _ (2 ^ 54) i (j - i)
    (λ k l g. total-within (piece_of all k) (piece-admitted all st k (omega arith))))
  where
    few : j - i ≤ 128
    few = omega (arith, st.count)

-- ---- one piece more: sum is that of pieces i to k − 1, and r the total of piece k

module _ (all : List Scan) (i k : ℕ) (from : i ≤ k) (inside : suc k < length all) where
  more : (P : Piece) → P ≡ piece_of all k → (sum r : ℤ) → sum ≡ total_over all i k → mag r < 2 ^ 63 → r ≡ total P →
      sum +ℤ to_z w64 (of_z w64 r) ≡ total_over all i (suc k)
  more P same sum r is held ensures = ap₂ (λ a b. a +ℤ b) is (result_is r held ∙ ensures ∙ ap total same) ∙ sym (total-next all i k from)

  fits : Standing all → SFits w64 (total_over all i (suc k))
  fits st = within-fits w64 _ (lit< tt) (totals-within all st i (suc k) (omega arith) inside)

-- ---- the pair of a turn: of the knots from i to j `passed` have come before it

abbrev between : List Knot → ℕ → ℕ → List Knot
between knots i j = take (j + 1 - i) (drop i knots)

record Pair (knots : List Knot) (k : ℕ) (left right : Knot) : Type 0 where
  inside : suc k < length (scans knots)
  left_is : left ≡ get_or knots k left
  right_is : right ≡ get_or knots (k + 1) right

module _ (knots : List Knot) (i j : ℕ) (order : i ≤ j) (last : j < length knots) where
  count : length (between knots i j) ≡ j + 1 - i
  count = length-take-le (j + 1 - i) (drop i knots) (omega (arith, length-drop i knots))

  knot_at : (k : ℕ) (d : Knot) → k < length (between knots i j) → get_or (between knots i j) k d ≡ get_or knots (i + k) d
  knot_at k d h = get_or-take (j + 1 - i) (drop i knots) k d (omega (arith, count)) ∙ get_or-drop i knots k d

  module _ (rest passed : ℕ) (is : passed + rest ≡ length (between knots i j)) (more : 2 ≤ rest) (window : List Knot)
      (at : (k : ℕ) (d : Knot) → k < 2 → get_or window k d ≡ get_or (between knots i j) (passed + k) d) where
    pair : (left right : Knot) → left ≡ get_or window 0 left → right ≡ get_or window 1 right → Pair knots (i + passed) left right
    pair left right e f =
        let first : i + (passed + 0) ≡ i + passed = omega arith in
        let next : i + (passed + 1) ≡ i + passed + 1 = omega arith in
        record {
          inside = omega (arith, count, length-scans knots);
          left_is = e ∙ at 0 left (omega arith) ∙ knot_at (passed + 0) left (omega arith) ∙ ap (λ k. get_or knots k left) first;
          right_is = f ∙ at 1 right (omega arith) ∙ knot_at (passed + 1) right (omega arith) ∙ ap (λ k. get_or knots k right) next;
        }

  -- at the start none has
  whole : (rest : List Knot) → rest ≡ between knots i j → rest ≡ drop (length (between knots i j) - length rest) (between knots i j)
  whole rest e = let none : length (between knots i j) - length rest ≡ 0 = omega (arith, ap length e) in rw none e

  none_yet : (rest : ℕ) → rest ≡ length (between knots i j) → pos 0 ≡ total_over (scans knots) i (i + (length (between knots i j) - rest))
  none_yet rest e = let none : i + (length (between knots i j) - rest) ≡ i = omega arith in rw none (sym (total_none (scans knots) i))

-- the knot that a turn's pair begins with
abbrev at_turn : goal.After-list-in-loop-pair → ℕ
at_turn c = c.args.i + (length (between c.args.knots.now c.args.i c.args.j) - length (windows_rest c.loop-pair.pair-iterator))

-- what a turn has read
turn : (c : goal.After-list-in-loop-pair) → Pair c.args.knots.now (at_turn c) c.index-pair-0.result c.index-pair-1.result
turn c =
    let all = between c.args.knots.now c.args.i c.args.j in
    let rest = length (windows_rest c.loop-pair.pair-iterator) in
    let v = c.loop-pair.invariant in
    let h = window_more all c.loop-pair.pair-iterator c.next.new.self _ _ c.in-Some.is c.next.ensures.steps (omega (arith, v.size)) v.most v.rest in
    pair c.args.knots.now c.args.i c.args.j c.requires.1 c.requires.2 rest (length all - rest) (omega (arith, v.most)) (omega (arith, h.2, v.size))
    c.in-Some.pair.now (λ k d b. h.3 k d (omega (arith, v.size, b))) _ _ c.index-pair-0.is c.index-pair-1.is

-- and what it adds
added : (c : goal.After-total-sum) →
    to_z w64 c.loop-pair.sum-bits +ℤ to_z w64 (of_z w64 c.total-sum.result) ≡ total_over (scans c.args.knots.now) c.args.i (suc (at_turn c.before))
added c =
    let p = turn c.before in
    more (scans c.args.knots.now) c.args.i _ (omega arith) p.inside _
    (piece_is c.args.knots.now _ _ _ p.left_is p.right_is p.inside _ _ _ c.gap.ensures c.list.ensures c.list-in-loop-pair.ensures)
    _ c.total-sum.result c.loop-pair.invariant.sum c.total-sum.type_inv c.total-sum.ensures

sum_fits : (c : goal.After-total-sum) → SFits w64 (to_z w64 c.loop-pair.sum-bits +ℤ to_z w64 (of_z w64 c.total-sum.result))
sum_fits c = rw (added c) (fits (scans c.args.knots.now) c.args.i _ (omega arith) (turn c.before).inside c.requires.0)

pub loop-pair-init : goal.loop-pair-init
loop-pair-init c =
    let rest = windows_rest c.into_iter-pair-iterator.result in
    let all = between c.args.knots.now c.args.i c.args.j in
    let is : rest ≡ all = search rules in
    record {
      size = search rules;
      least = omega (arith, ap length is, count c.args.knots.now c.args.i c.args.j c.requires.1 c.requires.2);
      most = search rules;
      rest = whole c.args.knots.now c.args.i c.args.j c.requires.1 c.requires.2 rest is;
      sum = none_yet c.args.knots.now c.args.i c.args.j c.requires.1 c.requires.2 (length rest) (ap length is);
    }

pub total-sum-requires : goal.total-sum-requires
total-sum-requires c =
    let p = turn c in
    admitted c.args.knots.now _ _ _ p.left_is p.right_is p.inside _ _ _ c.gap.ensures c.list.ensures c.list-in-loop-pair.ensures c.requires.0

pub overflow_add-sum : goal.overflow_add-sum
overflow_add-sum = sum_fits

pub loop-pair-preserved : goal.loop-pair-preserved
loop-pair-preserved c =
    let all = between c.args.knots.now c.args.i c.args.j in
    let v = c.loop-pair.invariant in
    let h = window_more all c.loop-pair.pair-iterator c.next.new.self _ _ c.in-Some.is c.next.ensures.steps (omega (arith, v.size)) v.most v.rest in
    let one : suc (at_turn c.before) ≡ c.args.i + (length all - length (windows_rest c.next.new.self)) = omega (arith, h.0, v.most) in
    record {
      size = search rules;
      least = omega (arith, h.0, h.2, v.size);
      most = omega (arith, h.0, v.most);
      rest = h.1;
      sum = to_z-of_z {w = w64} (sum_fits c) ∙ added c ∙ ap (total_over (scans c.args.knots.now) c.args.i) one;
    }
