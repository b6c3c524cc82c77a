-- The pieces of a list of scans: whose Taylor coefficients each has, that of scans that stand each is one that a reel can hold, and that every
-- query position in the reel lies at exactly one place, for a value and for a trend.
use borrow.Author.Tests.{eqb-true, eq-eqb, ne_eqb, ltb-true, ltb-false, lt-ltb}
use mathlib.Core.Bool.{Bool, true, false, ◌&&◌, cond, or-true, true≢false}
use mathlib.Core.List.{List}
use mathlib.Core.Path.{◌≡◌, refl, sym, ◌∙◌, ap, ap₂}
use Prim.Native.Nat.{ℕ, zero, suc, ◌+◌, ◌-◌, ◌≤◌, ◌<◌}
use native.Mathlib.Decide.{dec_lt}
use native.Mathlib.Omega.{arith}
use lib.Dec.{eqb, ltb}
use lib.ListN.{length}
use Rattle.integer.proofs.Tests.{both, both_first, both-second, not_yes}
use Rattle.hermite.specs.Blend.{taylor_left, taylor_right}
use Rattle.rounding.specs.Piece.{weight, exact_blend, D}
use Rattle.rounding.specs.Size.{Admitted}
use Rattle.rounding.specs.Taylor.{Taylor}
use Rattle.scans.specs.Scan.{Scan, grade, left_list, right_list, gap, at}
use Rattle.scans.specs.Standing.{Standing}
use Rattle.scans.proofs.Standing.{sized_right, sized_left}
use Rattle.scans.specs.Pieces.{piece_of, mark, InReel, first_past, piece_at, Place, place_in, right_end, is_last, is_inner, is_lone}
use Rattle.scans.specs.Pieces.{value_place, trend_place, Lies, is_last_or_lone}

-- ---- the pieces

-- demand 3, "its Taylor coefficients at both ends of each piece are exactly theirs": the clause of piece k is about scans k and k + 1
module _ (scans : List Scan) (k : ℕ) (clause : Taylor (piece_of scans k)) where
  -- at the left end C_j × h^j of scan k, with the list that serves the piece on its right
  pub left_end : (j : ℕ) → j ≤ grade (at scans k) →
      taylor_left j (exact_blend (piece_of scans k)) ≡ weight (gap (at scans k) (at scans (suc k)).position) (right_list (at scans k)) j
  left_end = clause.at_left

  -- at the right end that of scan k + 1, with the list that serves the piece on its left
  pub right_end_lem : (j : ℕ) → j ≤ grade (at scans (suc k)) →
      taylor_right j (exact_blend (piece_of scans k)) ≡ weight (gap (at scans k) (at scans (suc k)).position) (left_list (at scans (suc k))) j
  right_end_lem = clause.at_right

module _ (scans : List Scan) (st : Standing scans) where
  pub piece-admitted : (k : ℕ) → suc k < length scans → Admitted (piece_of scans k)
  piece-admitted k h = record {
    gap_at_least = st.gap_at_least k h;
    gap_at_most = st.gap_at_most k h;
    left_grade = st.right_grade k (omega arith);
    right_grade = st.left_grade (suc k) h;
    left_size = sized_right scans st k h;
    right_size = sized_left scans st k h;
  }

  -- ---- positions rise

  -- the right end of a piece
  right-mark : (k : ℕ) → suc k < length scans → mark scans k + D (piece_of scans k) ≡ mark scans (suc k)
  right-mark k h = omega (arith, st.gap_at_least k h)

  rises-over : (k l : ℕ) → k < l → l < length scans → mark scans k < mark scans l
  rises-over k zero a h = absurd (omega arith)
  rises-over k (suc l) a h = up (dec_lt k l) (λ b. rises-over k l b (omega arith))
    where
      up : Dec (k < l) → (k < l → mark scans k < mark scans l) → mark scans k < mark scans (suc l)
      up (yes b) old = omega (arith, old b, st.gap_at_least l h)
      up (no b) old = let e : k ≡ l = omega arith in rw e (omega (arith, st.gap_at_least l h))

  rises : (k l : ℕ) → k ≤ l → l < length scans → mark scans k ≤ mark scans l
  rises k l a h = go (dec_lt k l)
    where
      go : Dec (k < l) → mark scans k ≤ mark scans l
      go (yes b) = omega (arith, rises-over k l b h)
      go (no b) = let e : k ≡ l = omega arith in rw e (omega arith)

  -- ---- a query position lies at one place at most, whichever knots belong to the piece on their left

  module _ (to_left : ℕ → Bool) (x : ℕ) (p q : Place) (a : Lies scans to_left x p) (b : Lies scans to_left x q) where
    -- the one place would be the right end of a piece and the other the left end of the next
    not_before : p.k < q.k → ⊥
    not_before h = go (dec_lt (suc p.k) q.k)
      where
        go : Dec (suc p.k < q.k) → ⊥
        go (yes later) = omega (arith, rises-over (suc p.k) q.k later (omega (arith, b.piece)), right-mark p.k a.piece)
        go (no next) =
            let e : suc p.k ≡ q.k = omega arith in
            let met : mark scans p.k + D (piece_of scans p.k) ≡ mark scans q.k = right-mark p.k a.piece ∙ ap (mark scans) e in
            true≢false (sym (a.end (omega arith)) ∙ ap to_left e ∙ b.start (omega arith))

  pub lies-one : (to_left : ℕ → Bool) (x : ℕ) (p q : Place) → Lies scans to_left x p → Lies scans to_left x q → p ≡ q
  lies-one to_left x p q a b = go (dec_lt p.k q.k) (dec_lt q.k p.k)
    where
      go : Dec (p.k < q.k) → Dec (q.k < p.k) → p ≡ q
      go (yes h) d = absurd (not_before to_left x p q a b h)
      go (no h) (yes g) = absurd (not_before to_left x q p b a g)
      go (no h) (no g) =
          let e : p.k ≡ q.k = omega arith in
          let same : mark scans p.k ≡ mark scans q.k = ap (mark scans) e in
          ap₂ (λ (k r : ℕ). record { k = k; r = r }) e (omega arith)

  -- ---- of a value it is the place in the piece that document 01 assigns

  pub lies_in : (x k : ℕ) → suc k < length scans → mark scans k ≤ x → x ≤ mark scans (suc k) →
      (mark scans (suc k) ≤ x → suc (suc k) ≡ length scans) → Lies scans (is_last scans) x (place_in scans x k)
  lies_in x k h f t last =
      let met = right-mark k h in record {
        piece = h;
        distance = omega arith;
        within = omega arith;
        start = λ e. ne_eqb (suc k) (length scans) (λ q. omega arith);
        end = λ e. eq-eqb (suc (suc k)) (length scans) (last (omega arith));
      }

  lies-here : (x k c : ℕ) → suc k < length scans → mark scans k ≤ x →
      (mark scans (suc k) ≤ x → Lies scans (is_last scans) x (place_in scans x c)) →
      (b : Bool) → ltb x (mark scans (suc k)) ≡ b → Lies scans (is_last scans) x (place_in scans x (cond b k c))
  lies-here x k c h f later true q =
      let before : x < mark scans (suc k) = ltb-true x (mark scans (suc k)) q in
      lies_in x k h f (omega arith) (λ g. absurd (omega arith))
  lies-here x k c h f later false q = later (ltb-false x (mark scans (suc k)) q)

  lies-from : (x k c : ℕ) → k + (c + 2) ≡ length scans → mark scans k ≤ x → x ≤ mark scans (length scans - 1) →
      Lies scans (is_last scans) x (place_in scans x (first_past scans x k c))
  unfolding first_past
  lies-from x k zero e f l =
      let end : suc k ≡ length scans - 1 = omega arith in
      lies_in x k (omega arith) f (rw end l) (λ g. omega arith)
  lies-from x k (suc c) e f l =
      lies-here x k (first_past scans x (suc k) c) (omega arith) f (λ g. lies-from x (suc k) c (omega arith) g l) (ltb x (mark scans (suc k))) refl

  pub value-lies : (x : ℕ) → InReel scans x → Lies scans (is_last scans) x (value_place scans x)
  value-lies x i = lies-from x 0 (length scans - 2) (omega (arith, i.two)) i.first i.last

  -- ---- of a trend it is another one at a lone reading

  trend-from : (x k : ℕ) → Lies scans (is_last scans) x (place_in scans x k) → (b : Bool) → (eqb x (mark scans k) && is_lone scans k) ≡ b →
      Lies scans (is_last_or_lone scans) x (cond b (right_end scans (k - 1)) (place_in scans x k))
  trend-from x k a true e =
      let on : x ≡ mark scans k = eqb-true x (mark scans k) (both_first (eqb x (mark scans k)) (is_lone scans k) e) in
      let lone : is_lone scans k ≡ true = both-second (eqb x (mark scans k)) (is_lone scans k) e in
      let first : 0 < k = ltb-true 0 k (both_first (ltb 0 k) _ (both_first (is_inner scans k) _ lone)) in
      let next : suc (k - 1) ≡ k = omega arith in
      let h : suc (k - 1) < length scans = omega (arith, a.piece) in record {
        piece = h;
        distance = right-mark (k - 1) h ∙ ap (mark scans) next ∙ sym on;
        within = omega arith;
        start = λ z. absurd (omega (arith, st.gap_at_least (k - 1) h));
        end = λ z. rw (next, lone) (or-true (is_last scans k));
      }
  trend-from x k a false e = record {
    piece = a.piece;
    distance = a.distance;
    within = a.within;
    start = λ z. rw (a.start z) (rw (eq-eqb x (mark scans k) (omega (arith, a.distance))) at e);
    end = λ z. rw (a.end z) refl;
  }

  pub trend-lies : (x : ℕ) → InReel scans x → Lies scans (is_last_or_lone scans) x (trend_place scans x)
  trend-lies x i = trend-from x (piece_at scans x) (value-lies x i) (eqb x (mark scans (piece_at scans x)) && is_lone scans (piece_at scans x)) refl

  -- ---- at a knot

  pub knot_in_reel : (k : ℕ) → suc k < length scans → InReel scans (mark scans k)
  knot_in_reel k h = record {
    two = omega arith;
    first = rises 0 k (omega arith) (omega arith);
    last = rises k (length scans - 1) (omega arith) (omega arith);
  }

  -- document 01, "An inner knot belongs to the piece on its right": and so does the first one
  pub piece_at_knot : (k : ℕ) → suc k < length scans → piece_at scans (mark scans k) ≡ k
  piece_at_knot k h =
      let x = mark scans k in
      let next : x < mark scans (suc k) = rises-over k (suc k) (omega arith) h in
      ap (λ p. p.k) (lies-one (is_last scans) x (value_place scans x) (place_in scans x k) (value-lies x (knot_in_reel k h))
      (lies_in x k h (omega arith) (omega arith) (λ g. absurd (omega arith))))

-- ---- the place of a trend, by what is known of the knot that starts the piece that document 01 assigns

module _ (scans : List Scan) (x k : ℕ) (assigned : k ≡ piece_at scans x) where
  pub trend-kept : (x ≡ mark scans k → 0 < k → suc k < length scans → grade (at scans k) ≡ 0 → ⊥) → trend_place scans x ≡ place_in scans x k
  trend-kept other = rw (← assigned, not_lone) refl
    where
      not_lone : (eqb x (mark scans k) && is_lone scans k) ≡ false
      not_lone = not_yes (eqb x (mark scans k) && is_lone scans k) (λ e.
          let lone : is_lone scans k ≡ true = both-second (eqb x (mark scans k)) _ e in
          let inner : is_inner scans k ≡ true = both_first (is_inner scans k) _ lone in
          other (eqb-true x (mark scans k) (both_first (eqb x (mark scans k)) _ e)) (ltb-true 0 k (both_first (ltb 0 k) _ inner))
          (ltb-true (suc k) (length scans) (both-second (ltb 0 k) _ inner)) (eqb-true (grade (at scans k)) 0 (both-second (is_inner scans k) _ lone)))

  pub trend_moved : x ≡ mark scans k → 0 < k → suc k < length scans → grade (at scans k) ≡ 0 → trend_place scans x ≡ right_end scans (k - 1)
  trend_moved on first last lone = rw (← assigned, eq-eqb x (mark scans k) on, yes_lone) refl
    where
      yes_lone : is_lone scans k ≡ true
      yes_lone = both (both (lt-ltb 0 k first) (lt-ltb (suc k) (length scans) last)) (eq-eqb (grade (at scans k)) 0 lone)

-- ---- request 3/14 in its own words

-- "Other knots keep the piece they had", and so does every position between knots
pub trend_elsewhere : (scans : List Scan) (x : ℕ) →
    ((k : ℕ) → x ≡ mark scans k → 0 < k → suc k < length scans → grade (at scans k) ≡ 0 → ⊥) → trend_place scans x ≡ value_place scans x
trend_elsewhere scans x other = trend-kept scans x (piece_at scans x) refl (other (piece_at scans x))

-- "where an inner knot has grade 0", the trend is "taken from the piece on the left, at its right end"
pub trend_at_lone : (scans : List Scan) → Standing scans → (k : ℕ) → 0 < k → suc k < length scans → grade (at scans k) ≡ 0 →
    trend_place scans (mark scans k) ≡ right_end scans (k - 1)
trend_at_lone scans st k first last lone = trend_moved scans (mark scans k) k (sym (piece_at_knot scans st k last)) refl first last lone
