-- Knots whose scans can stand: where they lie, and the pieces between two that follow one another.
use mathlib.Core.Bool.{Bool}
use mathlib.Core.List.{List}
use mathlib.Core.Path.{◌≡◌, refl, sym, ◌∙◌, ap}
use Prim.Native.Nat.{ℕ, suc, ◌+◌, ◌*◌, ◌-◌, ◌<◌}
use native.Mathlib.Numerals.{add-one}
use native.Mathlib.Omega.{arith}
use lib.IntN.{ℤ}
use lib.ListN.{length, get_or}
use Rattle.rounding.specs.Piece.{piece}
use Rattle.rounding.specs.Size.{Admitted}
use Rattle.scans.specs.Scan.{Scan, grade, at}
use Rattle.scans.specs.Pieces.{Place, Lies, mark, piece_of, piece_at, trend_place}
use Rattle.scans.proofs.Pieces.{piece-admitted, value-lies, trend-kept, trend_moved}
use Rattle.knot.specs.Machine.{scan, scans}
use Rattle.knot.specs.declared.held.Knot.{Knot}
use Rattle.knot.proofs.Lists.{length-scans, at_scans, scan-grade}
use Rattle.chain.specs.Machine.{Chained, InPiece, Reached}

-- a knot that was read at k
module _ (knots : List Knot) (k : ℕ) (knot : Knot) (read : knot ≡ get_or knots k knot) (h : k < length knots) where
  pub scan_at : at (scans knots) k ≡ scan knot
  scan_at = at_scans knots k knot h ∙ ap scan (sym read)

  pub mark_at : mark (scans knots) k ≡ 256 * knot.position
  mark_at = ap (λ s. 256 * s.position) scan_at

-- two that were read one after the other, and what the functions of a piece are given of them
module _ (knots : List Knot) (k : ℕ) (left right : Knot) (read : left ≡ get_or knots k left) (read_next : right ≡ get_or knots (k + 1) right)
    (inside : suc k < length (scans knots)) (h : ℕ) (p q : List ℤ) (gap : h ≡ right.position - left.position)
    (of_left : p ≡ (scan left).coefficients) (of_right : q ≡ (scan right).coefficients) where
  pub piece_is : piece h p q ≡ piece_of (scans knots) k
  piece_is =
      let first = scan_at knots k left read (omega (arith, length-scans knots)) in
      let second = scan_at knots (k + 1) right read_next (omega (arith, length-scans knots)) in
      rw (gap, of_left, of_right, first, ← add-one k, second) refl

  pub admitted : Chained knots → Admitted (piece h p q)
  admitted chained = rw piece_is (piece-admitted (scans knots) chained k inside)

-- a query position that lies at a place is in its piece, and so far from the start of that
module _ (scans : List Scan) (to_left : ℕ → Bool) (x : ℕ) (place : Place) (lies : Lies scans to_left x place) where
  pub in_piece : InPiece scans place.k x
  in_piece = record { piece = lies.piece; starts = omega (arith, lies.distance); ends = omega (arith, lies.distance, lies.within) }

  pub distance : x - mark scans place.k ≡ place.r
  distance = omega (arith, lies.distance)

-- the piece of a trend, by the knot that starts the one which document 01 assigns
module _ (knots : List Knot) (x k : ℕ) (reached : Reached knots x) (assigned : k ≡ piece_at (scans knots) x) where
  pub inside : suc k < length knots
  inside = omega (arith, assigned, (value-lies (scans knots) reached.chained x reached.within).piece, length-scans knots)

  module _ (start : Knot) (read : start ≡ get_or knots k start) where
    pub trend_left : 0 < k → start.grade ≡ 0 → 256 * start.position ≡ x → k - 1 ≡ (trend_place (scans knots) x).k
    trend_left first lone on =
        let here : k < length knots = omega (arith, inside) in
        sym (ap (λ p. p.k) (trend_moved (scans knots) x k assigned (omega (arith, mark_at knots k start read here)) first
        (omega (arith, inside, length-scans knots))
        (ap grade (scan_at knots k start read here) ∙ scan-grade start ∙ lone)))

    pub trend_here : (0 < k → start.grade ≡ 0 → 256 * start.position ≡ x → ⊥) → k ≡ (trend_place (scans knots) x).k
    trend_here other =
        let here : k < length knots = omega (arith, inside) in
        sym (ap (λ p. p.k) (trend-kept (scans knots) x k assigned (λ on first last lone.
        other first (sym (scan-grade start) ∙ ap grade (sym (scan_at knots k start read here)) ∙ lone) (omega (arith, mark_at knots k start read here)))))
