-- The inner knots rise, so those that are not after x come first; and behind them starts the first piece that ends after x.
use Rattle.std.proofs.Common.{◌≡◌, ℕ, suc, zero, ◌+◌, ◌-◌, ◌*◌, ◌≤◌, ◌<◌, List, [], ◌∷◌, length, get_or, take, drop}
use Rattle.std.proofs.Common.{arith, rules, leb, true, false, ap, refl, ◌∙◌, add-one}
use Rattle.std.specs.List.Sorted.{IsNonDecreasingBy, IsPartitionPoint}
use Rattle.std.proofs.lemmas.Bool.{leb-true, leb-false}
use Rattle.std.proofs.lemmas.Grind.{get_or_after_one}
use Rattle.std.proofs.lemmas.List.{get_or-take, length-take-le, length-drop}
use Rattle.std.proofs.lemmas.List.Sorted.{IsPartitionPoint-from_clause, IsPartitionedBy-leb, IsNonDecreasingBy-from_all_adjacent}
use native.Mathlib.Decide.{dec_lt}
use Rattle.knot.specs.Machine.{scans}
use Rattle.knot.specs.declared.held.Knot.{Knot}
use Rattle.knot.proofs.Lists.{length-scans, at_scans}
use Rattle.scans.specs.Pieces.{piece_at, place_in, value_place, mark, is_last, Lies}
use Rattle.scans.proofs.Pieces.{lies_in, lies-one, value-lies}
use Rattle.chain.specs.Machine.{Reached}
use Rattle.chain.proofs.place.piece_at.Goals as goal

abbrev inner : List Knot → List Knot
inner knots = take (length knots - 1 - 1) (drop 1 knots)

abbrev place : Knot → ℕ
place k = 256 * k.position

module _ (knots : List Knot) (x : ℕ) (reached : Reached knots x) where
  inner_count : length (inner knots) ≡ length knots - 2
  inner_count = omega (arith, length-take-le (length knots - 1 - 1) (drop 1 knots), length-drop 1 knots)

  inner_is : (d : Knot) (k : ℕ) → k < length (inner knots) → get_or (inner knots) k d ≡ get_or knots (suc k) d
  inner_is d k h =
      let next : 1 + k ≡ suc k = omega arith in
      get_or-take (length knots - 1 - 1) (drop 1 knots) k d (omega (arith, inner_count)) ∙ get_or_after_one knots k d ∙ ap (λ j. get_or knots j d) next

  inner_mark : (d : Knot) (k : ℕ) → k < length (inner knots) → mark (scans knots) (suc k) ≡ place (get_or (inner knots) k d)
  inner_mark d k h = rw (inner_is d k h) (ap (λ s. 256 * s.position) (at_scans knots (suc k) d (omega (arith, inner_count))))

  rising : IsNonDecreasingBy place (inner knots)
  rising = IsNonDecreasingBy-from_all_adjacent place (inner knots) (λ k d h.
      let b : suc (suc k) < length (scans knots) = omega (arith, inner_count, length-scans knots) in
      rw add-one (omega (arith, inner_mark d k (omega arith), inner_mark d (suc k) (omega arith), reached.chained.gap_at_least (suc k) b)))

  module _ (d : Knot) (i : ℕ) (bound : i ≤ length (inner knots))
      (point : IsPartitionPoint (λ k. leb (place k) x ≡ true) (λ k. leb (place k) x ≡ false) (inner knots) i) where
    starts : (j : ℕ) → i ≡ j → mark (scans knots) j ≤ x
    starts zero e = reached.within.first
    starts (suc j) e =
        let h : j < length (inner knots) = omega arith in
        rw (inner_mark d j h) (leb-true (place (get_or (inner knots) j d)) x (point.0 j d (omega arith) (omega arith)))

    after : i < length (inner knots) → x < mark (scans knots) (suc i)
    after h = rw (inner_mark d i h) (leb-false (place (get_or (inner knots) i d)) x (point.1 i d (omega arith) h))

    ends : (i < length (inner knots) → ⊥) → suc i ≡ length (scans knots) - 1
    ends h = omega (arith, inner_count, length-scans knots, reached.within.two)

    lies : Dec (i < length (inner knots)) → Lies (scans knots) (is_last (scans knots)) x (place_in (scans knots) x i)
    lies (yes h) =
        let later = after h in
        lies_in (scans knots) reached.chained x i (omega (arith, inner_count, length-scans knots)) (starts i refl) (omega arith) (λ g. absurd (omega arith))
    lies (no h) =
        let last = ends h in
        let two = reached.within.two in
        lies_in (scans knots) reached.chained x i (omega arith) (starts i refl) (rw last reached.within.last) (λ g. omega arith)

    assigned : i ≡ piece_at (scans knots) x
    assigned =
        ap (λ p. p.k) (lies-one (scans knots) reached.chained (is_last (scans knots)) x (place_in (scans knots) x i) (value_place (scans knots) x)
        (lies (dec_lt i (length (inner knots)))) (value-lies (scans knots) reached.chained x reached.within))

-- there is a knot
found : (knots : List Knot) (x : ℕ) (reached : Reached knots x) (i : ℕ) → i ≤ length (inner knots) →
    IsPartitionPoint (λ k. leb (place k) x ≡ true) (λ k. leb (place k) x ≡ false) (inner knots) i → i ≡ piece_at (scans knots) x
found [] x reached i bound point = absurd (omega (arith, reached.within.two))
found (d ∷ knots) x reached i bound point = assigned (d ∷ knots) x reached d i bound point

pub returns : goal.returns
returns c =
    let knots = c.args.knots.now in
    let point = IsPartitionPoint-from_clause (λ k. leb (place k) c.args.x) (inner knots) c.partition_point.result c.partition_point.ensures.partitioned
    (IsPartitionedBy-leb place (inner knots) c.args.x (rising knots c.args.x c.requires)) (λ a r q k. search rules) in
    found knots c.args.x c.requires c.partition_point.result c.partition_point.ensures.bound point
