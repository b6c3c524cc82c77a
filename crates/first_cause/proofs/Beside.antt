-- A knot that is found in place k is scan k, and the knots that are looked for beside it, or their positions, are those
-- of the scans there.
use Rattle.std.specs.Borrow.{Bor}
use Rattle.std.specs.List.{HoldsAt, slice_get}
use Rattle.std.specs.Option.{option_copied, option_map}
use Rattle.std.specs.Prelude.{List, [], ◌≡◌, ℕ, ◌+◌, ◌-◌, ◌≤◌, ◌<◌, length, take, Option as Given, MatchOption}
use Rattle.std.proofs.Common.{arith, sym, ◌∙◌, ap}
use Rattle.std.proofs.Math.ListN.{get_elem?}
use native.Mathlib.Numerals.{add-one}
use Rattle.scans.specs.Scan.{at, before, after}
use Rattle.knot.specs.Machine.{scan, scans}
use Rattle.knot.proofs.Lists.{at_scans}
use Rattle.knot.specs.declared.held.Knot.{Knot}
use Rattle.following.specs.Machine.{neighbour, lying, CloseBefore, CloseAfter}
use Rattle.following.proofs.Neighbours.{own_list, lying_own, near_before, near_after, last_is, got_is}
use Rattle.first_cause.specs.Machine.{CloseBeside}

module _ (knots : List Knot) (k : ℕ) (old : Knot) (here : (k < length knots) × HoldsAt (λ y. old ≡ y) knots k) where
  pub place_is : old.position ≡ (at (scans knots) k).position
  place_is = sym (ap (λ s. s.position) (at_scans knots k old here.0 ∙ ap scan (sym (here.1 old))))

  module _ (left : Given (Bor Knot)) (e : option_copied left ≡ slice_get (take k knots) (length (take k knots) - 1)) where
    pub left_is : neighbour left ≡ before (scans knots) k
    left_is = last_is left knots k (omega (arith, here.0)) e

    pub left_close : (k < length knots → CloseBeside (scans knots) k) → CloseBefore (neighbour left) old.position
    left_close close = rw (left_is, place_is) (close here.0).0

    module _ (l : Given ℕ) (l_is : l ≡ option_map (λ n. n.now.position) left) where
      pub left_lies : lying l (own_list left) ≡ before (scans knots) k
      left_lies = lying_own left l l_is ∙ left_is

      pub left_near : CloseBeside (scans knots) k → CloseBefore (lying l []) old.position
      left_near close = near_before l (own_list left) [] old.position (rw (lying_own left l l_is) (left_close (λ _. close)))

  module _ (right : Given (Bor Knot))
      (h : MatchOption right (length knots ≤ k + 1) (λ n. (k + 1 < length knots) × HoldsAt (λ y. n.now ≡ y) knots (k + 1))) where
    pub right_is : neighbour right ≡ after (scans knots) k
    right_is = got_is right knots (k + 1) h ∙ ap (get_elem? (scans knots)) (add-one k)

    pub right_close : (k < length knots → CloseBeside (scans knots) k) → CloseAfter old.position (neighbour right)
    right_close close = rw (right_is, place_is) (close here.0).1

    module _ (r : Given ℕ) (r_is : r ≡ option_map (λ n. n.now.position) right) where
      pub right_lies : lying r (own_list right) ≡ after (scans knots) k
      right_lies = lying_own right r r_is ∙ right_is

      pub right_near : CloseBeside (scans knots) k → CloseAfter old.position (lying r [])
      right_near close = near_after r (own_list right) [] old.position (rw (lying_own right r r_is) (right_close (λ _. close)))
