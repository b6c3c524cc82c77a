-- The neighbours that a lent list of knots hands over are those of its scans; and a neighbour's scan lies at its position.
use Rattle.std.proofs.Common.{arith}
use Rattle.std.specs.Borrow.{Bor}
use Rattle.std.specs.List.{HoldsAt, slice_get}
use Rattle.std.specs.Option.{option_copied, option_map}
use Rattle.std.specs.Prelude.{List, [], ◌∷◌, ◌≡◌, ℕ, zero, suc, ◌-◌, ◌≤◌, ◌<◌, length, take, ℤ, Option as Given, Some, None, MatchOption}
use Rattle.std.proofs.Math.Option.{Option, none, some}
use Rattle.std.proofs.Math.ListN.{get_elem?}
use Rattle.std.proofs.Common.{refl, sym, ◌∙◌, ap}
use Rattle.scans.specs.Scan.{Scan, before}
use lib.Seq.{length-take-le}
use Rattle.scans.proofs.Lists.{there, past}
use Rattle.knot.specs.Machine.{scan, scans}
use Rattle.knot.proofs.Lists.{length-scans, at_scans}
use Rattle.knot.specs.declared.held.Knot.{Knot}
use Rattle.following.specs.Machine.{neighbour, lying, CloseBefore, CloseAfter}

-- the scan of a knot, where there is one
abbrev own : Given Knot → Option Scan
own None = none
own (Some k) = some (scan k)

own_of : (r : Given (Bor Knot)) → neighbour r ≡ own (option_copied r)
own_of None = refl
own_of (Some k) = refl

own_at : (knots : List Knot) (i : ℕ) → own (slice_get knots i) ≡ get_elem? (scans knots) i
own_at [] i = refl
own_at (k ∷ knots) zero = refl
own_at (k ∷ knots) (suc i) = own_at knots i

-- its list; with it the scan at a neighbour's position is the neighbour's own
abbrev pub own_list : Given (Bor Knot) → List ℤ
own_list None = []
own_list (Some k) = (scan k.now).coefficients

pub lying_own : (r : Given (Bor Knot)) (p : Given ℕ) → p ≡ option_map (λ k. k.now.position) r → lying p (own_list r) ≡ neighbour r
lying_own None p e = ap (λ o. lying o []) e
lying_own (Some k) p e = ap (λ o. lying o (own_list (Some k))) e

-- how near it is does not depend on its list
pub near_before : (p : Given ℕ) (A B : List ℤ) (x : ℕ) → CloseBefore (lying p A) x → CloseBefore (lying p B) x
near_before None A B x h = h
near_before (Some l) A B x h = h

pub near_after : (p : Given ℕ) (A B : List ℤ) (x : ℕ) → CloseAfter x (lying p A) → CloseAfter x (lying p B)
near_after None A B x h = h
near_after (Some r) A B x h = h

-- the last of the first k knots stands before place k
own_last : (knots : List Knot) (i : ℕ) → i < length knots → own (slice_get (take (suc i) knots) i) ≡ get_elem? (scans knots) i
own_last [] i h = absurd (omega arith)
own_last (x ∷ knots) zero h = refl
own_last (x ∷ knots) (suc i) h = own_last knots i (omega arith)

pub last_is : (r : Given (Bor Knot)) (knots : List Knot) (k : ℕ) → k ≤ length knots →
    option_copied r ≡ slice_get (take k knots) (length (take k knots) - 1) → neighbour r ≡ before (scans knots) k
last_is r knots zero h e = own_of r ∙ ap own e
last_is r knots (suc i) h e =
    let place : length (take (suc i) knots) - 1 ≡ i = omega (arith, length-take-le (suc i) knots h) in
    own_of r ∙ ap own (e ∙ ap (slice_get (take (suc i) knots)) place) ∙ own_last knots i (omega arith)

-- so it is of all of them
pub end_is : (r : Given (Bor Knot)) (knots : List Knot) → option_copied r ≡ slice_get knots (length knots - 1) →
    neighbour r ≡ before (scans knots) (length (scans knots))
end_is r [] e = own_of r ∙ ap own e
end_is r (x ∷ knots) e =
    let place : length (x ∷ knots) - 1 ≡ length knots = omega arith in
    own_of r ∙ ap own (e ∙ ap (slice_get (x ∷ knots)) place) ∙ own_at (x ∷ knots) (length knots) ∙
    ap (get_elem? (scans (x ∷ knots))) (sym (length-scans knots))

-- the knot in a place, where there is one
pub got_is : (r : Given (Bor Knot)) (knots : List Knot) (i : ℕ) →
    MatchOption r (length knots ≤ i) (λ k. (i < length knots) × HoldsAt (λ y. k.now ≡ y) knots i) → neighbour r ≡ get_elem? (scans knots) i
got_is None knots i h = sym (past (scans knots) i (omega (arith, length-scans knots)))
got_is (Some k) knots i h =
    sym (there (scans knots) i (omega (arith, length-scans knots)) ∙ ap some (at_scans knots i k.now h.0 ∙ ap scan (sym (h.1 k.now))))
