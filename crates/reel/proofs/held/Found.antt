-- What the functions below the reel need of scans that can stand; and what holds of scans where no cause of a call does.
use borrow.Author.Tests.{ltb-false, leb-false, le-leb, lt-leb}
use Rattle.std.specs.Prelude.{List, ◌≡◌, ℕ, zero, suc, ◌+◌, ◌≤◌, ◌<◌, ℤ, pos, length}
use Rattle.std.proofs.Common.{arith, refl}
use Rattle.std.specs.List.{HoldsAt}
use native.Mathlib.Decide.{dec_lt}
use Rattle.std.proofs.Math.Option.{none}
use Rattle.rounding.specs.Limits.{knots_max}
use Rattle.scans.specs.Scan.{Scan, at, before, after}
use Rattle.scans.specs.Standing.{Standing}
use Rattle.scans.specs.RefusalTable.{first}
use Rattle.scans.proofs.Causes.{quiet}
use Rattle.scans.proofs.Lists.{there, past}
use Rattle.scans.proofs.Order.{in_reel}
use Rattle.calls.specs.Calls.{append, correct, value, causes, number, refused, position_of}
use Rattle.chain.specs.Machine.{Reached}
use Rattle.knot.specs.Machine.{scans as scans_in}
use Rattle.knot.proofs.Lists.{length-scans, at_scans}
use Rattle.knot.specs.declared.held.Knot.{Knot}
use Rattle.following.specs.Machine.{CloseBefore, CloseAfter}
use Rattle.first_cause.specs.Machine.{CloseBeside}

module _ (scans : List Scan) (standing : Standing scans) where
  close-before : (k : ℕ) → k < length scans → CloseBefore (before scans k) (at scans k).position
  close-before zero h = tt
  close-before (suc j) h = rw (there scans j (omega arith)) (standing.gap_at_most j h)

  close-after : (k : ℕ) → k < length scans → CloseAfter (at scans k).position (after scans k)
  close-after k h = go (dec_lt (suc k) (length scans))
    where
      go : Dec (suc k < length scans) → CloseAfter (at scans k).position (after scans k)
      go (yes next) = rw (there scans (suc k) next) (standing.gap_at_most k next)
      go (no last) = rw (past scans (suc k) (omega arith)) tt

  -- the scans beside scan k lie at most 16 steps from it
  pub close_beside : (k : ℕ) → k < length scans → CloseBeside scans k
  close_beside k h = (close-before k h, close-after k h)

-- where no cause of a call holds, there is room for one knot more, or a knot k
pub append-room : (scans : List Scan) (x : ℕ) (C : List ℤ) → first (causes (append x C) scans) ≡ none → length scans < knots_max
append-room scans x C e = omega (arith, ltb-false knots_max (length scans + 1) (quiet (causes (append x C) scans) e).0)

pub correct-there : (scans : List Scan) (k : ℕ) (C : List ℤ) → first (causes (correct k C) scans) ≡ none → k < length scans
correct-there scans k C e = leb-false (length scans) k (quiet (causes (correct k C) scans) e).0

-- the position of a knot that is found in place k of these, and 9 where there is none
pub position_there : (knots : List Knot) (k : ℕ) (knot : Knot) → (k < length knots) × HoldsAt (λ y. knot ≡ y) knots k →
    position_of k (scans_in knots) ≡ number (pos knot.position)
unfolding position_of
position_there knots k knot h =
    rw (lt-leb (length (scans_in knots)) k (omega (arith, h.0, length-scans knots)), at_scans knots k knot h.0, ← h.1 knot) refl

pub no_position : (knots : List Knot) (k : ℕ) → length knots ≤ k → position_of k (scans_in knots) ≡ refused 9
unfolding position_of
no_position knots k h = rw (le-leb (length (scans_in knots)) k (omega (arith, length-scans knots))) refl

-- and a query position lies in the reel
pub reached : (knots : List Knot) (scans : List Scan) (x : ℕ) → scans_in knots ≡ scans → Standing scans →
    first (causes (value x) scans) ≡ none → Reached knots x
reached knots scans x are standing e = record { chained = rw are standing; within = rw are (in_reel scans x e) }
