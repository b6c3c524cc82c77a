-- The distance of a value: it lies within m+n+1 of 65,536 × the exact blend.
use mathlib.Core.Path.{refl, sym}
use Prim.Native.Nat.{ℕ, ◌*◌, ◌-◌, ◌≤◌, ◌<◌}
use native.Mathlib.Omega.{arith}
use lib.IntN.{pos, ◌*ℤ◌}
use Rattle.hermite.specs.Polynomial.{at}
use Rattle.hermite.specs.Blend.{right_weights}
use Rattle.hermite.specs.HalfSum.{value_unit, unrounded}
use Rattle.hermite.proofs.HalfSum.{blend-value}
use Rattle.rounding.specs.Piece.{Piece, m, n, p, q, D, exact_blend}
use Rattle.rounding.specs.HalfSum.{half_sum}
use Rattle.rounding.specs.Value.{N, value, value_error, ValueDistance}
use Rattle.rounding.proofs.Distance.Near.{Near, near_as, near-sum}
use Rattle.rounding.proofs.Distance.HalfSum.{near-half_sum}

pub value-distance : (P : Piece) (r : ℕ) → 0 < P.h → r ≤ D P → ValueDistance P r (value P r)
unfolding value value_error exact_blend
value-distance P r long b = omega (arith, near.twice)
  where
    left : Near (D P) (N P) (N P) (unrounded (m P) (n P) r (D P) (p P)) (half_sum (m P) (n P) r (D P) (p P))
    left = near_as (omega arith) (omega arith) refl (near-half_sum (D P) (omega arith) (m P) (n P) r (p P) b)

    right : Near (D P) (N P) (N P) (unrounded (n P) (m P) (D P - r) (D P) (right_weights (q P))) (half_sum (n P) (m P) (D P - r) (D P) (right_weights (q P)))
    right = near_as (omega arith) (omega arith) refl (near-half_sum (D P) (omega arith) (n P) (m P) (D P - r) (right_weights (q P)) (omega arith))

    -- the two half-sums make 2(m+n+1) scalings
    near : Near (D P) (N P) (2 * N P) (pos value_unit *ℤ at r (D P) (N P) (exact_blend P)) (value P r)
    near = near_as refl (omega arith) (sym (blend-value r (D P) b (m P) (n P) (p P) (q P))) (near-sum left right)
