-- Y1 − Y2 + Y3 beside its unrounded self: 3(m+n) scalings.
use mathlib.Core.Path.{refl}
use Prim.Native.Nat.{ℕ, zero, suc, ◌+◌, ◌*◌, ◌-◌, ◌^◌, ◌≤◌, ◌<◌}
use native.Mathlib.Omega.{arith}
use lib.IntN.{ℤ, pos, ◌+ℤ◌, ◌-ℤ◌, ◌*ℤ◌, *ℤ-zero}
use Rattle.hermite.specs.Blend.{right_weights}
use Rattle.hermite.specs.HalfSum.{value_unit}
use Rattle.hermite.specs.Slope.{primed, lower_unrounded, K, unrounded_slope}
use Rattle.rounding.specs.Scaling.{scaled_times}
use Rattle.rounding.specs.HalfSum.{lower_half_sum}
use Rattle.rounding.proofs.Distance.Near.{Near, near-exact, near-start, near_as, near-sum, near-neg}
use Rattle.rounding.proofs.Distance.HalfSum.{near_times, near-half_sum}

module _ (D : ℕ) (positive : 0 < D) where
  -- Y1 and Y2: m+n scalings, but none where the grade is −1
  near-lower : (m n a : ℕ) (w : ℕ → ℤ) → a ≤ D → Near D (m + n) (m + n) (lower_unrounded m n a D w) (lower_half_sum m n a D w)
  unfolding lower_unrounded lower_half_sum
  near-lower zero n a w h = near_as refl (omega arith) (*ℤ-zero (pos (D ^ (0 + n)))) (near-exact D (0 + n) (pos 0))
  near-lower (suc m) n a w h = near_as (omega arith) (omega arith) refl (near-half_sum D positive m n a (primed w) h)

  -- Y3: m and then n scalings
  near_last : (m n r : ℕ) (k : ℤ) → r ≤ D → Near D (m + n) (m + n) (pos ((D - r) ^ n) *ℤ (pos (r ^ m) *ℤ k)) (scaled_times n (scaled_times m k r D) (D - r) D)
  near_last m n r k h =
      near_as (omega arith) (omega arith) refl (near_times D positive n (D - r) (omega arith) (near_times D positive m r h (near-start D k)))

  pub near-slope : (m n r : ℕ) (p q : ℕ → ℤ) → r ≤ D → Near D (m + n) (3 * (m + n)) (unrounded_slope m n r D p q)
      (lower_half_sum m n r D p -ℤ lower_half_sum n m (D - r) D (right_weights q) +ℤ scaled_times n (scaled_times m (pos value_unit *ℤ K m n p q) r D) (D - r) D)
  unfolding unrounded_slope
  near-slope m n r p q h = near_as refl (omega arith) refl
      (near-sum (near-sum (near-lower m n r p h) (near-neg right)) (near_last m n r (pos value_unit *ℤ K m n p q) h))
    where
      right : Near D (m + n) (m + n) (lower_unrounded n m (D - r) D (right_weights q)) (lower_half_sum n m (D - r) D (right_weights q))
      right = near_as (omega arith) (omega arith) refl (near-lower n m (D - r) (right_weights q) (omega arith))
