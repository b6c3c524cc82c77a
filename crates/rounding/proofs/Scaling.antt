-- What is rounded is nearest, and nothing else is. From this: rounding is the floor of half a step more, and the division by h is the scaling
-- by 256/D.
use mathlib.Core.Path.{◌≡◌, sym}
use Prim.Native.Nat.{ℕ, ◌+◌, ◌*◌, ◌-◌, ◌/◌, ◌%◌, ◌≤◌, ◌<◌}
use native.Mathlib.Decide.{dec_lt}
use native.Mathlib.Omega.{arith}
use lib.IntN.{ℤ, pos, nat_abs, ◌+ℤ◌, ◌-ℤ◌, ◌*ℤ◌}
use lib.Signed.{◌<ℤ◌}
use Rattle.integer.specs.Floor.{Floor}
use Rattle.integer.specs.Within.{up, dn}
use Rattle.integer.proofs.Floor.{floor, one-floor}
use Rattle.integer.proofs.Difference.{as_⊖, differences}
use Rattle.rounding.specs.Piece.{position_unit}
use Rattle.rounding.specs.Scaling.{Nearest, rounded, scaled}

-- ---- the floor of (2u + d) / 2d is nearest to u / d, and what is nearest is that floor

module _ (u q : ℤ) (d : ℕ) where
  of_floor : Floor (pos 2 *ℤ u +ℤ pos d) (2 * d) q → Nearest u d q
  of_floor f = go u q f.whole
    where
      go : (u q : ℤ) → pos 2 *ℤ u +ℤ pos d ≡ q *ℤ pos (2 * d) +ℤ pos f.rest → Nearest u d q
      go u q = rw (as_⊖ u, as_⊖ q) (simp differences (λ e. record {
        near = simp differences (omega (arith, f.small));
        halves_up = simp differences (λ half. omega (arith, f.small));
      }))

  to_floor : Nearest u d q → Floor (pos 2 *ℤ u +ℤ pos d) (2 * d) q
  to_floor known = go u q known.near known.halves_up
    where
      -- the rest, 2e + d of a distance e = a − b, is below 2d, since at a half e is below 0
      below : (a b : ℕ) → 2 * ((a - b) + (b - a)) ≤ d → (2 * ((a - b) + (b - a)) ≡ d → a < b) → 2 * a + d - 2 * b < 2 * d
      below a b near halves = tested (dec_lt (2 * a + d - 2 * b) (2 * d))
        where
          tested : Dec (2 * a + d - 2 * b < 2 * d) → 2 * a + d - 2 * b < 2 * d
          tested (yes h) = h
          tested (no h) = absurd (omega (arith, halves (omega arith)))

      go : (u q : ℤ) → 2 * nat_abs (u -ℤ q *ℤ pos d) ≤ d → (2 * nat_abs (u -ℤ q *ℤ pos d) ≡ d → u <ℤ (q *ℤ pos d)) → Floor (pos 2 *ℤ u +ℤ pos d) (2 * d) q
      go u q = rw (as_⊖ u, as_⊖ q) (simp differences (λ near halves. record {
        rest = 2 * (up u + dn q * d) + d - 2 * (dn u + up q * d);
        small = below (up u + dn q * d) (dn u + up q * d) (omega arith) (λ half. omega (arith, halves (omega arith)));
        whole = simp differences (omega arith);
      }))

-- ---- what is rounded

pub nearest : (u : ℤ) (d : ℕ) → 0 < d → Nearest u d (rounded u d)
unfolding rounded
nearest u d positive = of_floor u _ d (floor _ (2 * d) (omega arith))

pub only-nearest : (u q : ℤ) (d : ℕ) → 0 < d → Nearest u d q → q ≡ rounded u d
unfolding rounded
only-nearest u q d positive known = one-floor (to_floor u q d known) (floor _ (2 * d) (omega arith))

-- half of d more, rounded down
pub half-added : (u q : ℤ) (d : ℕ) → 0 < d → Floor (u +ℤ pos (d / 2)) d q → q ≡ rounded u d
half-added u q d positive f = only-nearest u q d positive (of_floor u q d (record {
  rest = 2 * f.rest + d % 2;
  small = omega (arith, f.small);
  whole = doubled u q f.whole;
}))
  where
    doubled : (u q : ℤ) → u +ℤ pos (d / 2) ≡ q *ℤ pos d +ℤ pos f.rest → pos 2 *ℤ u +ℤ pos d ≡ q *ℤ pos (2 * d) +ℤ pos (2 * f.rest + d % 2)
    doubled u q = rw (as_⊖ u, as_⊖ q) (simp differences (λ e. omega arith))

-- the division by h: both are multiplied by 256
pub divided : (y : ℤ) (h : ℕ) → 0 < h → scaled y position_unit (position_unit * h) ≡ rounded y h
unfolding scaled
divided y h positive = sym (only-nearest (y *ℤ pos position_unit) (rounded y h) (position_unit * h) (omega arith) (of_floor _ _ _ (record {
  rest = position_unit * f.rest;
  small = omega (arith, f.small);
  whole = multiplied y (rounded y h) f.rest f.whole;
})))
  where
    f : Floor (pos 2 *ℤ y +ℤ pos h) (2 * h) (rounded y h)
    f = to_floor y (rounded y h) h (nearest y h positive)

    multiplied : (y q : ℤ) (s : ℕ) → pos 2 *ℤ y +ℤ pos h ≡ q *ℤ pos (2 * h) +ℤ pos s →
        pos 2 *ℤ (y *ℤ pos position_unit) +ℤ pos (position_unit * h) ≡ q *ℤ pos (2 * (position_unit * h)) +ℤ pos (position_unit * s)
    multiplied y q s = rw (as_⊖ y, as_⊖ q) (simp differences (λ e. omega arith))
