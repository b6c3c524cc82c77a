-- Document 02, request 5/14: "All scaling, and the division by h, go to the nearest whole number, halves up."
use Rattle.std.specs.Prelude.{ℕ, zero, suc, ◌*◌, ◌≤◌, ◌≡◌, ℤ, pos, nat_abs, ◌+ℤ◌, ◌-ℤ◌, ◌*ℤ◌, ◌<ℤ◌}
use Rattle.std.specs.Int.Signed.{shr_z}

-- u divided by d, to the nearest whole number, halves up: the greatest whole number not above u / d + 1/2, which is
-- (2u + d) / 2d
unfoldable pub rounded : ℤ → ℕ → ℤ
rounded u d = shr_z (pos 2 *ℤ u +ℤ pos d) (2 * d)

-- q is the whole number nearest to u / d: twice the distance of q × d from u is at most d, and at a half q is the upper
-- one of the two
pub record Nearest (u : ℤ) (d : ℕ) (q : ℤ) : Type 0 where
  pub near : 2 * nat_abs (u -ℤ q *ℤ pos d) ≤ d
  pub halves_up : 2 * nat_abs (u -ℤ q *ℤ pos d) ≡ d → u <ℤ (q *ℤ pos d)

-- u scaled by a/D: the whole number nearest to u × a / D
unfoldable pub scaled : ℤ → ℕ → ℕ → ℤ
scaled u a D = rounded (u *ℤ pos a) D

-- u scaled by a/D, k times
unfoldable pub scaled_times : ℕ → ℤ → ℕ → ℕ → ℤ
scaled_times zero u a D = u
scaled_times (suc k) u a D = scaled (scaled_times k u a D) a D
