-- Division that rounds down, toward minus infinity. The library's `shr_z z d` computes it; this says what it is.
use Rattle.std.specs.Prelude.{◌≡◌, ℕ, ◌<◌, ℤ, pos, ◌+ℤ◌, ◌*ℤ◌}

-- q is the greatest whole number not above z / d: q × d leaves a rest of at least 0 and below d
pub record Floor (z : ℤ) (d : ℕ) (q : ℤ) : Type 0 where
  pub rest : ℕ
  pub small : rest < d
  pub whole : z ≡ q *ℤ pos d +ℤ pos rest
