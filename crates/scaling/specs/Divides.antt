-- What a divisor holds, d and its reciprocal: a fact over the two numbers, which `Divisor` and `Fraction` keep.
use Rattle.std.specs.Prelude.{◌≡◌, ℕ, ◌+◌, ◌*◌, ◌/◌, ◌^◌, ◌≤◌, ◌<◌}
use Rattle.rounding.specs.Limits.{gap_max}
use Rattle.rounding.specs.Piece.{position_unit}

-- d, at most 4,096, the greatest D there can be, and its reciprocal in parts of 2^64
pub record Divides (d reciprocal : ℕ) : Type 0 where
  pub at_least : 0 < d
  pub at_most : d ≤ position_unit * gap_max
  pub in_parts : reciprocal ≡ 2 ^ 64 / d + 1
