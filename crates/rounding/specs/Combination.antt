-- Document 02, request 4/14: how far a value of the reel with coefficients αA + βB may be from theirs. Request 5/14
-- halves the bound.
use Rattle.std.specs.Prelude.{◌+◌, ◌*◌, ◌≤◌, ℤ, nat_abs, ◌+ℤ◌, ◌-ℤ◌, ◌*ℤ◌}
use Rattle.rounding.specs.Piece.{Piece, m, n}

-- w differs from αv + βv' by at most (1+|α|+|β|) × (m+n+1), with m and n of the piece
abbrev pub CombinedDistance : ℤ → ℤ → Piece → ℤ → ℤ → ℤ → Type 0
CombinedDistance α β P v v' w =
    nat_abs (w -ℤ (α *ℤ v +ℤ β *ℤ v')) ≤ (1 + nat_abs α + nat_abs β) * (m P + n P + 1)
