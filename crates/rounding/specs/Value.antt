-- Document 01, "Blend over one piece": the value at distance r from the left knot, in 1/65,536 count, and its distance
-- in demand 3, as request 5/14 gives it.
use Rattle.std.specs.Prelude.{ℕ, ◌+◌, ◌*◌, ◌-◌, ◌^◌, ◌≤◌, ℤ, pos, nat_abs, ◌+ℤ◌, ◌-ℤ◌, ◌*ℤ◌}
use Rattle.hermite.specs.Polynomial.{at}
use Rattle.hermite.specs.Blend.{right_weights}
use Rattle.hermite.specs.HalfSum.{value_unit}
use Rattle.rounding.specs.Piece.{Piece, m, n, p, q, D, exact_blend}
use Rattle.rounding.specs.HalfSum.{half_sum}

-- Value = half-sum(m against n, r, left weights) + half-sum(n against m, D−r, right weights)
unfoldable pub value : Piece → ℕ → ℤ
value P r = half_sum (m P) (n P) r (D P) (p P) +ℤ half_sum (n P) (m P) (D P - r) (D P) (right_weights (q P))

-- the power of D by which both sides are multiplied where the exact blend or derivative at r/D is compared: D^(m+n+1)
abbrev pub N : Piece → ℕ
N P = m P + n P + 1

-- (65,536 × the exact blend at r/D − v) × D^(m+n+1)
unfoldable pub value_error : Piece → ℕ → ℤ → ℤ
value_error P r v = pos value_unit *ℤ at r (D P) (N P) (exact_blend P) -ℤ pos (D P ^ N P) *ℤ v

-- v lies within m+n+1 of 65,536 × the exact blend, either way
abbrev pub ValueDistance : Piece → ℕ → ℤ → Type 0
ValueDistance P r v = nat_abs (value_error P r v) ≤ (m P + n P + 1) * D P ^ N P
