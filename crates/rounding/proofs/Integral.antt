-- A piece's total is the exact integral of its blend.
use mathlib.Core.Path.{◌≡◌, sym, ap}
use Prim.Native.Nat.{◌≤◌}
use lib.IntN.{pos, ◌*ℤ◌}
use Rattle.hermite.proofs.Water.{integral_is}
use Rattle.rounding.specs.Piece.{Piece, m, n, p, q, exact_blend, exact_integral}
use Rattle.rounding.specs.Water.{total}

pub total_is : (P : Piece) → m P ≤ 7 → n P ≤ 7 → total P ≡ exact_integral P
unfolding total exact_blend exact_integral
total_is P hm hn = ap (λ x. pos P.h *ℤ x) (sym (integral_is (m P) (n P) hm hn (p P) (q P)))
