-- The Taylor clause holds of every piece of grades 0 to 7.
use mathlib.Core.Path.{◌≡◌, refl}
use Prim.Native.Nat.{ℕ, ◌^◌, ◌≤◌}
use lib.IntN.{ℤ, pos, ◌*ℤ◌}
use lib.ListN.{get_or}
use mathlib.Core.List.{List}
use Rattle.hermite.proofs.Taylor.{taylor_left_lem, taylor_right_lem}
use Rattle.rounding.specs.Piece.{Piece, m, n, p, q, weight, exact_blend}
use Rattle.rounding.specs.Taylor.{Taylor}

pub taylor_holds : (P : Piece) → m P ≤ 7 → n P ≤ 7 → Taylor P
unfolding exact_blend
taylor_holds P hm hn = record {
  at_left = taylor_left_lem (m P) (n P) hm hn (p P) (q P);
  at_right = taylor_right_lem (m P) (n P) hm hn (p P) (q P);
}

-- the weights of which the clause speaks, written out
pub weight_is : (h : ℕ) (C : List ℤ) (j : ℕ) → weight h C j ≡ get_or C j (pos 0) *ℤ pos (h ^ j)
weight_is h C j = refl
