-- Document 02, request 4/14: what it says of the blends, totals and values of the sum of two lists of scans.
use Rattle.std.specs.Prelude.{true, List, ◌≡◌, ℕ, suc, ◌≤◌, ◌<◌, ℤ, ◌+ℤ◌, ◌*ℤ◌, length}
use Rattle.hermite.specs.Polynomial.{coefficient}
use Rattle.rounding.specs.Piece.{exact_blend}
use Rattle.rounding.specs.Combination.{CombinedDistance}
use Rattle.scans.specs.Scan.{Scan}
use Rattle.scans.specs.Standing.{Standing}
use Rattle.scans.specs.Combination.{all_aligned, combination}
use Rattle.scans.specs.Pieces.{piece_of, InReel}
use Rattle.scans.specs.Queries.{value_piece, value_at, total_over}

-- a_i of the exact blend of piece k
abbrev pub a : List Scan → ℕ → ℕ → ℤ
a scans k i = coefficient (exact_blend (piece_of scans k)) i

-- of the scans A and B and their sum C
pub record Combined (α β : ℤ) (A B C : List Scan) : Type 0 where
  -- "Its exact blends .. are the same combination of theirs": each coefficient of each piece's blend
  pub blends : (k i : ℕ) → suc k < length A → a C k i ≡ α *ℤ a A k i +ℤ β *ℤ a B k i
  -- "and totals": over every range
  pub totals : (i j : ℕ) → i ≤ j → j < length A → total_over C i j ≡ α *ℤ total_over A i j +ℤ β *ℤ total_over B i j
  -- "Its value differs from αv + βv' by less than (1+|α|+|β|) × 2(m+n+1)", and by 5/14 "at most half the bound there":
  -- at every query position in the reel
  pub values : (x : ℕ) → InReel A x → CombinedDistance α β (value_piece A x) (value_at A x) (value_at B x) (value_at C x)

-- so it is for every α and β, and for all scans that stand and have the same positions and grades; of the second list
-- no more is needed than that
abbrev pub CombinationLaws : Type 0
CombinationLaws = (α β : ℤ) (A B : List Scan) → Standing A → all_aligned A B ≡ true →
    Combined α β A B (combination α β A B)
