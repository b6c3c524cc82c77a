-- What the functions of a chain are given, and a query position in one of its pieces.
use Rattle.std.specs.Prelude.{List, ℕ, suc, ◌-◌, ◌≤◌, ◌<◌, length}
use Rattle.rounding.specs.Piece.{D}
use Rattle.knot.specs.Machine.{scans}
use Rattle.knot.specs.declared.held.Knot.{Knot}
use Rattle.scans.specs.Scan.{Scan}
use Rattle.scans.specs.Standing.{Standing}
use Rattle.scans.specs.Pieces.{InReel, mark, piece_of}

-- knots whose scans can stand
abbrev pub Chained : List Knot → Type 0
Chained knots = Standing (scans knots)

-- and a query position in the reel
pub record Reached (knots : List Knot) (x : ℕ) : Type 0 where
  pub chained : Chained knots
  pub within : InReel (scans knots) x

-- query position x lies in piece k
pub record InPiece (scans : List Scan) (k x : ℕ) : Type 0 where
  pub piece : suc k < length scans
  pub starts : mark scans k ≤ x
  pub ends : x - mark scans k ≤ D (piece_of scans k)
