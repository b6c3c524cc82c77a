-- Document 01, "Blend over one piece": the pieces of a list of scans, the one that a query position is in, and the one
-- that its trend is taken from (request 3/14).
use Rattle.std.specs.Prelude.{Bool, true, false, ◌&&◌, ◌||◌, cond, List, ◌≡◌, ℕ, zero, suc, ◌+◌, ◌*◌, ◌-◌, ◌≤◌, ◌<◌, eqb, ltb, length}
use Rattle.rounding.specs.Piece.{Piece, piece, D, position_unit}
use Rattle.scans.specs.Scan.{Scan, grade, at, gap, left_list, right_list}

-- the piece between two scans
abbrev pub between : Scan → Scan → Piece
between s t = piece (gap s t.position) (right_list s) (left_list t)

-- piece k runs from knot k to knot k+1
abbrev pub piece_of : List Scan → ℕ → Piece
piece_of scans k = between (at scans k) (at scans (suc k))

-- where knot k lies, in the unit of query positions
abbrev pub mark : List Scan → ℕ → ℕ
mark scans k = position_unit * (at scans k).position

-- two knots or more, and a query position from the first to the last: neither 8 nor 7
pub record InReel (scans : List Scan) (x : ℕ) : Type 0 where
  pub two : 2 ≤ length scans
  pub first : mark scans 0 ≤ x
  pub last : x ≤ mark scans (length scans - 1)

-- of the pieces k to k + c, the first whose right end lies after x; if there is none, piece k + c
unfoldable pub first_past : List Scan → ℕ → ℕ → ℕ → ℕ
first_past scans x k zero = k
first_past scans x k (suc c) = cond (ltb x (mark scans (suc k))) k (first_past scans x (suc k) c)

-- document 01: "An inner knot belongs to the piece on its right, the last knot to the last piece": of all pieces the
-- first that ends after x, or else the last
abbrev pub piece_at : List Scan → ℕ → ℕ
piece_at scans x = first_past scans x 0 (length scans - 2)

-- a piece, and the distance r from its left knot
pub record Place : Type 0 where
  pub k : ℕ
  pub r : ℕ

-- query position x in piece k
abbrev pub place_in : List Scan → ℕ → ℕ → Place
place_in scans x k = record { k = k; r = x - mark scans k }

-- piece k at its right end
abbrev pub right_end : List Scan → ℕ → Place
right_end scans k = record { k = k; r = D (piece_of scans k) }

-- the last knot, and an inner one, which is neither the first nor the last
abbrev pub is_last : List Scan → ℕ → Bool
is_last scans k = eqb (suc k) (length scans)

abbrev pub is_inner : List Scan → ℕ → Bool
is_inner scans k = ltb 0 k && ltb (suc k) (length scans)

-- request 3/14, a lone reading: "where an inner knot has grade 0"
abbrev pub is_lone : List Scan → ℕ → Bool
is_lone scans k = is_inner scans k && eqb (grade (at scans k)) 0

-- the piece of a value, and r: the piece that document 01 assigns
abbrev pub value_place : List Scan → ℕ → Place
value_place scans x = place_in scans x (piece_at scans x)

-- the piece of a trend, and r. Request 3/14: at a lone reading the trend "is now taken from the piece on the left, at
-- its right end"; everywhere else from piece k, which document 01 assigns, and which starts at knot k
abbrev pub trend_place : List Scan → ℕ → Place
trend_place scans x = let k = piece_at scans x in
    cond (eqb x (mark scans k) && is_lone scans k) (right_end scans (k - 1)) (place_in scans x k)

-- query position x lies at this place: r after the left knot of piece k, and r is at most D. A knot that `to_left` names
-- belongs to the piece on its left, and every other knot to the piece on its right
pub record Lies (scans : List Scan) (to_left : ℕ → Bool) (x : ℕ) (place : Place) : Type 0 where
  pub piece : suc place.k < length scans
  pub distance : mark scans place.k + place.r ≡ x
  pub within : place.r ≤ D (piece_of scans place.k)
  pub start : place.r ≡ 0 → to_left place.k ≡ false
  pub end : place.r ≡ D (piece_of scans place.k) → to_left (suc place.k) ≡ true

-- the knots that belong to the piece on their left: for a value the last one, for a trend each lone reading too
abbrev pub is_last_or_lone : List Scan → ℕ → Bool
is_last_or_lone scans k = is_last scans k || is_lone scans k
