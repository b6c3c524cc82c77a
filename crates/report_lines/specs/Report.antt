-- Document 01, "Reel report": its bytes, in ASCII.
use Rattle.std.specs.Prelude.{List, [], ◌∷◌, ◌++◌, ℕ, zero, suc, ◌-◌, ltb, length}
use Rattle.std.proofs.Math.Option.{Option, none, some}
use Rattle.text.specs.Text.{decimal, signed_decimal}
use Rattle.scans.specs.Scan.{Scan, at}
use Rattle.scans.specs.RefusalTable.{Cause, first, bad_form, too_few}
use Rattle.block.specs.Block.{block_max}
use Rattle.block.specs.Reading.{block_causes, list_of}
use Rattle.scans.specs.Pieces.{mark}
use Rattle.calls.specs.Calls.{Reply, accepted, number, refused, value, trend, total, reply_to}

abbrev pub space : List ℕ
space = 32 ∷ []

abbrev pub line_feed : List ℕ
line_feed = 10 ∷ []

-- the number that a call answers
abbrev pub shown : Reply → List ℕ
shown accepted = []
shown (number z) = signed_decimal z
shown (refused n) = []

-- `k a b v z w`
abbrev pub piece_text : ℕ → ℕ → ℕ → Reply → Reply → Reply → List ℕ
piece_text k a b v z w =
    decimal k ++ space ++ decimal a ++ space ++ decimal b ++ space ++
    shown v ++ space ++ shown z ++ space ++ shown w ++ line_feed

-- index, end positions, value and trend at a, piece total: the last three are the answers of the calls value, trend and
-- total
unfoldable pub piece_line : List Scan → ℕ → List ℕ
piece_line scans k =
    piece_text k (at scans k).position (at scans (suc k)).position
    (reply_to (value (mark scans k)) scans) (reply_to (trend (mark scans k)) scans) (reply_to (total k (suc k)) scans)

-- the number of pieces
abbrev pub pieces_in : List Scan → ℕ
pieces_in scans = length scans - 1

-- the lines of pieces 0 to n − 1
unfoldable pub piece_lines : List Scan → ℕ → List ℕ
piece_lines scans zero = []
piece_lines scans (suc n) = piece_lines scans n ++ piece_line scans n

-- `reel`, the piece count and the total
abbrev pub reel_text : ℕ → Reply → List ℕ
reel_text n t = 114 ∷ 101 ∷ 101 ∷ 108 ∷ space ++ decimal n ++ space ++ shown t ++ line_feed

-- the total is from 0 to the last knot
unfoldable pub reel_line : List Scan → ℕ → List ℕ
reel_line scans n = reel_text n (reply_to (total 0 n) scans)

-- `refused N`
unfoldable pub refused_line : ℕ → List ℕ
refused_line n = 114 ∷ 101 ∷ 102 ∷ 117 ∷ 115 ∷ 101 ∷ 100 ∷ space ++ decimal n ++ line_feed

-- over 21,164 bytes (request 1/14): 1; then what read refuses; then fewer than two knots: 8
unfoldable pub report_causes : List ℕ → List Cause
report_causes bytes =
    bad_form (ltb block_max (length bytes)) ∷ block_causes bytes ++ too_few (length (list_of bytes)) ∷ []

-- the number of the first of these, or a line for each piece and one for the reel
abbrev pub reported : Option ℕ → List Scan → List ℕ
reported none scans = piece_lines scans (pieces_in scans) ++ reel_line scans (pieces_in scans)
reported (some n) scans = refused_line n

unfoldable pub report_of : List ℕ → List ℕ
report_of bytes = reported (first (report_causes bytes)) (list_of bytes)
