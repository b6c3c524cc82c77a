-- Document 01, "Block": the words and the bytes of a list of scans.
use Rattle.std.specs.Prelude.{List, [], ◌∷◌, ◌++◌, map, ℕ, length, drop}
use Rattle.scans.specs.Scan.{Scan, grade}
use Rattle.block.specs.Fields.{header_word, knot_word, coefficient_word, end_word}
use Rattle.block.specs.Bytes.{bytes}

-- the edition, 1, and that of request 1/14, 2; "write stays on edition 1"
abbrev pub plain_edition : ℕ
plain_edition = 1

abbrev pub readings_edition : ℕ
readings_edition = 2

-- a knot word, and its grade + 1 coefficient words after it
abbrev pub scan_words : Scan → List ℕ
scan_words s = knot_word s.position (grade s) ∷ map coefficient_word s.coefficients

abbrev pub knots_words : List Scan → List ℕ
knots_words [] = []
knots_words (s ∷ scans) = scan_words s ++ knots_words scans

-- the header and the knots
abbrev pub open_words : List Scan → List ℕ
open_words scans = header_word (length scans) plain_edition ∷ knots_words scans

-- and the end word, which has the number of words before it
abbrev pub block_words : List Scan → List ℕ
block_words scans = open_words scans ++ end_word (length (open_words scans)) ∷ []

unfoldable pub block : List Scan → List ℕ
block scans = bytes (block_words scans)

-- a written block has at most so many bytes, and one that is accepted, with readings (request 1/14), so many
abbrev pub written_max : ℕ
written_max = 4652

abbrev pub block_max : ℕ
block_max = 21164

-- an output with the block in its first bytes; the bytes after them stay
abbrev pub written : List Scan → List ℕ → List ℕ
written scans out = block scans ++ drop (length (block scans)) out
