-- Document 01, "Block" and, under "Refusal table", the order of Read, with request 1/14: the faults of a block in word
-- order, and the list of a block.
use Rattle.std.specs.Prelude.{Bool, true, not, ◌&&◌, ◌||◌, cond, List, [], ◌∷◌, ◌++◌, map, ℕ, zero, suc, ◌+◌, ◌%◌, eqb, ltb, length, take, drop, get_or}
use Rattle.std.proofs.Math.Option.{Option, none, some}
use Rattle.scans.specs.Scan.{Scan, scan_of}
use Rattle.scans.specs.RefusalTable.{Cause, bad_form, too_many, too_many_readings, position_causes, size_causes}
use Rattle.block.specs.Fields.{kind, knot_count, edition, header_spare, position, grade, knot_spare}
use Rattle.block.specs.Fields.{payload, words_before, reading_mark, reading_spare}
use Rattle.block.specs.Bytes.{words}
use Rattle.block.specs.Block.{plain_edition, readings_edition}

-- ---- the form of each word: its kind, its edition, its spare bits, its end count

-- the editions that are read
abbrev pub is_edition : ℕ → Bool
is_edition e = eqb e plain_edition || eqb e readings_edition

abbrev pub is_header : ℕ → Bool
is_header w = eqb (kind w) 0 && (is_edition (edition w) && eqb (header_spare w) 0)

abbrev pub is_knot : ℕ → Bool
is_knot w = eqb (kind w) 1 && eqb (knot_spare w) 0

abbrev pub is_coefficient : ℕ → Bool
is_coefficient w = eqb (kind w) 2

abbrev pub is_end : ℕ → ℕ → Bool
is_end before w = eqb (kind w) 3 && eqb (words_before w) before

-- ---- request 1/14: "Edition 2 blocks may carry, after a knot's coefficients, up to 32 words of kind 3 with bit 29
-- set, bits 0 to 15 a reading, the rest 0"

-- there every word of kind 3 with bit 29 set is a reading; its form is right if the rest is 0
abbrev pub is_reading : ℕ → Bool
is_reading w = eqb (kind w) 3 && eqb (reading_mark w) 1

abbrev pub clear_reading : ℕ → Bool
clear_reading w = eqb (reading_spare w) 0

-- the first word that is none ends them
abbrev pub leading_readings : List ℕ → List ℕ
leading_readings [] = []
leading_readings (w ∷ ws) = cond (is_reading w) (w ∷ leading_readings ws) []

-- "No other edition carries them": the reading words that stand first in ws, in a block of edition e, and those after
abbrev pub reading_words : ℕ → List ℕ → List ℕ
reading_words e ws = cond (eqb e readings_edition) (leading_readings ws) []

abbrev pub after_readings : ℕ → List ℕ → List ℕ
after_readings e ws = drop (length (reading_words e ws)) ws

-- ---- the faults, each with its number, in the order in which reading comes to them

-- length: a multiple of 4, and at least 8
abbrev pub length_causes : ℕ → List Cause
length_causes n = bad_form (not (eqb (n % 4) 0) || ltb n 8) ∷ []

-- the header: its form, then 2
abbrev pub header_causes : ℕ → List Cause
header_causes w = bad_form (not (is_header w)) ∷ too_many (knot_count w) ∷ []

-- a knot word after the last knot: its form, then 4 and 5
abbrev pub knot_causes : Option Scan → ℕ → List Cause
knot_causes last w = bad_form (not (is_knot w)) ∷ position_causes last (position w)

-- the next n words are coefficient words
abbrev pub coefficient_causes : ℕ → List ℕ → List Cause
coefficient_causes zero ws = []
coefficient_causes (suc n) [] = bad_form true ∷ []
coefficient_causes (suc n) (w ∷ ws) = bad_form (not (is_coefficient w)) ∷ coefficient_causes n ws

-- request 1/14: these reading words, where `count` readings of the knot came before: at each its form, and 12 at a 33rd
abbrev pub reading_causes : ℕ → List ℕ → List Cause
reading_causes count [] = []
reading_causes count (w ∷ ws) =
    bad_form (not (clear_reading w)) ∷ too_many_readings (suc count) ∷ reading_causes (suc count) ws

-- one word is left, the end word
abbrev pub end_causes : ℕ → List ℕ → List Cause
end_causes before [] = bad_form true ∷ []
end_causes before (w ∷ []) = bad_form (not (is_end before w)) ∷ []
end_causes before (w ∷ v ∷ over) = bad_form true ∷ []

-- the scan of a knot word w and the words after it
abbrev pub scan_from : ℕ → List ℕ → Scan
scan_from w ws = scan_of (position w) (map payload (take (grade w + 1) ws))

-- the words after a knot's coefficients
abbrev pub behind : ℕ → List ℕ → List ℕ
behind w ws = drop (grade w + 1) ws

-- in a block of edition e n knots are still to come after the last one, the next of them knot k: for each its word (1),
-- 4, 5, its coefficient words (1), 6; "a knot's readings are looked at after its 6"; then the end word
abbrev pub knots_causes : ℕ → ℕ → ℕ → ℕ → Option Scan → List ℕ → List Cause
knots_causes e before k zero last ws = end_causes before ws
knots_causes e before k (suc n) last [] = bad_form true ∷ []
knots_causes e before k (suc n) last (w ∷ ws) =
    knot_causes last w ++ coefficient_causes (grade w + 1) ws ++ size_causes k last (scan_from w ws) ++
    reading_causes 0 (reading_words e (behind w ws)) ++
    knots_causes e before (suc k) n (some (scan_from w ws)) (after_readings e (behind w ws))

abbrev pub words_causes : List ℕ → List Cause
words_causes [] = bad_form true ∷ []
words_causes (w ∷ ws) = header_causes w ++ knots_causes (edition w) (length ws) 0 (knot_count w) none ws

unfoldable pub block_causes : List ℕ → List Cause
block_causes bs = length_causes (length bs) ++ words_causes (words bs)

-- the edition of a block
abbrev pub edition_of : List ℕ → ℕ
edition_of bs = edition (get_or (words bs) 0 0)

-- ---- document 01: "the list of a block has one knot for each knot word, in order, with its position, its grade and
-- the coefficients in its coefficient words"; readings are skipped

abbrev pub knots_from : ℕ → ℕ → List ℕ → List Scan
knots_from e zero ws = []
knots_from e (suc n) [] = []
knots_from e (suc n) (w ∷ ws) = scan_from w ws ∷ knots_from e n (after_readings e (behind w ws))

abbrev pub list_of_words : List ℕ → List Scan
list_of_words [] = []
list_of_words (w ∷ ws) = knots_from (edition w) (knot_count w) ws

unfoldable pub list_of : List ℕ → List Scan
list_of bs = list_of_words (words bs)
