-- What a block without a fault says, word by word, and that a list of causes none of which holds has no first.
use borrow.Author.Tests.{ltb-false, eqb-true, not-false}
use mathlib.Core.Bool.{true, false, not, ◌&&◌, true≢false}
use mathlib.Core.List.{List, [], ◌∷◌, ◌++◌}
use mathlib.Core.Option.{Option, none, some}
use mathlib.Core.Path.{◌≡◌, refl, sym, ◌∙◌, ap, subst}
use Prim.Native.Nat.{ℕ, zero, suc, ◌+◌, ◌%◌, ◌≤◌}
use native.Mathlib.Omega.{arith}
use lib.Dec.{eqb, ltb}
use lib.ListN.{length, take, length-map}
use lib.Seq.{length-take-le}
use Rattle.integer.proofs.Tests.{both_first, both-second}
use Rattle.rounding.specs.Limits.{knots_max}
use Rattle.scans.specs.Scan.{Scan}
use Rattle.scans.specs.SizeRule.{append_products, first_too_large, is_found}
use Rattle.scans.specs.RefusalTable.{Cause, first, position_causes}
use Rattle.scans.proofs.Causes.{Quiet, quiet, quiet-both, quiet-left, quiet-right, neither, Placed, placed}
use Rattle.scans.proofs.SizeRule.{not_found}
use Rattle.block.specs.Fields.{kind, knot_count, edition, header_spare, position, grade, knot_spare, payload}
use Rattle.block.specs.Bytes.{words}
use Rattle.block.specs.Reading.{is_edition, is_header, is_knot, reading_words, after_readings, length_causes, header_causes, knot_causes, coefficient_causes}
use Rattle.block.specs.Reading.{reading_causes, scan_from, behind, knots_causes, words_causes, block_causes}
use Rattle.block.proofs.Steps.{readings_on, size_on, after_word, in_order}

-- ---- words

pub record Header (w : ℕ) : Type 0 where
  pub kind_is : kind w ≡ 0
  pub edition_is : is_edition (edition w) ≡ true
  pub spare_is : header_spare w ≡ 0
  pub count : knot_count w ≤ knots_max

header : (w : ℕ) → Quiet (header_causes w) → Header w
header w q =
    let form : is_header w ≡ true = not-false (is_header w) q.0 in
    let later : (is_edition (edition w) && eqb (header_spare w) 0) ≡ true = both-second (eqb (kind w) 0) _ form in
    record {
      kind_is = eqb-true (kind w) 0 (both_first (eqb (kind w) 0) _ form);
      edition_is = both_first (is_edition (edition w)) _ later;
      spare_is = eqb-true (header_spare w) 0 (both-second (is_edition (edition w)) _ later);
      count = ltb-false knots_max (knot_count w) q.1.0;
    }

-- knot k with n more to come after it, and the words after its own, in a block of edition e
pub record Taken (e before k n : ℕ) (last : Option Scan) (w : ℕ) (ws : List ℕ) : Type 0 where
  pub kind_is : kind w ≡ 1
  pub spare_is : knot_spare w ≡ 0
  pub place : Placed last (position w)
  pub coefficients : Quiet (coefficient_causes (grade w + 1) ws)
  pub size : first_too_large (append_products k last (scan_from w ws)) ≡ none
  pub readings : Quiet (reading_causes 0 (reading_words e (behind w ws)))
  pub later : Quiet (knots_causes e before (suc k) n (some (scan_from w ws)) (after_readings e (behind w ws)))

pub taken : (e before k n : ℕ) (last : Option Scan) (w : ℕ) (ws : List ℕ) → Quiet (knots_causes e before k (suc n) last (w ∷ ws)) →
    Taken e before k n last w ws
taken e before k n last w ws q =
    let cs : List Cause = coefficient_causes (grade w + 1) ws in
    let rest : List Cause = size_on e before k n last (position w) (grade w) ws in
    let all : Quiet (knot_causes last w ++ after_word e before k n last (position w) (grade w) ws) = subst Quiet (in_order e before k n last w ws) q in
    let word : Quiet (knot_causes last w) = quiet-left (knot_causes last w) (after_word e before k n last (position w) (grade w) ws) all in
    let after : Quiet (cs ++ rest) = quiet-right (knot_causes last w) (cs ++ rest) all in
    let sized : Quiet rest = quiet-right cs rest after in
    let these : List Cause = reading_causes 0 (reading_words e (behind w ws)) in
    let next : List Cause = knots_causes e before (suc k) n (some (scan_from w ws)) (after_readings e (behind w ws)) in
    let form : is_knot w ≡ true = not-false (is_knot w) word.0 in
    record {
      kind_is = eqb-true (kind w) 1 (both_first (eqb (kind w) 1) _ form);
      spare_is = eqb-true (knot_spare w) 0 (both-second (eqb (kind w) 1) _ form);
      place = placed last (position w) word.1.0 word.1.1.0;
      coefficients = quiet-left cs rest after;
      size = not_found (first_too_large (append_products k last (scan_from w ws))) sized.0;
      readings = quiet-left these next sized.1;
      later = quiet-right these next sized.1;
    }

-- and back
pub untaken : (e before k n : ℕ) (last : Option Scan) (w : ℕ) (ws : List ℕ) → is_knot w ≡ true → Quiet (position_causes last (position w)) →
    Quiet (coefficient_causes (grade w + 1) ws) → first_too_large (append_products k last (scan_from w ws)) ≡ none →
    Quiet (readings_on e before k n (scan_from w ws) (behind w ws)) → Quiet (knots_causes e before k (suc n) last (w ∷ ws))
untaken e before k n last w ws form place coefficients size later =
    subst Quiet (sym (in_order e before k n last w ws))
    (quiet-both (knot_causes last w) (after_word e before k n last (position w) (grade w) ws) (ap not form, place)
    (quiet-both (coefficient_causes (grade w + 1) ws) (size_on e before k n last (position w) (grade w) ws) coefficients (ap is_found size, later)))

-- its coefficient words are there, so its list has the grade that the word says
coefficients-there : (n : ℕ) (ws : List ℕ) → Quiet (coefficient_causes n ws) → n ≤ length ws
coefficients-there zero ws q = omega arith
coefficients-there (suc n) [] q = absurd (true≢false q.0)
coefficients-there (suc n) (w ∷ ws) q = omega (arith, coefficients-there n ws q.1)

pub read-grade : (w : ℕ) (ws : List ℕ) → Quiet (coefficient_causes (grade w + 1) ws) → length (scan_from w ws).coefficients ≡ grade w + 1
read-grade w ws q = length-map (take (grade w + 1) ws) payload ∙ length-take-le (grade w + 1) ws (coefficients-there (grade w + 1) ws q)

-- a block: its header word, and the words after it
pub record Accepted (bs : List ℕ) : Type 0 where
  pub head : ℕ
  pub others : List ℕ
  pub words_are : words bs ≡ head ∷ others
  pub bytes_fit : length bs % 4 ≡ 0
  pub header : Header head
  pub knots : Quiet (knots_causes (edition head) (length others) 0 (knot_count head) none others)

accepted-words : (bs ws : List ℕ) → words bs ≡ ws → length bs % 4 ≡ 0 → Quiet (words_causes ws) → Accepted bs
accepted-words bs [] e f q = absurd (true≢false q.0)
accepted-words bs (w ∷ ws) e f q =
    let knots : List Cause = knots_causes (edition w) (length ws) 0 (knot_count w) none ws in
    record {
      head = w;
      others = ws;
      words_are = e;
      bytes_fit = f;
      header = header w (quiet-left (header_causes w) knots q);
      knots = quiet-right (header_causes w) knots q;
    }

pub accepted : (bs : List ℕ) → first (block_causes bs) ≡ none → Accepted bs
unfolding block_causes
accepted bs e =
    let q : Quiet (length_causes (length bs) ++ words_causes (words bs)) = quiet (block_causes bs) e in
    let f : not (eqb (length bs % 4) 0) ≡ false = (neither (not (eqb (length bs % 4) 0)) (ltb (length bs) 8) q.0).0 in
    accepted-words bs (words bs) refl (eqb-true (length bs % 4) 0 (not-false (eqb (length bs % 4) 0) f)) q.1
