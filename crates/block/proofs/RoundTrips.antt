-- Demand 2 and request 1/14: a written block read back gives the same scans and readings, and an accepted block written again gives the same
-- bytes; edition 1 is the case without readings.
use borrow.Author.Tests.{le-ltb, eq-eqb, eqb-true, not-false}
use mathlib.Core.Bool.{true, not, true≢false}
use mathlib.Core.List.{List, [], ◌∷◌, ◌++◌, map, append_assoc}
use mathlib.Core.Option.{Option, none, some}
use mathlib.Core.Path.{◌≡◌, refl, sym, ◌∙◌, ap, ap₂, subst, subst₂}
use Prim.Native.Nat.{ℕ, zero, suc, ◌+◌, ◌*◌, ◌%◌, ◌^◌, ◌≤◌, ◌<◌}
use native.Mathlib.Nat.{mul-mod_right}
use native.Mathlib.Omega.{arith}
use lib.Dec.{eqb}
use lib.ListN.{length, take, get_or, length-append, take-append-drop}
use Rattle.integer.proofs.Tests.{both, both_first, both-second}
use Rattle.rounding.specs.Limits.{knots_max, readings_max}
use Rattle.scans.specs.Scan.{Scan, grade as grade_of_scan}
use Rattle.scans.specs.Standing.{Standing}
use Rattle.scans.specs.RefusalTable.{first}
use Rattle.scans.proofs.Causes.{Quiet, silent, quiet-both}
use Rattle.block.specs.Fields.{kind, knot_count, edition, header_spare, header_word, position, grade, knot_word, payload, coefficient_word, words_before}
use Rattle.block.specs.Fields.{end_word, reading, reading_word}
use Rattle.block.specs.Bytes.{words, bytes, Below}
use Rattle.block.specs.Block.{plain_edition, scan_words, block_words, block}
use Rattle.block.specs.Reading.{is_edition, is_coefficient, is_end, reading_words, after_readings, length_causes, header_causes, coefficient_causes}
use Rattle.block.specs.Reading.{end_causes, scan_from, behind, knots_causes, words_causes, block_causes, edition_of, knots_from, list_of_words, list_of}
use Rattle.block.specs.View.{readings_from, readings_of_words, readings_of}
use Rattle.block.specs.Carried.{carried_knots, carried_open, carried_words}
use Rattle.block.proofs.Fields.{header-count, header-edition, header_spare_lem, header-kind, header-again, knot-again, coefficient-again, end-again}
use Rattle.block.proofs.Bytes.{below_both, bytes-again, length-bytes, words-again}
use Rattle.block.proofs.Reading.{Header, Taken, taken, read-grade, Accepted, accepted}
use Rattle.block.proofs.Chain.{chain}
use Rattle.block.proofs.ReadingWords.{over-end, readings-again}
use Rattle.block.proofs.ReadBack.{Beside, carried_knots-quiet, carried_knots-back, knots-shown, carried_knots-below}
use Rattle.block.proofs.Written.{plain_knots, carried_knots-length}

-- ---- an accepted block written again

coefficients-again : (n : ℕ) (ws : List ℕ) → Quiet (coefficient_causes n ws) → map coefficient_word (map payload (take n ws)) ≡ take n ws
coefficients-again zero ws q = refl
coefficients-again (suc n) [] q = refl
coefficients-again (suc n) (w ∷ ws) q =
    ap₂ (λ u us. u ∷ us) (coefficient-again w (eqb-true (kind w) 2 (not-false (is_coefficient w) q.0))) (coefficients-again n ws q.1)

-- each knot's words, then those after them
pub scan-again : {e b k n : ℕ} {last : Option Scan} (w : ℕ) (ws : List ℕ) → Taken e b k n last w ws → scan_words (scan_from w ws) ≡ w ∷ take (grade w + 1) ws
scan-again w ws t =
    let same : grade_of_scan (scan_from w ws) ≡ grade w = omega (arith, read-grade w ws t.coefficients) in
    ap₂ (λ u us. u ∷ us) (ap (knot_word (position w)) same ∙ knot-again w t.kind_is t.spare_is) (coefficients-again (grade w + 1) ws t.coefficients)

end_word_again : (b : ℕ) (ws : List ℕ) → Quiet (end_causes b ws) → end_word b ∷ [] ≡ ws
end_word_again b [] q = absurd (true≢false q.0)
end_word_again b (w ∷ []) q =
    let form : is_end b w ≡ true = not-false (is_end b w) q.0 in
    let kind_is : kind w ≡ 3 = eqb-true (kind w) 3 (both_first (eqb (kind w) 3) _ form) in
    let beforeIs : words_before w ≡ b = eqb-true (words_before w) b (both-second (eqb (kind w) 3) _ form) in
    ap (λ u. u ∷ []) (ap end_word (sym beforeIs) ∙ end-again w kind_is)
end_word_again b (w ∷ v ∷ ws) q = absurd (true≢false q.0)

knots-again : (e b k n : ℕ) (last : Option Scan) (ws : List ℕ) → Quiet (knots_causes e b k n last ws) →
    carried_knots (knots_from e n ws) (λ i. get_or (readings_from e n ws) i []) ++ end_word b ∷ [] ≡ ws
knots-again e b k zero last ws q = end_word_again b ws q
knots-again e b k (suc n) last [] q = absurd (true≢false q.0)
knots-again e b k (suc n) last (w ∷ ws) q =
    let t : Taken e b k n last w ws = taken e b k n last w ws q in
    let vs : List ℕ = after_readings e (behind w ws) in
    let scan : List ℕ = scan_words (scan_from w ws) in
    let these : List ℕ = map reading_word (map reading (reading_words e (behind w ws))) in
    let ih : carried_knots (knots_from e n vs) (λ i. get_or (readings_from e n vs) i []) ++ end_word b ∷ [] ≡ vs =
    knots-again e b (suc k) n (some (scan_from w ws)) vs t.later in
    append_assoc (scan ++ these) (carried_knots (knots_from e n vs) (λ i. get_or (readings_from e n vs) i [])) (end_word b ∷ []) ∙
    ap (λ us. scan ++ these ++ us) ih ∙ append_assoc scan these vs ∙
    ap₂ (λ us vs. us ++ vs) (scan-again w ws t) (readings-again e (behind w ws) t.readings) ∙ ap (λ us. w ∷ us) (take-append-drop (grade w + 1) ws)

pub knots-count : (e b k n : ℕ) (last : Option Scan) (ws : List ℕ) → Quiet (knots_causes e b k n last ws) → length (knots_from e n ws) ≡ n
knots-count e b k zero last ws q = refl
knots-count e b k (suc n) last [] q = absurd (true≢false q.0)
knots-count e b k (suc n) last (w ∷ ws) q =
    ap suc (knots-count e b (suc k) n (some (scan_from w ws)) (after_readings e (behind w ws)) (taken e b k n last w ws q).later)

block-again : (w : ℕ) (ws : List ℕ) → Header w → Quiet (knots_causes (edition w) (length ws) 0 (knot_count w) none ws) →
    carried_words (edition w) (list_of_words (w ∷ ws)) (λ i. get_or (readings_of_words (w ∷ ws)) i []) ≡ w ∷ ws
block-again w ws h q =
    let scans : List Scan = list_of_words (w ∷ ws) in
    let knots : List ℕ = carried_knots scans (λ i. get_or (readings_of_words (w ∷ ws)) i []) in
    let again : knots ++ end_word (length ws) ∷ [] ≡ ws = knots-again (edition w) (length ws) 0 (knot_count w) none ws q in
    let count : length scans ≡ knot_count w = knots-count (edition w) (length ws) 0 (knot_count w) none ws q in
    let long : suc (length knots) ≡ length ws = omega (arith, length-append knots (end_word (length ws) ∷ []), ap length again) in
    ap₂ (λ u us. u ∷ us) (ap (λ n. header_word n (edition w)) count ∙ header-again w h.kind_is h.spare_is)
    (ap (λ n. knots ++ end_word n ∷ []) long ∙ again)

-- an accepted block is that of its list and its readings, in its edition
pub accepted-again : (bs : List ℕ) → Below (2 ^ 8) bs → first (block_causes bs) ≡ none →
    bytes (carried_words (edition_of bs) (list_of bs) (readings_of bs)) ≡ bs
unfolding list_of readings_of
accepted-again bs h q =
    let a : Accepted bs = accepted bs q in
    ap (λ us. bytes (carried_words (edition (get_or us 0 0)) (list_of_words us) (λ i. get_or (readings_of_words us) i []))) a.words_are ∙
    ap bytes (block-again a.head a.others a.header a.knots ∙ sym a.words_are) ∙ bytes-again bs a.bytes_fit h

-- ---- a written block read back

length-quiet : (n : ℕ) → 2 ≤ n → Quiet (length_causes (4 * n))
length-quiet n h = (rw (eq-eqb (4 * n % 4) 0 (mul-mod_right 4 n), le-ltb (4 * n) 8 (omega arith)), tt)

header-quiet : (n e : ℕ) → n ≤ knots_max → e < 2 ^ 8 → is_edition e ≡ true → Quiet (header_causes (header_word n e))
header-quiet n e h small read =
    let w : ℕ = header_word n e in
    let count : knot_count w ≡ n = header-count n e (omega arith) in (
      ap not (both (eq-eqb (kind w) 0 (header-kind n e (omega arith) small)) (both (ap is_edition (header-edition n e (omega arith) small) ∙ read)
          (eq-eqb (header_spare w) 0 (header_spare_lem n e (omega arith) small)))),
      (le-ltb knots_max (knot_count w) (rw count h), tt),
    )

-- scans that stand, with readings beside each, in a block of an edition e that is read
module _ (e : ℕ) (small : e < 2 ^ 8) (read : is_edition e ≡ true) (scans : List Scan) (readings : ℕ → List ℕ) (st : Standing scans)
    (r : Beside e scans readings) where
  abbrev head : ℕ
  head = header_word (length scans) e

  abbrev before : ℕ
  before = length (carried_open e scans readings)

  abbrev after : List ℕ
  after = carried_knots scans readings ++ end_word before ∷ []

  open_length : before < 2 ^ 29
  open_length = omega (arith, carried_knots-length readings_max 0 none scans readings (chain scans st) (λ i l. (r i l).few), st.count)

  after-length : length after ≡ before
  after-length = omega (arith, length-append (carried_knots scans readings) (end_word before ∷ []))

  count-back : knot_count head ≡ length scans
  count-back = header-count (length scans) e (omega (arith, st.count))

  edition-back : edition head ≡ e
  edition-back = header-edition (length scans) e (omega (arith, st.count)) small

  words-quiet : Quiet (words_causes (head ∷ after))
  words-quiet =
      quiet-both (header_causes head) (knots_causes (edition head) (length after) 0 (knot_count head) none after)
      (header-quiet (length scans) e st.count small read)
      (subst (λ d. Quiet (knots_causes d (length after) 0 (knot_count head) none after)) (sym edition-back)
      (subst₂ (λ b n. Quiet (knots_causes e b 0 n none after)) (sym after-length) (sym count-back)
      (carried_knots-quiet e before open_length 0 none scans readings (chain scans st) r)))

  words-read : words (bytes (carried_words e scans readings)) ≡ head ∷ after
  words-read =
      words-again (carried_words e scans readings) (
        omega (arith, st.count),
        below_both (2 ^ 32) (carried_knots scans readings) _ (carried_knots-below e 0 none scans readings (chain scans st) r)
            (omega (arith, open_length), tt),
      )

  -- it is accepted, its list is those scans, and the readings of its knots are those
  pub carried_accepted : first (block_causes (bytes (carried_words e scans readings))) ≡ none
  unfolding block_causes
  carried_accepted =
      let bs : List ℕ = bytes (carried_words e scans readings) in
      silent (block_causes bs)
      (quiet-both (length_causes (length bs)) (words_causes (words bs))
      (subst (λ n. Quiet (length_causes n)) (sym (length-bytes (head ∷ after))) (length-quiet (length (head ∷ after)) (omega (arith, after-length))))
      (subst (λ ws. Quiet (words_causes ws)) (sym words-read) words-quiet))

  pub carried_list : list_of (bytes (carried_words e scans readings)) ≡ scans
  unfolding list_of
  carried_list =
      ap list_of_words words-read ∙ ap₂ (λ d n. knots_from d n after) edition-back count-back ∙
      carried_knots-back e (end_word before ∷ []) (over-end before open_length) 0 none scans readings (chain scans st) r

  pub carried_shown : (k : ℕ) → k < length scans → readings_of (bytes (carried_words e scans readings)) k ≡ readings k
  unfolding readings_of
  carried_shown k h =
      ap (λ us. get_or (readings_of_words us) k []) words-read ∙ ap₂ (λ d n. get_or (readings_from d n after) k []) edition-back count-back ∙
      knots-shown e (end_word before ∷ []) (over-end before open_length) 0 none scans readings (chain scans st) r k h

-- ---- edition 1: no readings

plain_words : (scans : List Scan) (readings : ℕ → List ℕ) → ((i : ℕ) → readings i ≡ []) → carried_words plain_edition scans readings ≡ block_words scans
plain_words scans readings h =
    let head : ℕ = header_word (length scans) plain_edition in
    ap (λ us. head ∷ us ++ end_word (length (head ∷ us)) ∷ []) (plain_knots scans readings h)

none_from : (n : ℕ) (ws : List ℕ) (i : ℕ) → get_or (readings_from plain_edition n ws) i [] ≡ []
none_from zero ws i = refl
none_from (suc n) [] i = refl
none_from (suc n) (w ∷ ws) zero = refl
none_from (suc n) (w ∷ ws) (suc i) = none_from n (behind w ws) i

none_shown : (ws : List ℕ) → edition (get_or ws 0 0) ≡ plain_edition → (i : ℕ) → get_or (readings_of_words ws) i [] ≡ []
none_shown [] plain i = refl
none_shown (w ∷ ws) plain i = ap (λ e. get_or (readings_from e (knot_count w) ws) i []) plain ∙ none_from (knot_count w) ws i

-- the block of the list of an accepted block of edition 1 is that block
pub accepted-written : (bs : List ℕ) → Below (2 ^ 8) bs → first (block_causes bs) ≡ none → edition_of bs ≡ plain_edition → block (list_of bs) ≡ bs
unfolding block readings_of
accepted-written bs h q plain =
    ap bytes (sym (plain_words (list_of bs) (readings_of bs) (none_shown (words bs) plain))) ∙
    ap (λ e. bytes (carried_words e (list_of bs) (readings_of bs))) (sym plain) ∙ accepted-again bs h q

-- every block of scans that stand is accepted, and its list is those scans
plain_block : (scans : List Scan) → bytes (carried_words plain_edition scans (λ i. [])) ≡ block scans
unfolding block
plain_block scans = ap bytes (plain_words scans (λ i. []) (λ i. refl))

pub none_beside : (scans : List Scan) → Beside plain_edition scans (λ i. [])
none_beside scans i h = record { here = refl; few = omega arith; small = tt }

pub written-accepted : (scans : List Scan) → Standing scans → first (block_causes (block scans)) ≡ none
written-accepted scans st =
    ap (λ bs. first (block_causes bs)) (sym (plain_block scans)) ∙
    carried_accepted plain_edition (omega arith) refl scans (λ i. []) st (none_beside scans)

pub written-list : (scans : List Scan) → Standing scans → list_of (block scans) ≡ scans
written-list scans st =
    ap list_of (sym (plain_block scans)) ∙ carried_list plain_edition (omega arith) refl scans (λ i. []) st (none_beside scans)
