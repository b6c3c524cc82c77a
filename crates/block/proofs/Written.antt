-- The list of an accepted block stands; a written block has at most 4,652 bytes, and an accepted one at most 21,164.
use borrow.Author.Tests.{ltb-false}
use mathlib.Core.Bool.{true≢false}
use mathlib.Core.List.{List, [], ◌∷◌, ◌++◌, map, append-nil}
use mathlib.Core.Option.{Option, none, some}
use mathlib.Core.Path.{◌≡◌, refl, sym, ◌∙◌, ap, ap₂}
use Prim.Native.Nat.{ℕ, zero, suc, ◌+◌, ◌*◌, ◌/◌, ◌^◌, ◌≤◌, ◌<◌}
use native.Mathlib.Nat.{mod-lt}
use native.Mathlib.Omega.{arith}
use lib.ListN.{length, length-append, length-map, length-drop}
use lib.Seq.{append_snoc, get_or-append_seam}
use Rattle.rounding.specs.Limits.{knots_max, grade_max, readings_max}
use Rattle.rounding.specs.Size.{Listed}
use Rattle.scans.specs.Scan.{Scan, scan_of, before}
use Rattle.scans.specs.Standing.{Standing}
use Rattle.scans.specs.RefusalTable.{first}
use Rattle.scans.proofs.Causes.{Quiet}
use Rattle.scans.proofs.Lists.{last_at}
use Rattle.scans.proofs.Standing.{standing_none, appended_standing}
use Rattle.block.specs.Fields.{knot_count, edition, grade, coefficient_word, end_word, reading_word}
use Rattle.block.specs.Block.{scan_words, knots_words, open_words, block_words, block, written_max, block_max}
use Rattle.block.specs.Reading.{reading_words, after_readings, reading_causes, end_causes, scan_from, behind, knots_causes, block_causes, knots_from, list_of}
use Rattle.block.specs.Carried.{carried_knots}
use Rattle.block.proofs.Bytes.{length-bytes, length-words}
use Rattle.block.proofs.Chain.{Chain, chain}
use Rattle.block.proofs.Reading.{Taken, taken, read-grade, Accepted, accepted}

-- ---- the bytes of a block: a knot has at most 9 words, and those of its readings

-- the words of knots without readings
pub plain_knots : (scans : List Scan) (readings : ℕ → List ℕ) → ((i : ℕ) → readings i ≡ []) → carried_knots scans readings ≡ knots_words scans
plain_knots [] readings h = refl
plain_knots (s ∷ scans) readings h =
    ap₂ (λ xs us. scan_words s ++ map reading_word xs ++ us) (h 0) (plain_knots scans (λ i. readings (suc i)) (λ i. h (suc i))) ∙
    ap (λ us. us ++ knots_words scans) (append-nil (scan_words s))

pub carried_knots-length : (m k : ℕ) (last : Option Scan) (scans : List Scan) (readings : ℕ → List ℕ) → Chain k last scans →
    ((i : ℕ) → i < length scans → length (readings i) ≤ m) → length (carried_knots scans readings) ≤ (9 + m) * length scans
carried_knots-length m k last [] readings c few = omega arith
carried_knots-length m k last (s ∷ scans) readings c few =
    let rest : ℕ → List ℕ = λ i. readings (suc i) in
    omega (
      arith,
      length-append (scan_words s ++ map reading_word (readings 0)) (carried_knots scans rest),
      length-append (scan_words s) (map reading_word (readings 0)),
      length-map s.coefficients coefficient_word,
      length-map (readings 0) reading_word,
      c.0.listed.at_most,
      few 0 (omega arith),
      carried_knots-length m (suc k) (some s) scans rest c.1 (λ i l. few (suc i) (omega arith)),
    )

-- a header, the knots' words and the end word
pub block_words_lem : (scans : List Scan) → length (block scans) ≡ 4 * (2 + length (knots_words scans))
unfolding block
block_words_lem scans =
    omega (arith, length-bytes (block_words scans), length-append (knots_words scans) (end_word (length (open_words scans)) ∷ []))

pub block-length : (scans : List Scan) → Standing scans → length (block scans) ≤ written_max
unfolding block
block-length scans st =
    omega (
      arith,
      length-bytes (block_words scans),
      length-append (knots_words scans) (end_word (length (open_words scans)) ∷ []),
      ap length (plain_knots scans (λ i. []) (λ i. refl)),
      carried_knots-length 0 0 none scans (λ i. []) (chain scans st) (λ i l. omega arith),
      st.count,
    )

-- ---- the list of a block: what was read so far stands, and each knot may follow it

last-new : (done : List Scan) (s : Scan) → some s ≡ before (done ++ s ∷ []) (length (done ++ s ∷ []))
last-new done s = sym (last_at (done ++ s ∷ []) (length done) (omega (arith, length-append done (s ∷ []))) ∙ ap some (get_or-append_seam done s [] (scan_of 0 [])))

read-listed : (w : ℕ) (ws : List ℕ) → length (scan_from w ws).coefficients ≡ grade w + 1 → Listed (scan_from w ws).coefficients
read-listed w ws e = record { at_least = omega arith; at_most = omega (arith, mod-lt (w / 2 ^ 16) {m = 2 ^ 3} (omega arith)) }

knots-standing : (e b k n : ℕ) (done : List Scan) (last : Option Scan) (ws : List ℕ) → Standing done → k ≡ length done → last ≡ before done (length done) →
    length done + n ≤ knots_max → Quiet (knots_causes e b k n last ws) → Standing (done ++ knots_from e n ws)
knots-standing e b k zero done last ws st i l m q = rw append-nil st
knots-standing e b k (suc n) done last [] st i l m q = absurd (true≢false q.0)
knots-standing e b k (suc n) done last (w ∷ ws) st i l m q =
    let t : Taken e b k n last w ws = taken e b k n last w ws q in
    let s : Scan = scan_from w ws in
    let st' : Standing (done ++ s ∷ []) =
    appended_standing done s st (omega arith) (read-listed w ws (read-grade w ws t.coefficients)) (rw l at t.place) (rw (i, l) at t.size) in
    rw append_snoc at
    (knots-standing e b (suc k) n (done ++ s ∷ []) (some s) (after_readings e (behind w ws)) st' (omega (arith, length-append done (s ∷ []))) (last-new done s)
    (omega (arith, length-append done (s ∷ []))) t.later)

pub read-standing : (bs : List ℕ) → first (block_causes bs) ≡ none → Standing (list_of bs)
unfolding list_of
read-standing bs e =
    let a : Accepted bs = accepted bs e in
    rw a.words_are (knots-standing (edition a.head) (length a.others) 0 (knot_count a.head) [] none a.others standing_none refl refl
    (omega (arith, a.header.count)) a.knots)

-- ---- the bytes of an accepted block

-- the words that a knot takes at most: its own, its coefficients and its readings
abbrev pub knot_words_max : ℕ
knot_words_max = 1 + (grade_max + 1) + readings_max

pub readings-few : (count : ℕ) (ws : List ℕ) → count ≤ readings_max → Quiet (reading_causes count ws) → count + length ws ≤ readings_max
readings-few count [] h q = omega arith
readings-few count (w ∷ ws) h q = omega (arith, readings-few (suc count) ws (ltb-false readings_max (suc count) q.1.0) q.1.1)

end-length : (b : ℕ) (ws : List ℕ) → Quiet (end_causes b ws) → length ws ≡ 1
end-length b [] q = absurd (true≢false q.0)
end-length b (w ∷ []) q = refl
end-length b (w ∷ v ∷ over) q = absurd (true≢false q.0)

words-most : (e b k n : ℕ) (last : Option Scan) (ws : List ℕ) → Quiet (knots_causes e b k n last ws) → length ws ≤ knot_words_max * n + 1
words-most e b k zero last ws q = omega (arith, end-length b ws q)
words-most e b k (suc n) last [] q = omega arith
words-most e b k (suc n) last (w ∷ ws) q =
    let t : Taken e b k n last w ws = taken e b k n last w ws q in
    omega (
      arith,
      length-drop (grade w + 1) ws,
      mod-lt (w / 2 ^ 16) {m = 2 ^ 3} (omega arith),
      length-drop (length (reading_words e (behind w ws))) (behind w ws),
      readings-few 0 (reading_words e (behind w ws)) (omega arith) t.readings,
      words-most e b (suc k) n (some (scan_from w ws)) (after_readings e (behind w ws)) t.later,
    )

pub accepted-length : (bs : List ℕ) → first (block_causes bs) ≡ none → length bs ≤ block_max
accepted-length bs h =
    let a : Accepted bs = accepted bs h in
    omega (
      arith,
      length-words bs,
      ap length a.words_are,
      a.bytes_fit,
      a.header.count,
      words-most (edition a.head) (length a.others) 0 (knot_count a.head) none a.others a.knots,
    )
