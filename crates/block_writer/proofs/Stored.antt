-- How far writing has come: words are stored behind one another, and those still to come, stored from here on, make the whole.
use mathlib.Core.List.{List, [], ◌∷◌, ◌++◌, map}
use mathlib.Core.Path.{◌≡◌, refl, sym, ◌∙◌, ap}
use Prim.Native.Nat.{ℕ, ◌+◌, ◌*◌, ◌≤◌, ◌<◌}
use native.Mathlib.Nat.{zero-add, add-zero}
use native.Mathlib.Numerals.{add-one}
use native.Mathlib.Omega.{arith}
use lib.IntN.{ℤ, pos}
use lib.ListN.{length, take, drop, get_or, length-append, length-map, drop_of_length-le}
use lib.Seq.{sets, sets-eq, length-sets, drop-cons}
use Rattle.scans.specs.Scan.{grade, scan_of}
use Rattle.knot.specs.Machine.{scan, scans}
use Rattle.knot.specs.declared.held.Knot.{Knot}
use Rattle.knot.proofs.Lists.{length-scans, at_scans, list_length, scan-grade}
use Rattle.block.specs.Fields.{header_word, knot_word, coefficient_word, end_word}
use Rattle.block.specs.Bytes.{bytes_of, bytes}
use Rattle.block.proofs.Bytes.{words_stored}
use Rattle.block.specs.Block.{block, block_words, plain_edition, knots_words, open_words, scan_words, written}

pub scan-words : (k : Knot) → length (scan_words (scan k)) ≡ k.grade + 2
scan-words k = omega (arith, length-map (take (k.grade + 1) k.coefficients) coefficient_word, list_length k)

-- ---- words stored behind one another

-- the words ws go in the places from a on: the rest of them, stored from place b on, make the whole
pub record Left (before : List ℕ) (a : ℕ) (ws out : List ℕ) (b : ℕ) (rest : List ℕ) : Type 0 where
  pub same : length out ≡ length before
  pub whole : sets out (4 * b) (bytes rest) ≡ sets before (4 * a) (bytes ws)

all_left : (before : List ℕ) (a : ℕ) (ws : List ℕ) → Left before a ws before a ws
all_left before a ws = record { same = refl; whole = refl }

fewer-left : {before ws out out' : List ℕ} {a b b' : ℕ} (us rest : List ℕ) → Left before a ws out b (us ++ rest) → out' ≡ sets out (4 * b) (bytes us) →
    b' ≡ b + length us → Left before a ws out' b' rest
fewer-left {out = out} {b = b} us rest left stored next = record {
  same = ap length stored ∙ length-sets out (4 * b) (bytes us) ∙ left.same;
  whole = rw (stored, next) (sym (words_stored out b us rest) ∙ left.whole);
}

-- ---- a knot: j of its coefficient words are stored behind its word at i

abbrev pub Coefficients : List ℕ → ℕ → List ℤ → List ℕ → ℕ → Type 0
Coefficients before i list out j = Left before (i + 1) (map coefficient_word list) out (i + 1 + j) (map coefficient_word (drop j list))

module _ (before : List ℕ) (i : ℕ) (list : List ℤ) (out : List ℕ) (j : ℕ) (come : Coefficients before i list out j) where
  pub one_stored : j < length list → (out' : List ℕ) (w : ℕ) → w ≡ coefficient_word (get_or list j (pos 0)) →
      out' ≡ sets out (4 * (i + 1 + j)) (bytes_of w) → Coefficients before i list out' (j + 1)
  one_stored h out' w e stored =
      let next : drop j list ≡ get_or list j (pos 0) ∷ drop (j + 1) list = rw (add-one j) (drop-cons list j (pos 0) h) in
      fewer-left (coefficient_word (get_or list j (pos 0)) ∷ []) (map coefficient_word (drop (j + 1) list)) (rw next at come) (rw e at stored) (omega arith)

  -- all of them, with the knot word before them
  pub knot_stored : (k : Knot) → list ≡ (scan k).coefficients → length list ≤ j → (l : List ℕ) (w : ℕ) → w ≡ knot_word k.position k.grade →
      before ≡ sets l (4 * i) (bytes_of w) → out ≡ sets l (4 * i) (bytes (scan_words (scan k)))
  knot_stored k of h l w e first =
      let word : w ≡ knot_word k.position (grade (scan k)) = e ∙ ap (knot_word k.position) (sym (scan-grade k)) in
      let coefficients = map coefficient_word (scan k).coefficients in
      let all : out ≡ sets before (4 * (i + 1)) (bytes (map coefficient_word list)) = rw (drop_of_length-le list {i = j} h) at come.whole in
      all ∙ ap (λ c. sets before (4 * (i + 1)) (bytes (map coefficient_word c))) of ∙
      ap (λ s. sets s (4 * (i + 1)) (bytes coefficients)) (rw word at first) ∙
      sym (words_stored l i (knot_word k.position (grade (scan k)) ∷ []) coefficients)

-- ---- a block: k of its knots are stored behind its header, and word i is the next

pub record Knots (before : List ℕ) (knots : List Knot) (out : List ℕ) (i k : ℕ) : Type 0 where
  pub place : i ≤ 9 * k + 1
  pub count : i + length (knots_words (drop k (scans knots))) ≡ 1 + length (knots_words (scans knots))
  pub left : Left before 1 (knots_words (scans knots)) out i (knots_words (drop k (scans knots)))

module _ (before : List ℕ) (knots : List Knot) where
  pub no_knot_lem : Knots before knots before 1 0
  no_knot_lem = record { place = omega arith; count = refl; left = all_left before 1 (knots_words (scans knots)) }

  module _ (out : List ℕ) (i k : ℕ) (come : Knots before knots out i k) where
    module _ (knot : Knot) (read : knot ≡ get_or knots k knot) (h : k < length knots) where
      words_next : knots_words (drop k (scans knots)) ≡ scan_words (scan knot) ++ knots_words (drop (k + 1) (scans knots))
      words_next =
          let inside : k < length (scans knots) = omega (arith, length-scans knots) in
          let next : drop k (scans knots) ≡ scan knot ∷ drop (k + 1) (scans knots) =
          rw (add-one k, drop-cons (scans knots) k (scan_of 0 []) inside, at_scans knots k knot h, ← read) refl in
          ap knots_words next

      -- it has room
      pub knot-fits : i + (knot.grade + 2) ≤ 1 + length (knots_words (scans knots))
      knot-fits =
          omega (arith, come.count, ap length words_next, length-append (scan_words (scan knot)) (knots_words (drop (k + 1) (scans knots))), scan-words knot)

      pub one-knot : (out' : List ℕ) (i' : ℕ) → i' ≡ i + (knot.grade + 2) → out' ≡ sets out (4 * i) (bytes (scan_words (scan knot))) →
          Knots before knots out' i' (k + 1)
      one-knot out' i' next stored =
          let words = scan_words (scan knot) in
          let rest = knots_words (drop (k + 1) (scans knots)) in
          record {
            place = omega (arith, next, come.place, knot.graded);
            count = omega (arith, next, come.count, ap length words_next, length-append words rest, scan-words knot);
            left = fewer-left words rest (rw words_next at come.left) stored (omega (arith, next, scan-words knot));
          }

    module _ (h : length knots ≤ k) where
      none_next : knots_words (drop k (scans knots)) ≡ []
      none_next = ap knots_words (drop_of_length-le (scans knots) {i = k} (omega (arith, length-scans knots)))

      pub all-counted : i ≡ 1 + length (knots_words (scans knots))
      all-counted = omega (arith, come.count, ap length none_next)

      -- with the header before them, and the end word after them
      pub block_stored : (l out' : List ℕ) (v w : ℕ) → v ≡ header_word (length knots) plain_edition → before ≡ sets l 0 (bytes_of v) → w ≡ end_word i →
          out' ≡ sets out (4 * i) (bytes_of w) →
          length (block (scans knots)) ≤ length l → out' ≡ written (scans knots) l
      unfolding block
      block_stored l out' v w head first end last fits =
          let all = scans knots in
          let stored : out ≡ sets before 4 (bytes (knots_words all)) = rw none_next at come.left.whole in
          let count : i ≡ length (open_words all) = omega (arith, all-counted) in
          let header : v ≡ header_word (length all) plain_edition = rw (length-scans knots) head in
          let ends : w ≡ end_word (length (open_words all)) = end ∙ ap end_word count in
          let last_word = end_word (length (open_words all)) ∷ [] in
          let opened : Left l 0 (block_words all) before 1 (knots_words all ++ last_word) =
          fewer-left (header_word (length all) plain_edition ∷ []) (knots_words all ++ last_word)
          (all_left l 0 (block_words all)) (rw header at first) refl in
          let filled : Left l 0 (block_words all) out i last_word = fewer-left (knots_words all) last_word opened stored all-counted in
          let closed : Left l 0 (block_words all) out' (i + 1) [] = fewer-left last_word [] filled (rw ends at last) refl in
          closed.whole ∙ sets-eq (block all) l 0 (omega (arith, fits)) ∙ ap (λ m. block all ++ drop m l) (zero-add (length (block all)))
