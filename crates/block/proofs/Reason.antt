-- Request 6/14: of the faults of a block only those of size are 6, and a block that is refused with 6 has a product that is too large.
use mathlib.Core.Bool.{true≢false}
use mathlib.Core.List.{List, [], ◌∷◌, ◌++◌}
use mathlib.Core.Option.{Option, none, some, some-ne-none}
use mathlib.Core.Path.{◌≡◌, refl, sym, ◌∙◌, ap}
use Prim.Native.Nat.{ℕ, zero, suc, ◌+◌}
use lib.ListN.{length}
use Rattle.scans.specs.Scan.{Scan}
use Rattle.scans.specs.SizeRule.{Spot, Product, append_products, turn_products, first_too_large}
use Rattle.scans.specs.RefusalTable.{first, bad_size, size_causes}
use Rattle.scans.proofs.Causes.{first-later}
use Rattle.scans.proofs.SizeRule.{large_found, large_later}
use Rattle.scans.proofs.Reason.{Others, others, others-passed}
use Rattle.block.specs.Fields.{knot_count, edition, position, grade}
use Rattle.block.specs.Bytes.{words}
use Rattle.block.specs.Reading.{reading_words, after_readings, length_causes, header_causes, knot_causes, coefficient_causes, reading_causes, end_causes}
use Rattle.block.specs.Reading.{scan_from, behind, knots_causes, words_causes, block_causes, knots_from, list_of_words, list_of}
use Rattle.block.proofs.Steps.{readings_on, size_on, after_word, in_order}

-- ---- the faults of words

coefficient-others : (n : ℕ) (ws : List ℕ) → Others (coefficient_causes n ws)
coefficient-others zero ws = tt
coefficient-others (suc n) [] = (refl, tt)
coefficient-others (suc n) (w ∷ ws) = (refl, coefficient-others n ws)

pub reading-others : (count : ℕ) (ws : List ℕ) → Others (reading_causes count ws)
reading-others count [] = tt
reading-others count (w ∷ ws) = (refl, (refl, reading-others (suc count) ws))

pub end-others : (before : ℕ) (ws : List ℕ) → Others (end_causes before ws)
end-others before [] = (refl, tt)
end-others before (w ∷ []) = (refl, tt)
end-others before (w ∷ v ∷ over) = (refl, tt)

-- ---- a 6 is that of a knot's size

-- knot k, from its size on: it is too large, or the 6 comes later
module _ (e b k n : ℕ) (last : Option Scan) (s : Scan) (ws : List ℕ) where
  abbrev here : List Product
  here = append_products k last s

  abbrev later : List Product
  later = turn_products (suc k) (some s) (knots_from e n (after_readings e ws))

  size_or_later : first (size_causes k last s ++ readings_on e b k n s ws) ≡ some 6 → first_too_large (here ++ later) ≡ none →
      (first (knots_causes e b (suc k) n (some s) (after_readings e ws)) ≡ some 6 → first_too_large later ≡ none → ⊥) → ⊥
  size_or_later six kept after = go (first_too_large here) refl
    where
      go : (found : Option Spot) → first_too_large here ≡ found → ⊥
      go (some spot) found = some-ne-none _ (sym (large_found here later found) ∙ kept)
      go none found =
          after
          (others-passed (reading_causes 0 (reading_words e ws)) (knots_causes e b (suc k) n (some s) (after_readings e ws))
          (reading-others 0 (reading_words e ws))
          (sym (first-later (size_causes k last s) (readings_on e b k n s ws) (ap (λ f. first (bad_size f ∷ [])) found)) ∙ six))
          (sym (large_later here later found) ∙ kept)

knots_six : (e b k n : ℕ) (last : Option Scan) (ws : List ℕ) → first (knots_causes e b k n last ws) ≡ some 6 →
    first_too_large (turn_products k last (knots_from e n ws)) ≡ none → ⊥
knots_six e b k zero last ws six kept = true≢false (others (end_causes b ws) (end-others b ws) six)
knots_six e b k (suc n) last [] six kept = true≢false (others (knots_causes e b k (suc n) last []) (refl, tt) six)
knots_six e b k (suc n) last (w ∷ ws) six kept =
    size_or_later e b k n last (scan_from w ws) (behind w ws)
    (others-passed (coefficient_causes (grade w + 1) ws) (size_on e b k n last (position w) (grade w) ws) (coefficient-others (grade w + 1) ws)
    (others-passed (knot_causes last w) (after_word e b k n last (position w) (grade w) ws) (refl, (refl, (refl, tt)))
    (ap first (sym (in_order e b k n last w ws)) ∙ six)))
    kept (knots_six e b (suc k) n (some (scan_from w ws)) (after_readings e (behind w ws)))

words_six : (ws : List ℕ) → first (words_causes ws) ≡ some 6 → first_too_large (turn_products 0 none (list_of_words ws)) ≡ none → ⊥
words_six [] six kept = true≢false (others (words_causes []) (refl, tt) six)
words_six (w ∷ ws) six kept =
    knots_six (edition w) (length ws) 0 (knot_count w) none ws
    (others-passed (header_causes w) (knots_causes (edition w) (length ws) 0 (knot_count w) none ws) (refl, (refl, tt)) six) kept

pub block_six : (bs : List ℕ) → first (block_causes bs) ≡ some 6 → first_too_large (turn_products 0 none (list_of bs)) ≡ none → ⊥
unfolding block_causes list_of
block_six bs six kept =
    words_six (words bs) (others-passed (length_causes (length bs)) (words_causes (words bs)) (refl, tt) six) kept
