-- Request 1/14: the order of a view's causes, which readings it shows, and where they stand among the words of a block.
use mathlib.Core.Bool.{Bool, true, false, true≢false}
use borrow.Author.Tests.{le-leb, lt-leb, eq-eqb, ne_eqb}
use mathlib.Core.List.{List, [], ◌∷◌}
use mathlib.Core.Option.{Option, none, some}
use mathlib.Core.Path.{◌≡◌, refl, sym, ◌∙◌, ap}
use Prim.Native.Nat.{ℕ, zero, suc, ◌+◌, ◌-◌, ◌*◌, ◌≤◌, ◌<◌}
use native.Mathlib.Omega.{arith}
use lib.Dec.{eqb}
use lib.ListN.{length, take, drop, get_elem?}
use Rattle.scans.specs.Scan.{Scan}
use Rattle.scans.specs.RefusalTable.{first, no_knot, zero_stride}
use Rattle.scans.proofs.Causes.{Quiet, first_found, first-later}
use Rattle.scans.proofs.Reason.{others}
use Rattle.block.specs.Block.{readings_edition}
use Rattle.block.specs.Reading.{is_reading, leading_readings, reading_words, knots_causes, block_causes, list_of}
use Rattle.block.specs.View.{view_causes, every_after, every_nth}

-- ---- the causes of a view, in their order: the reader's own, 9, 11

module _ (bs : List ℕ) (k n : ℕ) where
  pub reader_first : {m : ℕ} → first (block_causes bs) ≡ some m → first (view_causes bs k n) ≡ some m
  unfolding view_causes
  reader_first e = first_found (block_causes bs) _ e

  module _ (quiet : first (block_causes bs) ≡ none) where
    after_reader : first (view_causes bs k n) ≡ first (no_knot k (length (list_of bs)) ∷ zero_stride n ∷ [])
    unfolding view_causes
    after_reader = first-later (block_causes bs) (no_knot k (length (list_of bs)) ∷ zero_stride n ∷ []) quiet

    pub knot-after_reader : length (list_of bs) ≤ k → first (view_causes bs k n) ≡ some 9
    knot-after_reader h = after_reader ∙ rw (le-leb (length (list_of bs)) k h) refl

    pub stride-after-knot : k < length (list_of bs) → n ≡ 0 → first (view_causes bs k n) ≡ some 11
    stride-after-knot h e = after_reader ∙ rw (lt-leb (length (list_of bs)) k h, eq-eqb n 0 e) refl

    pub view_free : k < length (list_of bs) → (n ≡ 0 → ⊥) → first (view_causes bs k n) ≡ none
    view_free h d = after_reader ∙ rw (lt-leb (length (list_of bs)) k h, ne_eqb n 0 d) refl

  -- of these only the reader's own can be 6
  pub view_six : first (view_causes bs k n) ≡ some 6 → first (block_causes bs) ≡ some 6
  view_six six = go (first (block_causes bs)) refl
    where
      go : (found : Option ℕ) → first (block_causes bs) ≡ found → found ≡ some 6
      go none e = absurd (true≢false (others (no_knot k (length (list_of bs)) ∷ zero_stride n ∷ []) (refl, (refl, tt)) (sym (after_reader e) ∙ six)))
      go (some m) e = sym (reader_first e) ∙ six

-- ---- what it shows

every_after_lem : (n over : ℕ) (xs : List ℕ) (i : ℕ) → 0 < n → get_elem? (every_after n over xs) i ≡ get_elem? xs (over + i * n)
every_after_lem n over [] i h = refl
every_after_lem n zero (x ∷ xs) zero h = let here : 0 ≡ 0 + 0 * n = omega arith in ap (get_elem? (x ∷ xs)) here
every_after_lem n zero (x ∷ xs) (suc i) h =
    let there : suc (n - 1 + i * n) ≡ 0 + suc i * n = omega arith in
    every_after_lem n (n - 1) xs i h ∙ ap (get_elem? (x ∷ xs)) there
every_after_lem n (suc over) (x ∷ xs) i h =
    let there : suc (over + i * n) ≡ suc over + i * n = omega arith in
    every_after_lem n over xs i h ∙ ap (get_elem? (x ∷ xs)) there

-- "every n-th reading, first one included": the i-th shown is reading i × n
pub every_nth_lem : (n : ℕ) (xs : List ℕ) (i : ℕ) → 0 < n → get_elem? (every_nth n xs) i ≡ get_elem? xs (i * n)
every_nth_lem n xs i h = let here : 0 + i * n ≡ i * n = omega arith in every_after_lem n 0 xs i h ∙ ap (get_elem? xs) here

-- ---- where the readings of a knot stand

-- the reading words are the first words
leading_first : (ws : List ℕ) → take (length (leading_readings ws)) ws ≡ leading_readings ws
leading_first [] = refl
leading_first (w ∷ ws) = go (is_reading w) refl (leading_first ws)
  where
    go : (b : Bool) → is_reading w ≡ b → take (length (leading_readings ws)) ws ≡ leading_readings ws →
        take (length (leading_readings (w ∷ ws))) (w ∷ ws) ≡ leading_readings (w ∷ ws)
    go true e rest = rw e (ap (λ us. w ∷ us) rest)
    go false e rest = rw e refl

pub readings-first : (e : ℕ) (ws : List ℕ) → take (length (reading_words e ws)) ws ≡ reading_words e ws
readings-first e ws = go (eqb e readings_edition) refl
  where
    go : (b : Bool) → eqb e readings_edition ≡ b → take (length (reading_words e ws)) ws ≡ reading_words e ws
    go true h = rw h (leading_first ws)
    go false h = rw h refl

-- where a knot is due, there is a word
pub knot-there : (e b k n : ℕ) (last : Option Scan) (ws : List ℕ) (i : ℕ) → Quiet (knots_causes e b k (suc n) last (drop i ws)) → i < length ws
knot-there e b k n last [] zero q = absurd (true≢false q.0)
knot-there e b k n last [] (suc i) q = absurd (true≢false q.0)
knot-there e b k n last (w ∷ ws) zero q = omega arith
knot-there e b k n last (w ∷ ws) (suc i) q = omega (arith, knot-there e b k n last ws i q)
