-- Reading, in word order: which fault is found first, and what reading comes to next; at word i of a block that has the words ws, whether
-- there is such a word or not.
use mathlib.Core.Bool.{true, false, true≢false}
use mathlib.Core.List.{List, [], ◌∷◌, ◌++◌, map, append_assoc}
use mathlib.Core.Option.{Option, none, some, some-ne-none}
use mathlib.Core.Path.{◌≡◌, refl, sym, ◌∙◌, ap}
use Prim.Native.Nat.{ℕ, zero, suc, ◌+◌, ◌<◌}
use native.Mathlib.Omega.{arith}
use borrow.Author.Tests.{eq-eqb, ne_eqb}
use lib.ListN.{length, take, drop, get_or}
use Rattle.scans.specs.Scan.{Scan, scan_of}
use Rattle.scans.specs.RefusalTable.{Cause, first, size_causes}
use Rattle.scans.proofs.Causes.{first_found, first-later}
use Rattle.block.specs.Fields.{kind, position, grade, payload}
use Rattle.block.specs.Block.{readings_edition}
use Rattle.block.specs.Reading.{is_header, is_knot, is_reading, clear_reading, leading_readings, reading_words, after_readings, header_causes, knot_causes}
use Rattle.block.specs.Reading.{coefficient_causes, reading_causes, scan_from, behind, knots_causes, knots_from}

-- ---- the form of a word comes first: 1, whatever knot count or position its bits say

pub header_form : (w : ℕ) → is_header w ≡ false → first (header_causes w) ≡ some 1
header_form w e = rw e refl

pub knot_form : (last : Option Scan) (w : ℕ) → is_knot w ≡ false → first (knot_causes last w) ≡ some 1
knot_form last w e = rw e refl

pub reading_form : (count w : ℕ) (ws : List ℕ) → clear_reading w ≡ false → first (reading_causes count (w ∷ ws)) ≡ some 1
reading_form count w ws e = rw e refl

-- ---- a knot word is due

-- b words stand before the end word, in a block of edition e; r knots come after knot k, the one with the scan s: its readings, and those knots
module _ (e b k r : ℕ) where
  abbrev pub readings_on : Scan → List ℕ → List Cause
  readings_on s ws = reading_causes 0 (reading_words e ws) ++ knots_causes e b (suc k) r (some s) (after_readings e ws)

  -- what comes after the coefficient words of a knot, x and m being the fields of its word and ws the words after it: its size, and the rest
  abbrev pub size_on : Option Scan → ℕ → ℕ → List ℕ → List Cause
  size_on last x m ws =
      let s = scan_of x (map payload (take (m + 1) ws)) in
      size_causes k last s ++ readings_on s (drop (m + 1) ws)

  -- and from its first coefficient word on
  abbrev pub after_word : Option Scan → ℕ → ℕ → List ℕ → List Cause
  after_word last x m ws = coefficient_causes (m + 1) ws ++ size_on last x m ws

  -- the causes of a knot, in their order: its word, its coefficient words, its size, its readings, and then those of the knots after it
  pub in_order : (last : Option Scan) (w : ℕ) (ws : List ℕ) →
      knots_causes e b k (suc r) last (w ∷ ws) ≡ knot_causes last w ++ after_word last (position w) (grade w) ws
  in_order last w ws =
      let word = knot_causes last w in
      let coefficients = coefficient_causes (grade w + 1) ws in
      let size = size_causes k last (scan_from w ws) in
      let readings = reading_causes 0 (reading_words e (behind w ws)) in
      let rest = knots_causes e b (suc k) r (some (scan_from w ws)) (after_readings e (behind w ws)) in
      append_assoc (word ++ coefficients ++ size) readings rest ∙ append_assoc (word ++ coefficients) size (readings ++ rest) ∙
      append_assoc word coefficients (size ++ (readings ++ rest))

  module _ (last : Option Scan) where
    pub knot-found : {n : ℕ} (ws : List ℕ) (i : ℕ) → first (knot_causes last (get_or ws i 0)) ≡ some n →
        first (knots_causes e b k (suc r) last (drop i ws)) ≡ some n
    knot-found [] zero h = h
    knot-found [] (suc i) h = h
    knot-found (w ∷ ws) zero h = ap first (in_order last w ws) ∙ first_found (knot_causes last w) (after_word last (position w) (grade w) ws) h
    knot-found (w ∷ ws) (suc i) h = knot-found ws i h

    -- no fault yet: its coefficient words come, and then its size
    pub knot-passed : (ws : List ℕ) (i : ℕ) → first (knot_causes last (get_or ws i 0)) ≡ none →
        let w = get_or ws i 0 in
        first (knots_causes e b k (suc r) last (drop i ws)) ≡
        first (after_word last (position w) (grade w) (drop (suc i) ws))
    knot-passed [] zero h = absurd (some-ne-none _ h)
    knot-passed [] (suc i) h = absurd (some-ne-none _ h)
    knot-passed (w ∷ ws) zero h = ap first (in_order last w ws) ∙ first-later (knot_causes last w) (after_word last (position w) (grade w) ws) h
    knot-passed (w ∷ ws) (suc i) h = knot-passed ws i h

-- the list has its scan next
pub knot-listed : (e r : ℕ) (last : Option Scan) (ws : List ℕ) (i : ℕ) → first (knot_causes last (get_or ws i 0)) ≡ none →
    let w = get_or ws i 0 in
    let rest = drop (suc i) ws in
    knots_from e (suc r) (drop i ws) ≡ scan_from w rest ∷ knots_from e r (after_readings e (behind w rest))
knot-listed e r last [] zero h = absurd (some-ne-none _ h)
knot-listed e r last [] (suc i) h = absurd (some-ne-none _ h)
knot-listed e r last (w ∷ ws) zero h = refl
knot-listed e r last (w ∷ ws) (suc i) h = knot-listed e r last ws i h

-- ---- a coefficient word is due

pub coefficient_wrong : (n : ℕ) (ws : List ℕ) (i : ℕ) → (kind (get_or ws i 0) ≡ 2 → ⊥) → first (coefficient_causes (suc n) (drop i ws)) ≡ some 1
coefficient_wrong n [] zero d = refl
coefficient_wrong n [] (suc i) d = refl
coefficient_wrong n (w ∷ ws) zero d = rw (ne_eqb (kind w) 2 d) refl
coefficient_wrong n (w ∷ ws) (suc i) d = coefficient_wrong n ws i d

pub coefficient-right : (n : ℕ) (ws : List ℕ) (i : ℕ) → kind (get_or ws i 0) ≡ 2 →
    first (coefficient_causes (suc n) (drop i ws)) ≡ first (coefficient_causes n (drop (suc i) ws))
coefficient-right n [] i e = absurd (omega arith)
coefficient-right n (w ∷ ws) zero e = rw (eq-eqb (kind w) 2 e) refl
coefficient-right n (w ∷ ws) (suc i) e = coefficient-right n ws i e

pub coefficient-there : (ws : List ℕ) (i : ℕ) → kind (get_or ws i 0) ≡ 2 → i < length ws
coefficient-there [] i e = absurd (omega arith)
coefficient-there (w ∷ ws) zero e = omega arith
coefficient-there (w ∷ ws) (suc i) e = let h = coefficient-there ws i e in omega arith

-- ---- readings may stand here

-- "No other edition carries them"
pub other-edition : (e : ℕ) (ws : List ℕ) → (e ≡ readings_edition → ⊥) → reading_words e ws ≡ []
other-edition e ws d = rw (ne_eqb e readings_edition d) refl

pub no_reading : (ws : List ℕ) (i : ℕ) → is_reading (get_or ws i 0) ≡ false → leading_readings (drop i ws) ≡ []
no_reading [] zero h = refl
no_reading [] (suc i) h = refl
no_reading (w ∷ ws) zero h = rw h refl
no_reading (w ∷ ws) (suc i) h = no_reading ws i h

pub one-reading : (ws : List ℕ) (i : ℕ) → is_reading (get_or ws i 0) ≡ true →
    leading_readings (drop i ws) ≡ get_or ws i 0 ∷ leading_readings (drop (suc i) ws)
one-reading [] i h = absurd (true≢false (sym h))
one-reading (w ∷ ws) zero h = rw h refl
one-reading (w ∷ ws) (suc i) h = one-reading ws i h
