-- Request 1/14: the words of a knot's readings read back, which are those that were written, and written again.
use borrow.Author.Tests.{le-ltb, eq-eqb, ne_eqb, eqb-true, not-false}
use mathlib.Core.Bool.{Bool, true, false, not, cond}
use mathlib.Core.List.{List, [], ◌∷◌, ◌++◌, map}
use mathlib.Core.Path.{◌≡◌, refl, sym, ◌∙◌, ap, ap₂}
use Prim.Native.Nat.{ℕ, suc, ◌+◌, ◌^◌, ◌≤◌, ◌<◌}
use native.Mathlib.Omega.{arith}
use lib.Dec.{eqb}
use lib.ListN.{length, take-append-drop}
use lib.Seq.{drop_at}
use Rattle.integer.proofs.Tests.{both, both_first, both-second}
use Rattle.rounding.specs.Limits.{readings_max}
use Rattle.scans.proofs.Causes.{Quiet}
use Rattle.block.specs.Fields.{kind, end_word, reading_mark, reading, reading_spare, reading_word}
use Rattle.block.specs.Bytes.{Below}
use Rattle.block.specs.Block.{readings_edition}
use Rattle.block.specs.Reading.{is_reading, clear_reading, leading_readings, reading_words, after_readings, reading_causes}
use Rattle.block.proofs.Fields.{end-kind, end_mark, reading-kind, reading-mark, reading_spare_lem, reading-value, reading-again}
use Rattle.block.proofs.Steps.{no_reading, one-reading}
use Rattle.block.proofs.View.{readings-first}

-- ---- no reading follows

abbrev pub Over : List ℕ → Type 0
Over ws = leading_readings ws ≡ []

pub over-other : (w : ℕ) (ws : List ℕ) → (kind w ≡ 3 → ⊥) → Over (w ∷ ws)
over-other w ws d = no_reading (w ∷ ws) 0 (rw (ne_eqb (kind w) 3 d) refl)

pub over-end : (n : ℕ) → n < 2 ^ 29 → Over (end_word n ∷ [])
over-end n h = go (end_word n) (end-kind n (omega arith)) (end_mark n h)
  where
    go : (w : ℕ) → kind w ≡ 3 → reading_mark w ≡ 0 → Over (w ∷ [])
    go w k m = no_reading (w ∷ []) 0 (rw (k, m) refl)

-- ---- readings written, and read back

-- the readings of a knot in a block of edition e: "No other edition carries them", at most 32, each of 16 bits
pub record Carries (e : ℕ) (xs : List ℕ) : Type 0 where
  pub here : cond (eqb e readings_edition) xs [] ≡ xs
  pub few : length xs ≤ readings_max
  pub small : Below (2 ^ 16) xs

leading_back : (xs ws : List ℕ) → Below (2 ^ 16) xs → Over ws → leading_readings (map reading_word xs ++ ws) ≡ map reading_word xs
leading_back [] ws h over = over
leading_back (x ∷ xs) ws h over =
    one-reading (reading_word x ∷ map reading_word xs ++ ws) 0
    (both (eq-eqb (kind (reading_word x)) 3 (reading-kind x h.0)) (eq-eqb (reading_mark (reading_word x)) 1 (reading-mark x h.0))) ∙
    ap (λ us. reading_word x ∷ us) (leading_back xs ws h.1 over)

readings_free : (count : ℕ) (xs : List ℕ) → Below (2 ^ 16) xs → count + length xs ≤ readings_max → Quiet (reading_causes count (map reading_word xs))
readings_free count [] h few = tt
readings_free count (x ∷ xs) h few = (
  ap not (eq-eqb (reading_spare (reading_word x)) 0 (reading_spare_lem x h.0)),
  (le-ltb readings_max (suc count) (omega arith), readings_free (suc count) xs h.1 (omega arith)),
)

values-back : (xs : List ℕ) → Below (2 ^ 16) xs → map reading (map reading_word xs) ≡ xs
values-back [] h = refl
values-back (x ∷ xs) h = ap₂ (λ u us. u ∷ us) (reading-value x h.0) (values-back xs h.1)

module _ {e : ℕ} (xs : List ℕ) (c : Carries e xs) (ws : List ℕ) (over : Over ws) where
  readings-back : reading_words e (map reading_word xs ++ ws) ≡ map reading_word xs
  readings-back = ap (λ us. cond (eqb e readings_edition) us []) (leading_back xs ws c.small over) ∙ go (eqb e readings_edition) c.here
    where
      go : (b : Bool) → cond b xs [] ≡ xs → cond b (map reading_word xs) [] ≡ map reading_word xs
      go true h = refl
      go false h = ap (map reading_word) h

  pub values-shown : map reading (reading_words e (map reading_word xs ++ ws)) ≡ xs
  values-shown = ap (map reading) readings-back ∙ values-back xs c.small

  pub readings-quiet : Quiet (reading_causes 0 (reading_words e (map reading_word xs ++ ws)))
  readings-quiet = rw readings-back (readings_free 0 xs c.small (omega (arith, c.few)))

  pub after-readings : after_readings e (map reading_word xs ++ ws) ≡ ws
  after-readings = drop_at (map reading_word xs) ws (length (reading_words e (map reading_word xs ++ ws))) (sym (ap length readings-back))

-- every word has 32 bits
pub readings-below : (xs : List ℕ) → Below (2 ^ 16) xs → Below (2 ^ 32) (map reading_word xs)
readings-below [] h = tt
readings-below (x ∷ xs) h = (omega (arith, h.0), readings-below xs h.1)

-- ---- readings read, and written again

leading_again : (count : ℕ) (ws : List ℕ) → Quiet (reading_causes count (leading_readings ws)) →
    map reading_word (map reading (leading_readings ws)) ≡ leading_readings ws
leading_again count [] q = refl
leading_again count (w ∷ ws) q = go (is_reading w) refl (leading_again (suc count) ws) q
  where
    go : (b : Bool) → is_reading w ≡ b →
        (Quiet (reading_causes (suc count) (leading_readings ws)) → map reading_word (map reading (leading_readings ws)) ≡ leading_readings ws) →
        Quiet (reading_causes count (leading_readings (w ∷ ws))) → map reading_word (map reading (leading_readings (w ∷ ws))) ≡ leading_readings (w ∷ ws)
    go true e later q =
        let these : Quiet (reading_causes count (w ∷ leading_readings ws)) = rw e at q in
        let kind_is : kind w ≡ 3 = eqb-true (kind w) 3 (both_first (eqb (kind w) 3) _ e) in
        let markIs : reading_mark w ≡ 1 = eqb-true (reading_mark w) 1 (both-second (eqb (kind w) 3) _ e) in
        let spare_is : reading_spare w ≡ 0 = eqb-true (reading_spare w) 0 (not-false (clear_reading w) these.0) in
        rw e (ap₂ (λ u us. u ∷ us) (reading-again w kind_is markIs spare_is) (later these.1.1))
    go false e later q = rw e refl

pub readings-again : (e : ℕ) (ws : List ℕ) → Quiet (reading_causes 0 (reading_words e ws)) →
    map reading_word (map reading (reading_words e ws)) ++ after_readings e ws ≡ ws
readings-again e ws q =
    ap (λ us. us ++ after_readings e ws) (these (eqb e readings_edition) refl q ∙ sym (readings-first e ws)) ∙
    take-append-drop (length (reading_words e ws)) ws
  where
    these : (b : Bool) → eqb e readings_edition ≡ b → Quiet (reading_causes 0 (reading_words e ws)) →
        map reading_word (map reading (reading_words e ws)) ≡ reading_words e ws
    these true h q = rw h (leading_again 0 ws (rw h at q))
    these false h q = rw h refl
