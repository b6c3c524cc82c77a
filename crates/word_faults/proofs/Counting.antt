-- How far the counting of a knot's readings has come.
use Rattle.std.proofs.Common.{true, false, List, [], ◌∷◌, ◌≡◌, ℕ, suc, ◌+◌, ◌≤◌, Ok, sym, ◌∙◌, ap, ap₂, arith, drop, get_or, length}
use native.Mathlib.Nat.{add-zero, zero-add}
use borrow.Author.Tests.{ltb-false}
use Rattle.std.proofs.Math.Option.{none, some}
use Rattle.rounding.specs.Limits.{readings_max}
use Rattle.scans.specs.RefusalTable.{Cause, first}
use Rattle.scans.proofs.Causes.{first_found, first-later, quiet}
use Rattle.block.specs.Reading.{is_reading, leading_readings, reading_causes}
use Rattle.block.proofs.Steps.{no_reading, one-reading}
use Rattle.word_faults.specs.Machine.{Counts}

-- so many readings are counted: what the definition gives of all is what it gives from here
pub record Come (ws : List ℕ) (from count : ℕ) : Type 0 where
  pub few : count ≤ readings_max
  pub faults : first (reading_causes 0 (leading_readings (drop from ws))) ≡ first (reading_causes count (leading_readings (drop (from + count) ws)))
  pub long : length (leading_readings (drop from ws)) ≡ count + length (leading_readings (drop (from + count) ws))

pub none_yet : (ws : List ℕ) (from : ℕ) → Come ws from 0
none_yet ws from =
    let here : from ≡ from + 0 = omega arith in
    record {
      few = omega arith;
      faults = ap (λ a. first (reading_causes 0 (leading_readings (drop a ws)))) here;
      long = ap (λ a. length (leading_readings (drop a ws))) here ∙ sym (zero-add (length (leading_readings (drop (from + 0) ws))));
    }

module _ (ws : List ℕ) (from count : ℕ) (come : Come ws from count) where
  -- the next word is none: these are all
  pub all-counted : is_reading (get_or ws (from + count) 0) ≡ false → Counts (Ok count) (leading_readings (drop from ws))
  all-counted is =
      let last : leading_readings (drop (from + count) ws) ≡ [] = no_reading ws (from + count) is in
      record {
        fault = sym (come.faults ∙ ap (λ l. first (reading_causes count l)) last);
        count = sym (come.long ∙ ap (λ l. count + length l) last ∙ add-zero count);
        few = come.few;
      }

  -- it is a reading
  module _ (w : ℕ) (w_is : w ≡ get_or ws (from + count) 0) (is : is_reading w ≡ true) where
    abbrev rest : List ℕ
    rest = leading_readings (drop (suc (from + count)) ws)

    -- its own causes
    abbrev these : List Cause
    these = reading_causes count (w ∷ [])

    next : leading_readings (drop (from + count) ws) ≡ w ∷ rest
    next = one-reading ws (from + count) (sym (ap is_reading w_is) ∙ is) ∙ ap (λ u. u ∷ rest) (sym w_is)

    -- the first fault is its
    pub wrong : {n : ℕ} → first these ≡ some n → first (reading_causes 0 (leading_readings (drop from ws))) ≡ some n
    wrong h = come.faults ∙ ap (λ l. first (reading_causes count l)) next ∙ first_found these (reading_causes (suc count) rest) h

    -- or it has none
    pub within : first these ≡ none → suc count ≤ readings_max
    within h = ltb-false readings_max (suc count) (quiet these h).1.0

    pub right : first these ≡ none → Come ws from (count + 1)
    right h =
        let one : suc count ≡ count + 1 = omega arith in
        let there : suc (from + count) ≡ from + (count + 1) = omega arith in
        record {
          few = omega (arith, within h);
          faults = come.faults ∙ ap (λ l. first (reading_causes count l)) next ∙ first-later these (reading_causes (suc count) rest) h ∙
              ap₂ (λ n a. first (reading_causes n (leading_readings (drop a ws)))) one there;
          long = come.long ∙ ap (λ l. count + length l) next ∙ one_more count (length rest) ∙
              ap (λ a. count + 1 + length (leading_readings (drop a ws))) there;
        }
      where
        one_more : (a b : ℕ) → a + suc b ≡ a + 1 + b
        one_more a b = omega arith
