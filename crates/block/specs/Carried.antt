-- Request 1/14, "Edition 2 blocks may carry, after a knot's coefficients, up to 32 words of kind 3 with bit 29 set,
-- bits 0 to 15 a reading, the rest 0": the block of scans and of readings beside them, and what is read of it.
use Rattle.std.specs.Prelude.{List, [], ◌∷◌, ◌++◌, map, ◌≡◌, ℕ, suc, ◌^◌, ◌≤◌, ◌<◌, length}
use Rattle.std.proofs.Math.Option.{none}
use Rattle.scans.specs.Scan.{Scan}
use Rattle.scans.specs.Standing.{Standing}
use Rattle.scans.specs.RefusalTable.{first}
use Rattle.block.specs.Fields.{header_word, end_word, reading_word}
use Rattle.block.specs.Bytes.{bytes, Below}
use Rattle.block.specs.Block.{readings_edition, scan_words}
use Rattle.block.specs.Reading.{block_causes, edition_of, list_of}
use Rattle.block.specs.View.{readings_of}

-- each knot's words, and after its coefficients its readings; those of knot k are `readings k`
abbrev pub carried_knots : List Scan → (ℕ → List ℕ) → List ℕ
carried_knots [] readings = []
carried_knots (s ∷ scans) readings =
    scan_words s ++ map reading_word (readings 0) ++ carried_knots scans (λ k. readings (suc k))

-- the header, of edition e, and the knots
abbrev pub carried_open : ℕ → List Scan → (ℕ → List ℕ) → List ℕ
carried_open e scans readings = header_word (length scans) e ∷ carried_knots scans readings

-- and the end word, which has the number of words before it
abbrev pub carried_words : ℕ → List Scan → (ℕ → List ℕ) → List ℕ
carried_words e scans readings = carried_open e scans readings ++ end_word (length (carried_open e scans readings)) ∷ []

unfoldable pub carried_block : List Scan → (ℕ → List ℕ) → List ℕ
carried_block scans readings = bytes (carried_words readings_edition scans readings)

-- scans that stand, with "up to 32" readings of 16 bits beside each
pub record Carriable (scans : List Scan) (readings : ℕ → List ℕ) : Type 0 where
  pub standing : Standing scans
  pub few : (k : ℕ) → k < length scans → length (readings k) ≤ 32
  pub small : (k : ℕ) → k < length scans → Below (2 ^ 16) (readings k)

-- every block of such scans and readings is accepted, its list is the scans, and the readings of knot k are those
-- beside it; the list and the readings of every accepted block are such, and of edition 2 it is their block
pub record CarriedLaws : Type 0 where
  pub accepted : (scans : List Scan) (readings : ℕ → List ℕ) → Carriable scans readings →
      first (block_causes (carried_block scans readings)) ≡ none
  pub list : (scans : List Scan) (readings : ℕ → List ℕ) → Carriable scans readings →
      list_of (carried_block scans readings) ≡ scans
  pub shown : (scans : List Scan) (readings : ℕ → List ℕ) → Carriable scans readings →
      (k : ℕ) → k < length scans → readings_of (carried_block scans readings) k ≡ readings k
  pub such : (bs : List ℕ) → first (block_causes bs) ≡ none → Carriable (list_of bs) (readings_of bs)
  pub only : (bs : List ℕ) → Below (2 ^ 8) bs → first (block_causes bs) ≡ none → edition_of bs ≡ readings_edition →
      carried_block (list_of bs) (readings_of bs) ≡ bs
