-- What spans, selections, views and their answers are in the model, and what is promised of them.
use Rattle.std.specs.Prelude.{List, [], ◌∷◌, map, ◌≡◌, ℕ, zero, suc, ◌+◌, ◌≤◌, get_or, length, take, drop}
use Rattle.std.specs.Prelude.{Option as Given, Some, None, Result, IfOk}
use Rattle.std.proofs.Math.Option.{Option, none, some}
use Rattle.std.proofs.Math.ListN.{get_elem?}
use Rattle.rounding.specs.Limits.{readings_max}
use Rattle.scans.specs.RefusalTable.{first}
use Rattle.knot.specs.Machine.{refusal}
use Rattle.knot.specs.declared.table.Refusal.{Refusal}
use Rattle.block.specs.Fields.{grade, reading}
use Rattle.block.specs.Bytes.{words}
use Rattle.block.specs.Reading.{reading_words}
use Rattle.block.specs.View.{view_causes, view_of}
use Rattle.readings.specs.declared.finding.Span.{Span}
use Rattle.readings.specs.declared.view.View.{View}
use Rattle.readings.specs.declared.view.Seen.{Seen}

-- the reading words of the knot whose word is word i, and that they stand in this span
abbrev pub words_behind : ℕ → List ℕ → ℕ → List ℕ
words_behind e ws i = reading_words e (drop (i + grade (get_or ws i 0) + 2) ws)

pub record Stands (p : Span) (e : ℕ) (ws : List ℕ) (i : ℕ) : Type 0 where
  pub start : p.start ≡ i + grade (get_or ws i 0) + 2
  pub count : p.count ≡ length (words_behind e ws i)
  pub few : p.count ≤ readings_max

-- the readings stand in this span of the words
pub record Spans (p : Span) (ws readings : List ℕ) : Type 0 where
  pub few : p.count ≤ readings_max
  pub are : map reading (take p.count (drop p.start ws)) ≡ readings
  pub count : length readings ≡ p.count

-- the readings in the words from `start` on, at every stride-th, so many of them
abbrev pub strided : List ℕ → ℕ → ℕ → ℕ → List ℕ
strided ws start stride zero = []
strided ws start stride (suc count) = reading (get_or ws start 0) ∷ strided ws (start + stride) stride count

-- what is selected for a view of every n-th reading of knot k
pub record Selects (r : Result Span Refusal) (bs : List ℕ) (k n : ℕ) : Type 0 where
  pub cause : refusal r ≡ first (view_causes bs k n)
  pub readings : IfOk r (λ p. strided (words bs) p.start n p.count ≡ view_of bs k n)

-- an answer: a reading, or none where it is past the last
abbrev pub reading_shown : Given ℕ → Option ℕ
reading_shown (Some r) = some r
reading_shown None = none

-- the readings that a view shows
abbrev pub shows : View → List ℕ
shows v = strided (words v.bytes.now) v.start v.stride v.count

-- what a view promises of every block, knot and n: its refusal, and what it shows
pub record Views (r : Result View Refusal) (bs : List ℕ) (k n : ℕ) : Type 0 where
  pub cause : refusal r ≡ first (view_causes bs k n)
  pub readings : IfOk r (λ v. shows v ≡ view_of bs k n)

-- and what is told of it: its refusal, how many readings it shows, and its answer for the i-th
pub record Sees (r : Result Seen Refusal) (bs : List ℕ) (k n i : ℕ) : Type 0 where
  pub cause : refusal r ≡ first (view_causes bs k n)
  pub count : IfOk r (λ s. s.count ≡ length (view_of bs k n))
  pub answer : IfOk r (λ s. reading_shown s.shown ≡ get_elem? (view_of bs k n) i)
