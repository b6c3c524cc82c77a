-- Request 1/14: the readings of a block's knots, the view of one knot's that shows every n-th, and what is left of a
-- block without readings and end count.
use Rattle.std.specs.Prelude.{cond, List, [], ◌∷◌, ◌++◌, map, ◌≡◌, ℕ, zero, suc, ◌-◌, eqb, length, get_or}
use Rattle.std.proofs.Math.Option.{Option, none, some}
use Rattle.scans.specs.RefusalTable.{Cause, first, no_knot, zero_stride}
use Rattle.block.specs.Fields.{kind, knot_count, edition, reading}
use Rattle.block.specs.Bytes.{words}
use Rattle.block.specs.Reading.{reading_words, after_readings, behind, block_causes, list_of}

-- the readings of each of the next n knots, in a block of edition e
abbrev pub readings_from : ℕ → ℕ → List ℕ → List (List ℕ)
readings_from e zero ws = []
readings_from e (suc n) [] = []
readings_from e (suc n) (w ∷ ws) =
    map reading (reading_words e (behind w ws)) ∷ readings_from e n (after_readings e (behind w ws))

abbrev pub readings_of_words : List ℕ → List (List ℕ)
readings_of_words [] = []
readings_of_words (w ∷ ws) = readings_from (edition w) (knot_count w) ws

-- the readings of knot k
unfoldable pub readings_of : List ℕ → ℕ → List ℕ
readings_of bs k = get_or (readings_of_words (words bs)) k []

-- "11 for a view with n of 0, after the reader's own and 9"
unfoldable pub view_causes : List ℕ → ℕ → ℕ → List Cause
view_causes bs k n = block_causes bs ++ no_knot k (length (list_of bs)) ∷ zero_stride n ∷ []

-- "every n-th reading, first one included": one is shown, then n − 1 are passed over; here `over` are still to pass
abbrev pub every_after : ℕ → ℕ → List ℕ → List ℕ
every_after n over [] = []
every_after n zero (x ∷ xs) = x ∷ every_after n (n - 1) xs
every_after n (suc over) (x ∷ xs) = every_after n over xs

abbrev pub every_nth : ℕ → List ℕ → List ℕ
every_nth n xs = every_after n 0 xs

-- if a cause holds, none is shown
abbrev pub unless_refused : Option ℕ → List ℕ → List ℕ
unless_refused none xs = xs
unless_refused (some cause) xs = []

-- what the view of knot k shows, in its order: the i-th, counted from 0, is number i of this list, and "asked past its
-- last, it says so"
unfoldable pub view_of : List ℕ → ℕ → ℕ → List ℕ
view_of bs k n = unless_refused (first (view_causes bs k n)) (every_nth n (readings_of bs k))

-- the words of a block without readings and end count: those that are not of kind 3
abbrev pub without_both : List ℕ → List ℕ
without_both [] = []
without_both (w ∷ ws) = cond (eqb (kind w) 3) (without_both ws) (w ∷ without_both ws)

-- "two accepted blocks that differ only in readings and end count"
pub record Alike (bs cs : List ℕ) : Type 0 where
  pub one_accepted : first (block_causes bs) ≡ none
  pub other_accepted : first (block_causes cs) ≡ none
  pub equal : without_both (words bs) ≡ without_both (words cs)
