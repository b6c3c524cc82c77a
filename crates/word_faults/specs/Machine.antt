-- What counting the readings of a knot gives, in the model.
use Rattle.std.specs.Prelude.{List, ◌≡◌, ℕ, ◌≤◌, length, Result, IfOk}
use Rattle.rounding.specs.Limits.{readings_max}
use Rattle.scans.specs.RefusalTable.{first}
use Rattle.knot.specs.Machine.{refusal}
use Rattle.knot.specs.declared.table.Refusal.{Refusal}
use Rattle.block.specs.Reading.{reading_causes}

-- of a knot's reading words the first fault, if there is one; if there is none, how many they are
pub record Counts (r : Result ℕ Refusal) (ws : List ℕ) : Type 0 where
  pub fault : refusal r ≡ first (reading_causes 0 ws)
  pub count : IfOk r (λ n. n ≡ length ws)
  pub few : IfOk r (λ n. n ≤ readings_max)
