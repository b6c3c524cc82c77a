-- Document 01, "Water": what the machine's table of integral weights holds.
use Rattle.std.specs.Prelude.{List, ◌≡◌, ℕ, ◌+◌, ◌*◌, ◌≤◌, ◌<◌, length, get_or}
use Rattle.hermite.specs.Water.{water_unit, c}
use Rattle.rounding.specs.Limits.{grade_max}

-- each entry of c is at most 720,720
pub record Entries (c : List ℕ) : Type 0 where
  pub small : (j : ℕ) → get_or c j 0 ≤ water_unit

-- document 01: "512 whole numbers, one for each pair of grades and order": entry 64 m + 8 n + j is c_j of the grades m
-- and n, and "entries with j above m are 0"
pub record IntegralWeights (t : List ℕ) : Type 0 where
  pub count : length t ≡ 512
  pub entry : (m n j : ℕ) → m ≤ grade_max → n ≤ grade_max → j ≤ grade_max → get_or t (64 * m + 8 * n + j) 0 ≡ c m n j
  pub above : (m n j : ℕ) → m ≤ grade_max → n ≤ grade_max → j ≤ grade_max → m < j → get_or t (64 * m + 8 * n + j) 0 ≡ 0
