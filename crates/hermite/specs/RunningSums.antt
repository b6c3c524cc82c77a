-- Document 02, request 2/14: "n+1 rounds of running sums in it leave g_0 to g_m".
use Rattle.std.specs.Prelude.{ℕ, zero, suc, ℤ}
use Rattle.integer.specs.Sum.{sum}

-- one round: each w_i becomes the sum of w_0 to w_i
unfoldable pub one_round : (ℕ → ℤ) → ℕ → ℤ
one_round w i = sum i w

-- k rounds, each on what the round before it left
unfoldable pub rounds : ℕ → (ℕ → ℤ) → ℕ → ℤ
rounds zero w = w
rounds (suc k) w = one_round (rounds k w)
