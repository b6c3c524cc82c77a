-- Weights that agree to the order used give the same numbers: so arrays of 8 weights may stand for weights of every order.
use mathlib.Core.Path.{◌≡◌, refl, ap, ap₂}
use Prim.Native.Nat.{ℕ, zero, suc, ◌+◌, ◌-◌, ◌≤◌}
use native.Mathlib.Omega.{arith}
use lib.IntN.{ℤ, pos, ◌+ℤ◌, ◌*ℤ◌}
use Rattle.integer.proofs.Sum.{sum_cong}
use Rattle.hermite.specs.Binomial.{binomial}
use Rattle.hermite.specs.HalfSum.{value_unit, g}
use Rattle.hermite.specs.Slope.{primed, kappa, sum_k}
use Rattle.rounding.specs.HalfSum.{descended, half_sum, lower_half_sum}
use Rattle.rounding.specs.Scaling.{scaled, scaled_times}

-- to order m
abbrev pub Agree : ℕ → (ℕ → ℤ) → (ℕ → ℤ) → Type 0
Agree m w v = (j : ℕ) → j ≤ m → w j ≡ v j

g_agree : (n i : ℕ) {w v : ℕ → ℤ} → Agree i w v → g n w i ≡ g n v i
unfolding g
g_agree n i e = sum_cong i _ _ (λ j h. ap (λ x. pos (binomial (n + i - j) (i - j)) *ℤ x) (e j h))

pub descended-agree : (a d k i : ℕ) {G H : ℕ → ℤ} → Agree (i + k) G H → descended G a d k i ≡ descended H a d k i
unfolding descended
descended-agree a d zero i e = ap (λ x. pos value_unit *ℤ x) (e i (omega arith))
descended-agree a d (suc k) i e = ap₂ (λ x y. scaled x a d +ℤ pos value_unit *ℤ y) (descended-agree a d k (suc i) (λ j h. e j (omega arith))) (e i (omega arith))

-- u after step 2
pub steps_1_and_2_agree : (m n a d : ℕ) {w v : ℕ → ℤ} → Agree m w v → descended (g n w) a d m 0 ≡ descended (g n v) a d m 0
steps_1_and_2_agree m n a d e = descended-agree a d m 0 (λ i h. g_agree n i (λ j k. e j (omega arith)))

half_sum-agree : (m n a d : ℕ) {w v : ℕ → ℤ} → Agree m w v → half_sum m n a d w ≡ half_sum m n a d v
unfolding half_sum
half_sum-agree m n a d e = ap (λ x. scaled_times (n + 1) x (d - a) d) (steps_1_and_2_agree m n a d e)

pub lower_half_sum-agree : (m n a d : ℕ) {w v : ℕ → ℤ} → Agree m w v → lower_half_sum m n a d w ≡ lower_half_sum m n a d v
unfolding lower_half_sum primed
lower_half_sum-agree zero n a d e = refl
lower_half_sum-agree (suc m) n a d e = half_sum-agree m n a d (λ j h. ap (λ x. pos (j + 1) *ℤ x) (e (j + 1) (omega arith)))

pub sum_k-agree : (m n : ℕ) {w v : ℕ → ℤ} → Agree m w v → sum_k m n w ≡ sum_k m n v
unfolding sum_k
sum_k-agree m n e = sum_cong m _ _ (λ j h. ap (λ x. x *ℤ pos (kappa m n j)) (e j h))
