-- Document 01, "Water": the integral weights give the exact integral, for all grades 0 to 7 and all weights, and nothing in them is rounded.
use mathlib.Core.Path.{◌≡◌, refl, ◌∙◌, ap, ap₂}
use Prim.Native.Nat.{ℕ, zero, suc, ◌+◌, ◌*◌, ◌-◌, ◌/◌, ◌≤◌, ◌<◌}
use native.Mathlib.Decide.{ℕ_discrete}
use native.Mathlib.Nat.{mul-zero, zero-mul, zero-div}
use native.Mathlib.Omega.{arith}
use lib.IntN.{ℤ, pos, ◌+ℤ◌, ◌*ℤ◌}
use Rattle.integer.proofs.Sum.{sum_cong}
use Rattle.integer.proofs.Claim.{◌≗◌, upto, sound}
use Rattle.hermite.specs.Blend.{right_weights, blend}
use Rattle.hermite.specs.Water.{water_unit, integral, c, weighted_sum}
use Rattle.hermite.proofs.Linear.{dot-linear, of_blend}
use Rattle.hermite.proofs.Bases.{left-base, right-base}

-- the exact integral is the weighted sum of formulas (11) to (13) of source document 001
pub integral_is : (m n : ℕ) → m ≤ 7 → n ≤ 7 → (p q : ℕ → ℤ) → integral (blend m n p q) ≡ weighted_sum m n p q
unfolding integral weighted_sum
integral_is m n hm hn p q =
    of_blend _ (dot-linear (λ i. pos (water_unit / (i + 1)))) m n p q ∙
    ap₂ (λ x y. x +ℤ y)
    (sum_cong m _ _ (λ j h. ap (λ x. p j *ℤ x) (left-base m n hm hn j h).water))
    (sum_cong n _ _ (λ j h. ap (λ x. right_weights q j *ℤ x) (right-base m n hm hn j h).water))

-- i+1 divides 720,720, i to 15
pub divides_unit : (i : ℕ) → i ≤ 15 → (i + 1) * (water_unit / (i + 1)) ≡ water_unit
divides_unit = sound (upto 15 (λ i. (i + 1) * (water_unit / (i + 1)) ≗ water_unit)) refl

-- m+n+2 divides 720,720 × (m+1)
pub first-divides : (m : ℕ) → m ≤ 7 → (n : ℕ) → n ≤ 7 → (m + n + 2) * c m n 0 ≡ water_unit * (m + 1)
unfolding c
first-divides = sound (upto 7 (λ m. upto 7 (λ n. (m + n + 2) * c m n 0 ≗ water_unit * (m + 1)))) refl

-- and no further division of the recurrence leaves a rest
pub later_divide : (m : ℕ) → m ≤ 7 → (n : ℕ) → n ≤ 7 → (i : ℕ) → i ≤ 6 →
    let j = suc i in (j + 1) * (m + n + 2 - j) * c m n j ≡ c m n i * (j * (m + 1 - j))
unfolding c
later_divide = sound (upto 7 (λ m. upto 7 (λ n. upto 6 (λ i. let j = suc i in (j + 1) * (m + n + 2 - j) * c m n j ≗ c m n i * (j * (m + 1 - j)))))) refl

-- entries with j above m are 0, whatever the grades: the first of them has the factor m−j+1 = 0, each later one the entry before it
pub zero_above : (m n j : ℕ) → m < j → c m n j ≡ 0
unfolding c
zero_above m n zero h = absurd (omega arith)
zero_above m n (suc i) h = go (ℕ_discrete i m) (zero_above m n i)
  where
    go : Dec (i ≡ m) → (m < i → c m n i ≡ 0) → c m n (suc i) ≡ 0
    go (yes e) before = let z : m + 1 - suc i ≡ 0 = omega arith in simp (z, mul-zero, zero-div)
    go (no d) before = simp (before (omega arith), zero-mul, zero-div)
