-- Request 2/14: n+1 rounds of running sums leave step 1's sums, for every n and every order i, and so for all grades.
use mathlib.Core.Path.{◌≡◌, refl, sym, ◌∙◌, ap, ap₂}
use Prim.Native.Nat.{ℕ, zero, suc, ◌+◌, ◌-◌, ◌≤◌, ◌<◌}
use native.Mathlib.Numerals.{add-one}
use native.Mathlib.Omega.{arith}
use lib.IntN.{ℤ, pos, one, ◌+ℤ◌, ◌*ℤ◌, +ℤ_assoc}
use Rattle.integer.specs.Sum.{sum}
use Rattle.integer.proofs.Laws.{one-*ℤ, *ℤ_distrib_right}
use Rattle.integer.proofs.Sum.{sum_cong, sum-+}
use Rattle.hermite.specs.Binomial.{binomial}
use Rattle.hermite.specs.HalfSum.{g}
use Rattle.hermite.specs.RunningSums.{one_round, rounds}

-- beside and at the right edge of Pascal's triangle
beyond : (n k : ℕ) → n < k → binomial n k ≡ 0
unfolding binomial
beyond n zero h = absurd (omega arith)
beyond zero (suc k) h = refl
beyond (suc n) (suc k) h = ap₂ (λ x y. x + y) (beyond n k (omega arith)) (beyond n (suc k) (omega arith))

edge : (n : ℕ) → binomial n n ≡ 1
unfolding binomial
edge zero = refl
edge (suc n) = ap₂ (λ x y. x + y) (edge n) (beyond n (suc n) (omega arith))

-- the binomials of g_(i+1) against n+1 are those of g_i against n+1 and of g_(i+1) against n, added
pascal : (n i j : ℕ) → j ≤ i → binomial (suc n + suc i - j) (suc i - j) ≡ binomial (suc n + i - j) (i - j) + binomial (n + suc i - j) (suc i - j)
unfolding binomial
pascal n i j h =
    let below : suc n + suc i - j ≡ suc (suc n + i - j) = omega arith in
    let beside : n + suc i - j ≡ suc n + i - j = omega arith in
    let order : suc i - j ≡ suc (i - j) = omega arith in
    rw (below, beside, order) refl

round_cong : {v w : ℕ → ℤ} → ((j : ℕ) → v j ≡ w j) → (i : ℕ) → one_round v i ≡ one_round w i
unfolding one_round
round_cong e i = sum_cong i _ _ (λ j h. e j)

-- one round of the weights
first : (w : ℕ → ℤ) (i : ℕ) → one_round w i ≡ g 0 w i
unfolding one_round g one
first w i = sum_cong i _ _ (λ j h. sym (ap (λ x. pos x *ℤ w j) (edge_of j) ∙ one-*ℤ (w j)))
  where
    edge_of : (j : ℕ) → binomial (0 + i - j) (i - j) ≡ 1
    edge_of j = let e : 0 + i - j ≡ i - j = omega arith in rw e (edge (i - j))

-- the summand of g_i at j, against n
abbrev summand : ℕ → (ℕ → ℤ) → ℕ → ℕ → ℤ
summand n w i j = pos (binomial (n + i - j) (i - j)) *ℤ w j

added : (n : ℕ) (w : ℕ → ℤ) (i j : ℕ) → j ≤ i → summand (suc n) w i j +ℤ summand n w (suc i) j ≡ summand (suc n) w (suc i) j
added n w i j h =
    sym (*ℤ_distrib_right (pos (binomial (suc n + i - j) (i - j))) (pos (binomial (n + suc i - j) (suc i - j))) (w j)) ∙
    ap (λ x. pos x *ℤ w j) (sym (pascal n i j h))

last : (n : ℕ) (w : ℕ → ℤ) (i : ℕ) → summand n w i i ≡ summand (suc n) w i i
unfolding binomial
last n w i = let e : i - i ≡ 0 = omega arith in rw e refl

-- one round of the sums against n
next : (n : ℕ) (w : ℕ → ℤ) (i : ℕ) → one_round (g n w) i ≡ g (suc n) w i
unfolding one_round sum g
next n w zero = last n w zero
next n w (suc i) =
    ap (λ x. x +ℤ g n w (suc i)) (next n w i) ∙
    sym (+ℤ_assoc (sum i (summand (suc n) w i)) (sum i (summand n w (suc i))) (summand n w (suc i) (suc i))) ∙
    ap₂ (λ x y. x +ℤ y) (sym (sum-+ i (summand (suc n) w i) (summand n w (suc i))) ∙ sum_cong i _ _ (added n w i)) (last n w (suc i))

-- n+1 rounds of the weights
all-rounds : (n : ℕ) (w : ℕ → ℤ) (i : ℕ) → rounds (suc n) w i ≡ g n w i
unfolding rounds
all-rounds zero w i = first w i
all-rounds (suc n) w i = round_cong (all-rounds n w) i ∙ next n w i

pub rounds-are-sums : (n : ℕ) (w : ℕ → ℤ) (i : ℕ) → rounds (n + 1) w i ≡ g n w i
rounds-are-sums n w i = rw add-one (all-rounds n w i)
