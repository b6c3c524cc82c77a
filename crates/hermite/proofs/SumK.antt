-- A sum of K is a multiple of a sum g_i: n+1 times g_m against n+1.
use mathlib.Core.Path.{◌≡◌, refl, ◌∙◌, ap}
use mathlib.Core.List.{[], ◌∷◌}
use Prim.Native.Nat.{ℕ, ◌+◌, ◌*◌, ◌-◌, ◌≤◌}
use lib.IntN.{ℤ, pos, ◌*ℤ◌}
use Rattle.integer.proofs.Claim.{◌≗◌, upto, sound}
use Rattle.integer.proofs.Ring.{lets, solve, terms}
use Rattle.integer.proofs.Sum.{sum_cong, sum-*}
use Rattle.hermite.specs.Binomial.{binomial}
use Rattle.hermite.specs.HalfSum.{g}
use Rattle.hermite.specs.Slope.{kappa, sum_k}

kappa_is : (m : ℕ) → m ≤ 7 → (n : ℕ) → n ≤ 7 → (j : ℕ) → j ≤ m → kappa m n j ≡ (n + 1) * binomial (n + 1 + m - j) (m - j)
unfolding kappa binomial
kappa_is = sound (upto 7 (λ m. upto 7 (λ n. upto m (λ j. kappa m n j ≗ (n + 1) * binomial (n + 1 + m - j) (m - j))))) refl

regroup : (w x y : ℤ) → w *ℤ (x *ℤ y) ≡ x *ℤ (y *ℤ w)
regroup w x y = lets (w ∷ x ∷ y ∷ []) (λ ρ v. simp (v 0, v 1, v 2, terms) (solve ρ _ _ tt))

pub sum_k_by_g : (m n : ℕ) (w : ℕ → ℤ) → m ≤ 7 → n ≤ 7 → sum_k m n w ≡ pos (n + 1) *ℤ g (n + 1) w m
unfolding sum_k g
sum_k_by_g m n w hm hn =
    sum_cong m _ _ (λ j h. ap (λ x. w j *ℤ pos x) (kappa_is m hm n hn j h) ∙ regroup (w j) (pos (n + 1)) (pos (binomial (n + 1 + m - j) (m - j)))) ∙
    sum-* m (pos (n + 1)) (λ j. pos (binomial (n + 1 + m - j) (m - j)) *ℤ w j)
