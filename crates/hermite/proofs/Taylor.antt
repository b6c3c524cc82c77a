-- Document 01's Taylor clause, for all grades 0 to 7 and all weights. It rests on formula (1): each base is multiplied out.
use mathlib.Core.Path.{◌≡◌, refl, ◌∙◌, ap, ap₂}
use mathlib.Core.List.{[], ◌∷◌}
use Prim.Native.Nat.{ℕ, zero, suc, ◌≤◌}
use borrow.Author.Tests.{eq-eqb, ne_eqb}
use lib.IntN.{ℤ, pos, neg_ℤ, one, ◌+ℤ◌, ◌*ℤ◌, +ℤ_idl, +ℤ_idr, *ℤ-zero, *ℤ-one}
use Rattle.integer.specs.Sum.{sum}
use Rattle.integer.proofs.Laws.{one-*ℤ}
use Rattle.integer.proofs.Sum.{sum_0, sum-only}
use Rattle.integer.proofs.Ring.{lets, solve, terms}
use Rattle.hermite.specs.Binomial.{binomial, sign}
use Rattle.hermite.specs.Blend.{right_weights, blend, taylor_left, taylor_right}
use Rattle.hermite.proofs.Linear.{coefficient-linear, dot-linear, of_blend}
use Rattle.hermite.proofs.Bases.{δ, left-base, right-base}

vanishes : (m : ℕ) (w v : ℕ → ℤ) → ((j : ℕ) → j ≤ m → v j ≡ pos 0) → sum m (λ j. w j *ℤ v j) ≡ pos 0
vanishes m w v e = sum_0 m _ (λ j h. ap (λ x. w j *ℤ x) (e j h) ∙ *ℤ-zero (w j))

picks : (m k : ℕ) (x : ℤ) (w v : ℕ → ℤ) → k ≤ m → ((j : ℕ) → j ≤ m → v j ≡ δ x j k) → sum m (λ j. w j *ℤ v j) ≡ w k *ℤ x
picks m k x w v h e =
    sum-only m k _ h (λ j b d. ap (λ z. w j *ℤ z) (e j b ∙ rw ne_eqb) ∙ *ℤ-zero (w j)) ∙
    ap (λ z. w k *ℤ z) (e k h ∙ rw (eq-eqb k k refl))

twice_signed : (j : ℕ) (y : ℤ) → sign j *ℤ y *ℤ sign j ≡ y
unfolding sign one
twice_signed zero y = *ℤ-one (pos 1 *ℤ y) ∙ one-*ℤ y
twice_signed (suc j) y = both_signs (sign j) y ∙ twice_signed j y
  where
    both_signs : (x y : ℤ) → neg_ℤ x *ℤ y *ℤ neg_ℤ x ≡ x *ℤ y *ℤ x
    both_signs x y = lets (x ∷ y ∷ []) (λ ρ v. simp (v 0, v 1, terms) (solve ρ _ _ tt))

module _ (m n : ℕ) (hm : m ≤ 7) (hn : n ≤ 7) (p q : ℕ → ℤ) where
  -- the Taylor coefficients at the left end are p_0 to p_m
  pub taylor_left_lem : (k : ℕ) → k ≤ m → taylor_left k (blend m n p q) ≡ p k
  unfolding taylor_left one
  taylor_left_lem k h =
      of_blend _ (coefficient-linear k) m n p q ∙
      ap₂ (λ x y. x +ℤ y) (picks m k (pos 1) p _ h (λ j b. (left-base m n hm hn j b).left k h))
      (vanishes n (right_weights q) _ (λ j b. (right-base m n hm hn j b).left k h)) ∙
      +ℤ_idr (p k *ℤ pos 1) ∙ *ℤ-one (p k)

  -- and at the right end q_0 to q_n
  pub taylor_right_lem : (k : ℕ) → k ≤ n → taylor_right k (blend m n p q) ≡ q k
  unfolding taylor_right right_weights
  taylor_right_lem k h =
      of_blend _ (dot-linear (λ i. pos (binomial i k))) m n p q ∙
      ap₂ (λ x y. x +ℤ y) (vanishes m p _ (λ j b. (left-base m n hm hn j b).right k h))
      (picks n k (sign k) (right_weights q) _ h (λ j b. (right-base m n hm hn j b).right k h)) ∙
      +ℤ_idl (right_weights q k *ℤ sign k) ∙ twice_signed k (q k)
