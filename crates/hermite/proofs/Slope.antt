-- Document 01, "Trend": the exact derivative, with the coefficients (i+1) × a_(i+1), is Y1 − Y2 + Y3 without rounding,
-- for all grades 0 to 7 and all weights.
use mathlib.Core.Path.{◌≡◌, sym, ◌∙◌, ap, ap₂}
use mathlib.Core.List.{[], ◌∷◌}
use Prim.Native.Nat.{ℕ, suc, ◌+◌, ◌≤◌}
use native.Mathlib.Omega.{arith}
use lib.IntN.{ℤ, pos, negsuc, neg_ℤ, ◌+ℤ◌, ◌-ℤ◌, ◌*ℤ◌}
use lib.ListN.{length}
use lib.Seq.{ext_get_or}
use Rattle.integer.specs.Sum.{sum}
use Rattle.integer.proofs.Laws.{*ℤ-left_comm, *ℤ_distrib}
use Rattle.integer.proofs.Ring.{lets, solve, terms, as_lit, as_minus}
use Rattle.integer.proofs.Sum.{sum_cong, sum-+, sum-*}
use Rattle.hermite.specs.Polynomial.{◌⊕◌, ◌⊙◌, ◌⊗◌, ◌↑◌, coefficient, derivative}
use Rattle.hermite.specs.Blend.{s, 1_s, right_weights, blend}
use Rattle.hermite.specs.Slope.{kappa, sum_k, K, slope}
use Rattle.hermite.proofs.Linear.{Linear, coefficient-linear, coefficient-derivative, lowered_base, of_blend, of_lowered, of_slope}
use Rattle.hermite.proofs.Bases.{left-base, right-base}
use Rattle.hermite.proofs.Length.{length-blend, length-derivative, length-slope}

derivative-linear : (k : ℕ) → Linear (λ a. coefficient (derivative a) k)
derivative-linear k = record {
  sums = λ a b. rw (coefficient-derivative (a ⊕ b) k, coefficient-derivative a k, coefficient-derivative b k, (coefficient-linear (suc k)).sums a b)
      (*ℤ_distrib (pos (1 + k)) (coefficient a (suc k)) (coefficient b (suc k)));
  multiples = λ x a. rw (coefficient-derivative (x ⊙ a) k, coefficient-derivative a k, (coefficient-linear (suc k)).multiples x a)
      (*ℤ-left_comm (pos (1 + k)) x (coefficient a (suc k)));
}

-- the derivative of one double sum, x being 1 or −1: the part of the lower grade, and the part in K
half : (m : ℕ) (x e : ℤ) (w d l k : ℕ → ℤ) → ((j : ℕ) → j ≤ m → d j ≡ x *ℤ (l j -ℤ k j *ℤ e)) →
    sum m (λ j. w j *ℤ d j) ≡ x *ℤ sum m (λ j. w j *ℤ l j) +ℤ neg_ℤ (x *ℤ e) *ℤ sum m (λ j. w j *ℤ k j)
half m x e w d l k h =
    sum_cong m _ _ (λ j b. ap (λ z. w j *ℤ z) (h j b) ∙ apart x e (w j) (l j) (k j)) ∙
    sum-+ m (λ j. x *ℤ (w j *ℤ l j)) (λ j. neg_ℤ (x *ℤ e) *ℤ (w j *ℤ k j)) ∙
    ap₂ (λ u v. u +ℤ v) (sum-* m x (λ j. w j *ℤ l j)) (sum-* m (neg_ℤ (x *ℤ e)) (λ j. w j *ℤ k j))
  where
    apart : (x e w l k : ℤ) → w *ℤ (x *ℤ (l -ℤ k *ℤ e)) ≡ x *ℤ (w *ℤ l) +ℤ neg_ℤ (x *ℤ e) *ℤ (w *ℤ k)
    apart x e w l k = lets (x ∷ e ∷ w ∷ l ∷ k ∷ []) (λ ρ v. simp (v 0, v 1, v 2, v 3, v 4, terms) (solve ρ _ _ tt))

gathered : (a b u v e : ℤ) → (pos 1 *ℤ a +ℤ neg_ℤ (pos 1 *ℤ e) *ℤ u) +ℤ (negsuc 0 *ℤ b +ℤ neg_ℤ (negsuc 0 *ℤ e) *ℤ v) ≡ a +ℤ negsuc 0 *ℤ b +ℤ (v -ℤ u) *ℤ e
gathered a b u v e = lets (a ∷ b ∷ u ∷ v ∷ e ∷ []) (λ ρ y. simp (y 0, y 1, y 2, y 3, y 4, terms, as_lit ρ, as_minus ρ) (solve ρ _ _ tt))

module _ (m n : ℕ) (hm : m ≤ 7) (hn : n ≤ 7) (p q : ℕ → ℤ) where
  same-coefficient : (k : ℕ) → k ≤ m + n → coefficient (derivative (blend m n p q)) k ≡ coefficient (slope m n p q) k
  unfolding K sum_k
  same-coefficient k h =
      of_blend _ (derivative-linear k) m n p q ∙
      ap₂ (λ x y. x +ℤ y)
      (half m (pos 1) e p _ lower (λ j. pos (kappa m n j)) (λ j b. (left-base m n hm hn j b).slope k h))
      (half n (negsuc 0) e (right_weights q) _ lower' (λ j. pos (kappa n m j)) (λ j b. (right-base m n hm hn j b).slope k h)) ∙
      gathered (sum m (λ j. p j *ℤ lower j)) (sum n (λ j. right_weights q j *ℤ lower' j)) (sum_k m n p) (sum_k n m (right_weights q)) e ∙ sym parts
    where
      e : ℤ
      e = coefficient (s ↑ m ⊗ 1_s ↑ n) k

      lower : ℕ → ℤ
      lower j = coefficient (lowered_base s 1_s m n j) k

      lower' : ℕ → ℤ
      lower' j = coefficient (lowered_base 1_s s n m j) k

      linear : Linear (λ a. coefficient a k)
      linear = coefficient-linear k

      parts : coefficient (slope m n p q) k ≡ sum m (λ j. p j *ℤ lower j) +ℤ negsuc 0 *ℤ sum n (λ j. right_weights q j *ℤ lower' j) +ℤ
          (sum_k n m (right_weights q) -ℤ sum_k m n p) *ℤ e
      parts =
          of_slope _ linear m n p q ∙
          ap₂ (λ x y. x +ℤ negsuc 0 *ℤ y +ℤ K m n p q *ℤ e) (of_lowered _ linear s 1_s m n p) (of_lowered _ linear 1_s s n m (right_weights q))

  pub derivative_is : derivative (blend m n p q) ≡ slope m n p q
  derivative_is =
      let long : length (derivative (blend m n p q)) ≡ m + n + 1 = omega (arith, length-derivative (blend m n p q), length-blend m n p q) in
      ext_get_or (pos 0) (derivative (blend m n p q)) (slope m n p q) (long ∙ sym (length-slope m n p q)) (λ k h. same-coefficient k (omega arith))
