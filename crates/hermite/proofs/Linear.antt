-- Everything asked of a blend is linear in its weights: a linear functional of a double sum is the sum of the weights times the
-- functional of closed polynomials, the bases. So a law about all weights is decided by computing on the bases.
use mathlib.Core.Path.{◌≡◌, refl, sym, ◌∙◌, ap, ap₂}
use mathlib.Core.List.{[], ◌∷◌}
use Prim.Native.Nat.{ℕ, zero, suc, ◌+◌, ◌-◌}
use lib.IntN.{ℤ, pos, negsuc, ◌+ℤ◌, ◌*ℤ◌, +ℤ_idl, +ℤ_idr, zero-*ℤ, *ℤ-zero}
use native.Mathlib.Nat.{add-zero, add-suc, suc-add}
use native.Mathlib.Numerals.{add-one}
use Rattle.integer.specs.Sum.{sum}
use Rattle.integer.proofs.Laws.{+ℤ_interchange, *ℤ_distrib, *ℤ_distrib_right, *ℤ_assoc, *ℤ-left_comm}
use Rattle.integer.proofs.Ring.{lets, solve, terms, as_lit}
use Rattle.integer.proofs.Sum.{sum_cong, sum-*, sum_first}
use Rattle.hermite.specs.Polynomial.{Polynomial, ◌⊕◌, ◌⊙◌, ◌⊗◌, ◌↑◌, sumₚ, coefficient, dot, counted, derivative}
use Rattle.hermite.specs.Blend.{s, 1_s, right_weights, of_order, double_sum, blend}
use Rattle.hermite.specs.Slope.{primed, lowered, K, slope}

pub record Linear (F : Polynomial → ℤ) : Type 0 where
  pub sums : (a b : Polynomial) → F (a ⊕ b) ≡ F a +ℤ F b
  pub multiples : (x : ℤ) (a : Polynomial) → F (x ⊙ a) ≡ x *ℤ F a

-- ---- the functionals in use are linear

dot-⊕ : (a b : Polynomial) (φ : ℕ → ℤ) → dot (a ⊕ b) φ ≡ dot a φ +ℤ dot b φ
unfolding dot ◌⊕◌
dot-⊕ [] b φ = sym (+ℤ_idl (dot b φ))
dot-⊕ (x ∷ a) [] φ = sym (+ℤ_idr (dot (x ∷ a) φ))
dot-⊕ (x ∷ a) (y ∷ b) φ = ap₂ (λ u v. u +ℤ v) (*ℤ_distrib_right x y (φ zero)) (dot-⊕ a b (λ i. φ (suc i))) ∙
    +ℤ_interchange (x *ℤ φ zero) (y *ℤ φ zero) (dot a (λ i. φ (suc i))) (dot b (λ i. φ (suc i)))

dot-⊙ : (x : ℤ) (a : Polynomial) (φ : ℕ → ℤ) → dot (x ⊙ a) φ ≡ x *ℤ dot a φ
unfolding dot ◌⊙◌
dot-⊙ x [] φ = sym (*ℤ-zero x)
dot-⊙ x (y ∷ a) φ = ap₂ (λ u v. u +ℤ v) (*ℤ_assoc x y (φ zero)) (dot-⊙ x a (λ i. φ (suc i))) ∙ sym (*ℤ_distrib x (y *ℤ φ zero) (dot a (λ i. φ (suc i))))

pub dot-linear : (φ : ℕ → ℤ) → Linear (λ a. dot a φ)
dot-linear φ = record { sums = λ a b. dot-⊕ a b φ; multiples = λ x a. dot-⊙ x a φ }

coefficient-⊕ : (a b : Polynomial) (k : ℕ) → coefficient (a ⊕ b) k ≡ coefficient a k +ℤ coefficient b k
unfolding ◌⊕◌
coefficient-⊕ [] b k = sym (+ℤ_idl (coefficient b k))
coefficient-⊕ (x ∷ a) [] k = sym (+ℤ_idr (coefficient (x ∷ a) k))
coefficient-⊕ (x ∷ a) (y ∷ b) zero = refl
coefficient-⊕ (x ∷ a) (y ∷ b) (suc k) = coefficient-⊕ a b k

coefficient-⊙ : (x : ℤ) (a : Polynomial) (k : ℕ) → coefficient (x ⊙ a) k ≡ x *ℤ coefficient a k
unfolding ◌⊙◌
coefficient-⊙ x [] k = sym (*ℤ-zero x)
coefficient-⊙ x (y ∷ a) zero = refl
coefficient-⊙ x (y ∷ a) (suc k) = coefficient-⊙ x a k

pub coefficient-linear : (k : ℕ) → Linear (λ a. coefficient a k)
coefficient-linear k = record { sums = λ a b. coefficient-⊕ a b k; multiples = λ x a. coefficient-⊙ x a k }

-- the derivative's coefficients, without its list
coefficient-counted : (i : ℕ) (a : Polynomial) (k : ℕ) → coefficient (counted i a) k ≡ pos (i + k) *ℤ coefficient a k
unfolding counted
coefficient-counted i [] k = sym (*ℤ-zero (pos (i + k)))
coefficient-counted i (x ∷ a) zero = rw add-zero
coefficient-counted i (x ∷ a) (suc k) = rw add-suc (coefficient-counted (suc i) a k ∙ ap (λ n. pos n *ℤ coefficient a k) (suc-add i k))

pub coefficient-derivative : (a : Polynomial) (k : ℕ) → coefficient (derivative a) k ≡ pos (1 + k) *ℤ coefficient a (suc k)
unfolding derivative
coefficient-derivative [] k = sym (*ℤ-zero (pos (1 + k)))
coefficient-derivative (x ∷ a) k = coefficient-counted 1 a k

-- ---- a double sum, taken apart

-- what multiplies w_j in a double sum: the terms of order j with the weight 1
abbrev pub base : Polynomial → Polynomial → ℕ → ℕ → ℕ → Polynomial
base x y m n j = of_order x y m n j (pos 1)

-- and what multiplies w_j in the double sum of grade m−1 on w'
unfoldable pub lowered_base : Polynomial → Polynomial → ℕ → ℕ → ℕ → Polynomial
lowered_base x y m n zero = []
lowered_base x y zero n (suc j) = []
lowered_base x y (suc m) n (suc j) = pos (suc j) ⊙ base x y m n j

module _ (F : Polynomial → ℤ) (linear : Linear F) where
  pub of_sum : (m : ℕ) (f : ℕ → Polynomial) → F (sumₚ m f) ≡ sum m (λ j. F (f j))
  unfolding sum sumₚ
  of_sum zero f = refl
  of_sum (suc m) f = linear.sums (sumₚ m f) (f (suc m)) ∙ ap (λ x. x +ℤ F (f (suc m))) (of_sum m f)

  pub of_multiples : (b v : ℤ) (a : Polynomial) → F (b ⊙ v ⊙ a) ≡ b *ℤ (v *ℤ F a)
  of_multiples b v a = linear.multiples b (v ⊙ a) ∙ ap (λ x. b *ℤ x) (linear.multiples v a)

  of_weight : (b v : ℤ) (a : Polynomial) → F (b ⊙ v ⊙ a) ≡ v *ℤ F (b ⊙ pos 1 ⊙ a)
  of_weight b v a = of_multiples b v a ∙ regroup b v (F a) ∙ ap (λ x. v *ℤ x) (sym (of_multiples b (pos 1) a))
    where
      regroup : (b v a : ℤ) → b *ℤ (v *ℤ a) ≡ v *ℤ (b *ℤ (pos 1 *ℤ a))
      regroup b v a = lets (b ∷ v ∷ a ∷ []) (λ ρ y. simp (y 0, y 1, y 2, terms, as_lit ρ) (solve ρ _ _ tt))

  of_order_lem : (x y : Polynomial) (m n j : ℕ) (v : ℤ) → F (of_order x y m n j v) ≡ v *ℤ F (base x y m n j)
  unfolding of_order
  of_order_lem x y m n j v =
      of_sum (m - j) _ ∙ sum_cong (m - j) _ _ (λ i h. of_weight _ v _) ∙ sum-* (m - j) v _ ∙ ap (λ z. v *ℤ z) (sym (of_sum (m - j) _))

  pub of_double_sum : (x y : Polynomial) (m n : ℕ) (w : ℕ → ℤ) → F (double_sum x y m n w) ≡ sum m (λ j. w j *ℤ F (base x y m n j))
  unfolding double_sum
  of_double_sum x y m n w = of_sum m _ ∙ sum_cong m _ _ (λ j h. of_order_lem x y m n j (w j))

  pub of_blend : (m n : ℕ) (p q : ℕ → ℤ) →
      F (blend m n p q) ≡ sum m (λ j. p j *ℤ F (base s 1_s m n j)) +ℤ sum n (λ j. right_weights q j *ℤ F (base 1_s s n m j))
  unfolding blend
  of_blend m n p q =
      linear.sums (double_sum s 1_s m n p) (double_sum 1_s s n m (right_weights q)) ∙
      ap₂ (λ u v. u +ℤ v) (of_double_sum s 1_s m n p) (of_double_sum 1_s s n m (right_weights q))

  of_none : F [] ≡ pos 0
  unfolding ◌⊙◌
  of_none = linear.multiples (pos 0) [] ∙ zero-*ℤ (F [])

  pub of_lowered : (x y : Polynomial) (m n : ℕ) (w : ℕ → ℤ) → F (lowered x y m n w) ≡ sum m (λ j. w j *ℤ F (lowered_base x y m n j))
  unfolding lowered lowered_base primed sum
  of_lowered x y zero n w = of_none ∙ sym (*ℤ-zero (w 0)) ∙ ap (λ z. w 0 *ℤ z) (sym of_none)
  of_lowered x y (suc m) n w =
      of_double_sum x y m n (primed w) ∙ sum_cong m _ _ (λ j h. raised j) ∙
      sym (sum_first m _ ∙ ap (λ z. z +ℤ sum m (λ j. w (suc j) *ℤ F (lowered_base x y (suc m) n (suc j)))) (ap (λ z. w 0 *ℤ z) of_none ∙ *ℤ-zero (w 0)) ∙
      +ℤ_idl _)
    where
      raised : (j : ℕ) → primed w j *ℤ F (base x y m n j) ≡ w (suc j) *ℤ F (pos (suc j) ⊙ base x y m n j)
      raised j = rw add-one (*ℤ_assoc (pos (suc j)) (w (suc j)) (F (base x y m n j)) ∙ *ℤ-left_comm (pos (suc j)) (w (suc j)) (F (base x y m n j)) ∙
          ap (λ z. w (suc j) *ℤ z) (sym (linear.multiples (pos (suc j)) (base x y m n j))))

  pub of_slope : (m n : ℕ) (p q : ℕ → ℤ) →
      F (slope m n p q) ≡ F (lowered s 1_s m n p) +ℤ negsuc 0 *ℤ F (lowered 1_s s n m (right_weights q)) +ℤ K m n p q *ℤ F (s ↑ m ⊗ 1_s ↑ n)
  unfolding slope
  of_slope m n p q =
      linear.sums (lowered s 1_s m n p ⊕ negsuc 0 ⊙ lowered 1_s s n m (right_weights q)) (K m n p q ⊙ s ↑ m ⊗ 1_s ↑ n) ∙
      ap₂ (λ u v. u +ℤ v)
      (linear.sums (lowered s 1_s m n p) (negsuc 0 ⊙ lowered 1_s s n m (right_weights q)) ∙
      ap (λ u. F (lowered s 1_s m n p) +ℤ u) (linear.multiples (negsuc 0) (lowered 1_s s n m (right_weights q))))
      (linear.multiples (K m n p q) (s ↑ m ⊗ 1_s ↑ n))
