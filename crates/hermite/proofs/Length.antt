-- The lists' lengths: a blend has the coefficients a_0 to a_(m+n+1), and no more.
use mathlib.Core.Path.{◌≡◌, refl, ◌∙◌, ap}
use mathlib.Core.List.{[], ◌∷◌}
use Prim.Native.Nat.{ℕ, zero, suc, ◌+◌, ◌-◌, ◌≤◌, max}
use native.Mathlib.Nat.{le_trans, le_of_eq}
use native.Mathlib.Omega.{arith}
use lib.IntN.{ℤ, pos, negsuc}
use lib.ListN.{length}
use Rattle.hermite.specs.Polynomial.{Polynomial, ◌⊕◌, ◌⊙◌, ◌⊗◌, ◌↑◌, sumₚ, counted, derivative}
use Rattle.hermite.specs.Blend.{s, 1_s, right_weights, of_order, double_sum, blend}
use Rattle.hermite.specs.Slope.{primed, lowered, K, slope}

pub length-⊕ : (a b : Polynomial) → length (a ⊕ b) ≡ max (length a) (length b)
unfolding ◌⊕◌
length-⊕ [] b = omega arith
length-⊕ (x ∷ a) [] = omega arith
length-⊕ (x ∷ a) (y ∷ b) = omega (arith, length-⊕ a b)

pub length-⊙ : (x : ℤ) (a : Polynomial) → length (x ⊙ a) ≡ length a
unfolding ◌⊙◌
length-⊙ x [] = refl
length-⊙ x (y ∷ a) = ap suc (length-⊙ x a)

length-⊗ : (a b : Polynomial) → 1 ≤ length a → 1 ≤ length b → length (a ⊗ b) + 1 ≡ length a + length b
unfolding ◌⊗◌
length-⊗ [] b g h = absurd (omega arith)
length-⊗ (x ∷ []) b g h = omega (arith, length-⊕ (x ⊙ b) (pos 0 ∷ []), length-⊙ x b)
length-⊗ (x ∷ y ∷ a) b g h = omega (arith, length-⊕ (x ⊙ b) (pos 0 ∷ ((y ∷ a) ⊗ b)), length-⊙ x b, length-⊗ (y ∷ a) b (omega arith) h)

-- powers of the linear polynomials s and 1 − s, and their products
pub length-↑ : (x y : ℤ) (k : ℕ) → length ((x ∷ y ∷ []) ↑ k) ≡ k + 1
unfolding ◌↑◌
length-↑ x y zero = refl
length-↑ x y (suc k) =
    let h : length ((x ∷ y ∷ []) ↑ k) ≡ k + 1 = length-↑ x y k in omega (arith, length-⊗ (x ∷ y ∷ []) ((x ∷ y ∷ []) ↑ k) (omega arith) (omega arith))

pub length-powers : (x y u v : ℤ) (i k : ℕ) → length ((x ∷ y ∷ []) ↑ i ⊗ (u ∷ v ∷ []) ↑ k) ≡ i + k + 1
length-powers x y u v i k =
    let h : length ((x ∷ y ∷ []) ↑ i) ≡ i + 1 = length-↑ x y i in
    let g : length ((u ∷ v ∷ []) ↑ k) ≡ k + 1 = length-↑ u v k in
    omega (arith, length-⊗ ((x ∷ y ∷ []) ↑ i) ((u ∷ v ∷ []) ↑ k) (omega arith) (omega arith))

length_sum≤ : (m L : ℕ) (f : ℕ → Polynomial) → ((j : ℕ) → j ≤ m → length (f j) ≤ L) → length (sumₚ m f) ≤ L
unfolding sumₚ
length_sum≤ zero L f h = h zero (omega arith)
length_sum≤ (suc m) L f h = omega (arith, length-⊕ (sumₚ m f) (f (suc m)), length_sum≤ m L f (λ j b. h j (omega arith)), h (suc m) (omega arith))

-- a sum is as long as its last summand, where none is longer
length-sum : (m L : ℕ) (f : ℕ → Polynomial) → ((j : ℕ) → j ≤ m → length (f j) ≤ L) → length (f m) ≡ L → length (sumₚ m f) ≡ L
unfolding sumₚ
length-sum zero L f h e = e
length-sum (suc m) L f h e = omega (arith, length-⊕ (sumₚ m f) (f (suc m)), length_sum≤ m L f (λ j b. h j (omega arith)), e)

pub length-double_sum : (x y u v : ℤ) (m n : ℕ) (w : ℕ → ℤ) → length (double_sum (x ∷ y ∷ []) (u ∷ v ∷ []) m n w) ≡ m + n + 2
unfolding double_sum of_order
length-double_sum x y u v m n w = length-sum m (m + n + 2) _ (λ j h. omega (arith, order j h)) (order m (omega arith))
  where
    term : (b c : ℤ) (i j : ℕ) → length (b ⊙ c ⊙ (x ∷ y ∷ []) ↑ (i + j) ⊗ (u ∷ v ∷ []) ↑ (n + 1)) ≡ i + j + n + 2
    term b c i j = length-⊙ b _ ∙ length-⊙ c _ ∙ length-powers x y u v (i + j) (n + 1) ∙ omega arith

    order : (j : ℕ) → j ≤ m → length (of_order (x ∷ y ∷ []) (u ∷ v ∷ []) m n j (w j)) ≡ m + n + 2
    order j h = length-sum (m - j) (m + n + 2) _ (λ i b. le_trans (le_of_eq (term _ (w j) i j)) (omega arith)) (term _ (w j) (m - j) j ∙ omega arith)

-- the list of a blend is a_0 to a_(m+n+1)
pub length-blend : (m n : ℕ) (p q : ℕ → ℤ) → length (blend m n p q) ≡ m + n + 2
unfolding blend
length-blend m n p q =
    length-⊕ (double_sum s 1_s m n p) (double_sum 1_s s n m (right_weights q)) ∙
    omega (arith, length-double_sum (pos 0) (pos 1) (pos 1) (negsuc 0) m n p, length-double_sum (pos 1) (negsuc 0) (pos 0) (pos 1) n m (right_weights q))

length-counted : (k : ℕ) (a : Polynomial) → length (counted k a) ≡ length a
unfolding counted
length-counted k [] = refl
length-counted k (x ∷ a) = ap suc (length-counted (suc k) a)

pub length-derivative : (a : Polynomial) → length (derivative a) ≡ length a - 1
unfolding derivative
length-derivative [] = omega arith
length-derivative (x ∷ a) = length-counted 1 a ∙ omega arith

length-lowered : (x y u v : ℤ) (m n : ℕ) (w : ℕ → ℤ) → length (lowered (x ∷ y ∷ []) (u ∷ v ∷ []) m n w) ≤ m + n + 1
unfolding lowered
length-lowered x y u v zero n w = omega arith
length-lowered x y u v (suc m) n w = omega (arith, length-double_sum x y u v m n (primed w))

pub length-slope : (m n : ℕ) (p q : ℕ → ℤ) → length (slope m n p q) ≡ m + n + 1
unfolding slope
length-slope m n p q =
    omega (
      arith,
      length-⊕ (lowered s 1_s m n p ⊕ negsuc 0 ⊙ lowered 1_s s n m (right_weights q)) (K m n p q ⊙ s ↑ m ⊗ 1_s ↑ n),
      length-⊕ (lowered s 1_s m n p) (negsuc 0 ⊙ lowered 1_s s n m (right_weights q)),
      length-⊙ (negsuc 0) (lowered 1_s s n m (right_weights q)),
      length-⊙ (K m n p q) (s ↑ m ⊗ 1_s ↑ n),
      length-lowered (pos 0) (pos 1) (pos 1) (negsuc 0) m n p,
      length-lowered (pos 1) (negsuc 0) (pos 0) (pos 1) n m (right_weights q),
      length-powers (pos 0) (pos 1) (pos 1) (negsuc 0) m n,
    )
