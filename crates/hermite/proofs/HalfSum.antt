-- The exact value and derivative at r/D are the unrounded half-sums on g_i. Only `derivative-value` needs a bound on the grades.
use mathlib.Core.Path.{◌≡◌, refl, sym, ◌∙◌, ap, ap₂}
use mathlib.Core.List.{[], ◌∷◌}
use Prim.Native.Nat.{ℕ, zero, suc, ◌+◌, ◌*◌, ◌-◌, ◌^◌, ◌≤◌}
use native.Mathlib.Nat.{pow-zero}
use native.Mathlib.Omega.{arith}
use lib.IntN.{ℤ, pos, negsuc, ◌+ℤ◌, ◌-ℤ◌, ◌*ℤ◌}
use Rattle.integer.specs.Sum.{sum}
use Rattle.integer.proofs.Laws.{*ℤ-left_comm, *ℤ_distrib, *ℤ_assoc}
use Rattle.integer.proofs.Ring.{lets, solve, terms, as_minus}
use Rattle.integer.proofs.Sum.{sum_cong, sum-*, triangle}
use Rattle.hermite.specs.Binomial.{binomial}
use Rattle.hermite.specs.Polynomial.{Polynomial, ◌⊗◌, ◌↑◌, at, derivative}
use Rattle.hermite.specs.Blend.{s, 1_s, right_weights, of_order, double_sum, blend}
use Rattle.hermite.specs.HalfSum.{value_unit, g, unrounded_descent, unrounded}
use Rattle.hermite.specs.Slope.{primed, K, lowered, lower_unrounded, slope, unrounded_slope}
use Rattle.hermite.proofs.Linear.{of_sum, of_multiples, of_slope}
use Rattle.hermite.proofs.Length.{length-↑, length-slope}
use Rattle.hermite.proofs.Slope.{derivative_is}
use Rattle.hermite.proofs.At.{pow_one, at_linear, at_none, at_raise, at_⊗, at_↑, at_s, at_1_s}

-- linear polynomials that come to X and Y
module _ (r D X Y : ℕ) (x x' y y' : ℤ) (ex : at r D 1 (x ∷ x' ∷ []) ≡ pos X) (ey : at r D 1 (y ∷ y' ∷ []) ≡ pos Y) where
  at_powers : (m i k : ℕ) → i ≤ m → at r D (m + k) ((x ∷ x' ∷ []) ↑ i ⊗ (y ∷ y' ∷ []) ↑ k) ≡ pos (Y ^ k * (X ^ i * D ^ (m - i)))
  at_powers m i k h =
      let e : m ≡ (m - i) + i = omega arith in
      at_⊗ r D m k ((x ∷ x' ∷ []) ↑ i) ((y ∷ y' ∷ []) ↑ k) (omega (arith, length-↑ x x' i)) (omega (arith, length-↑ y y' k)) ∙
      ap₂ (λ u v. u *ℤ v)
      (ap (λ N. at r D N ((x ∷ x' ∷ []) ↑ i)) e ∙ at_raise r D (m - i) i ((x ∷ x' ∷ []) ↑ i) (omega (arith, length-↑ x x' i)) ∙
      ap (λ z. pos (D ^ (m - i)) *ℤ z) (at_↑ r D X x x' ex i))
      (at_↑ r D Y y y' ey k) ∙
      ap pos (turn (D ^ (m - i)) (X ^ i) (Y ^ k))
    where
      turn : (d u v : ℕ) → d * u * v ≡ v * (u * d)
      turn d u v = omega arith

  at_double_sum : (m n : ℕ) (w : ℕ → ℤ) →
      at r D (m + (n + 1)) (double_sum (x ∷ x' ∷ []) (y ∷ y' ∷ []) m n w) ≡ pos (Y ^ (n + 1)) *ℤ sum m (λ i. g n w i *ℤ pos (X ^ i * D ^ (m - i)))
  unfolding double_sum of_order g
  at_double_sum m n w =
      of_sum F (at_linear r D (m + (n + 1))) m _ ∙ sum_cong m _ _ (λ j h. row j h) ∙ triangle m cell ∙ sum_cong m _ _ (λ k h. diagonal k h) ∙
      sum-* m (pos (Y ^ (n + 1))) (λ i. g n w i *ℤ pos (X ^ i * D ^ (m - i)))
    where
      F : Polynomial → ℤ
      F = at r D (m + (n + 1))

      power : ℕ → ℕ
      power k = X ^ k * D ^ (m - k)

      cell : ℕ → ℕ → ℤ
      cell j i = pos (binomial (n + i) i) *ℤ (w j *ℤ pos (Y ^ (n + 1) * power (i + j)))

      row : (j : ℕ) → j ≤ m → F (of_order (x ∷ x' ∷ []) (y ∷ y' ∷ []) m n j (w j)) ≡ sum (m - j) (cell j)
      row j h =
          of_sum F (at_linear r D (m + (n + 1))) (m - j) _ ∙
          sum_cong (m - j) _ _ (λ i b. of_multiples F (at_linear r D (m + (n + 1))) _ (w j) _ ∙
          ap (λ z. pos (binomial (n + i) i) *ℤ (w j *ℤ z)) (at_powers m (i + j) (n + 1) (omega arith)))

      last-first : (b w z : ℤ) → b *ℤ (w *ℤ z) ≡ z *ℤ (b *ℤ w)
      last-first b w z = lets (b ∷ w ∷ z ∷ []) (λ ρ y. simp (y 0, y 1, y 2, terms) (solve ρ _ _ tt))

      apart : (u v t : ℤ) → (u *ℤ v) *ℤ t ≡ u *ℤ (t *ℤ v)
      apart u v t = lets (u ∷ v ∷ t ∷ []) (λ ρ y. simp (y 0, y 1, y 2, terms) (solve ρ _ _ tt))

      one_cell : (k j : ℕ) → j ≤ k → cell j (k - j) ≡ pos (Y ^ (n + 1) * power k) *ℤ (pos (binomial (n + k - j) (k - j)) *ℤ w j)
      one_cell k j h =
          let e : n + (k - j) ≡ n + k - j = omega arith in
          let f : k - j + j ≡ k = omega arith in
          rw (e, f) (last-first (pos (binomial (n + k - j) (k - j))) (w j) (pos (Y ^ (n + 1) * power k)))

      diagonal : (k : ℕ) → k ≤ m → sum k (λ j. cell j (k - j)) ≡ pos (Y ^ (n + 1)) *ℤ (g n w k *ℤ pos (power k))
      diagonal k h =
          sum_cong k _ _ (λ j b. one_cell k j b) ∙ sum-* k (pos (Y ^ (n + 1) * power k)) (λ j. pos (binomial (n + k - j) (k - j)) *ℤ w j) ∙
          apart (pos (Y ^ (n + 1))) (pos (power k)) (g n w k)

-- multiplied by 65,536 that is the half-sum without its rounding
scaled_up : (m n a D Y : ℕ) (w : ℕ → ℤ) → Y ≡ D - a → pos value_unit *ℤ
    (pos (Y ^ (n + 1)) *ℤ sum m (λ i. g n w i *ℤ pos (a ^ i * D ^ (m - i)))) ≡ unrounded m n a D w
unfolding unrounded unrounded_descent
scaled_up m n a D Y w e =
    rw e (*ℤ-left_comm (pos value_unit) (pos ((D - a) ^ (n + 1))) (sum m (λ i. g n w i *ℤ pos (a ^ i * D ^ (m - i))))) ∙
    ap (λ z. pos ((D - a) ^ (n + 1)) *ℤ z) (sym (sum-* m (pos value_unit) (λ i. g n w i *ℤ pos (a ^ i * D ^ (m - i)))) ∙
    sum_cong m _ _ (λ i h. sym (*ℤ_assoc (pos value_unit) (g n w i) (pos (a ^ i * D ^ (m - i))))))

module _ (r D : ℕ) (h : r ≤ D) where
  left-value : (m n : ℕ) (w : ℕ → ℤ) → pos value_unit *ℤ at r D (m + (n + 1)) (double_sum s 1_s m n w) ≡ unrounded m n r D w
  left-value m n w = ap (λ z. pos value_unit *ℤ z) (at_double_sum r D r (D - r) (pos 0) (pos 1) (pos 1) (negsuc 0) (at_s r D) (at_1_s r D h) m n w) ∙
      scaled_up m n r D (D - r) w refl

  right-value : (m n : ℕ) (w : ℕ → ℤ) → pos value_unit *ℤ at r D (m + (n + 1)) (double_sum 1_s s m n w) ≡ unrounded m n (D - r) D w
  right-value m n w = ap (λ z. pos value_unit *ℤ z) (at_double_sum r D (D - r) r (pos 1) (negsuc 0) (pos 0) (pos 1) (at_1_s r D h) (at_s r D) m n w) ∙
      scaled_up m n (D - r) D r w (omega arith)

  -- 65,536 × the blend at r/D, multiplied by D^(m+n+1)
  pub blend-value : (m n : ℕ) (p q : ℕ → ℤ) → pos value_unit *ℤ at r D (m + n + 1) (blend m n p q) ≡ unrounded m n r D p +ℤ unrounded n m (D - r) D
      (right_weights q)
  unfolding blend
  blend-value m n p q =
      let e : m + n + 1 ≡ m + (n + 1) = omega arith in
      let f : m + n + 1 ≡ n + (m + 1) = omega arith in
      ap (λ z. pos value_unit *ℤ z) ((at_linear r D (m + n + 1)).sums (double_sum s 1_s m n p) (double_sum 1_s s n m (right_weights q))) ∙
      *ℤ_distrib (pos value_unit) (at r D (m + n + 1) (double_sum s 1_s m n p)) (at r D (m + n + 1) (double_sum 1_s s n m (right_weights q))) ∙
      ap₂ (λ u v. u +ℤ v) (ap (λ N. pos value_unit *ℤ at r D N (double_sum s 1_s m n p)) e ∙ left-value m n p)
      (ap (λ N. pos value_unit *ℤ at r D N (double_sum 1_s s n m (right_weights q))) f ∙ right-value n m (right_weights q))

  -- Y1 and Y2; of grade −1 both sides are 0
  lowered-value : (x y : Polynomial) (a : ℕ) → ((m n : ℕ) (w : ℕ → ℤ) → pos value_unit *ℤ at r D (m + (n + 1)) (double_sum x y m n w) ≡ unrounded m n a D w) →
      (m n : ℕ) (w : ℕ → ℤ) → pos value_unit *ℤ at r D (m + n) (lowered x y m n w) ≡ lower_unrounded m n a D w
  unfolding lowered lower_unrounded
  lowered-value x y a is zero n w = ap (λ z. pos value_unit *ℤ z) (at_none r D (0 + n))
  lowered-value x y a is (suc m) n w =
      let e : suc m + n ≡ m + (n + 1) = omega arith in
      ap (λ N. pos value_unit *ℤ at r D N (double_sum x y m n (primed w))) e ∙ is m n (primed w)

  -- Y3
  last-value : (m n : ℕ) (k : ℤ) → pos value_unit *ℤ (k *ℤ at r D (m + n) (s ↑ m ⊗ 1_s ↑ n)) ≡ pos ((D - r) ^ n) *ℤ (pos (r ^ m) *ℤ (pos value_unit *ℤ k))
  last-value m n k =
      ap (λ z. pos value_unit *ℤ (k *ℤ z)) (at_powers r D r (D - r) (pos 0) (pos 1) (pos 1) (negsuc 0) (at_s r D) (at_1_s r D h) m m n (omega arith) ∙
      ap (λ x. pos ((D - r) ^ n * x)) whole) ∙
      regroup (pos value_unit) k (pos ((D - r) ^ n)) (pos (r ^ m))
    where
      whole : r ^ m * D ^ (m - m) ≡ r ^ m
      whole = let e : m - m ≡ 0 = omega arith in rw (e, pow-zero) (omega arith)

      regroup : (σ k y x : ℤ) → σ *ℤ (k *ℤ (y *ℤ x)) ≡ y *ℤ (x *ℤ (σ *ℤ k))
      regroup σ k y x = lets (σ ∷ k ∷ y ∷ x ∷ []) (λ ρ v. simp (v 0, v 1, v 2, v 3, terms) (solve ρ _ _ tt))

  slope-value : (m n : ℕ) (p q : ℕ → ℤ) → pos value_unit *ℤ at r D (m + n) (slope m n p q) ≡ unrounded_slope m n r D p q
  unfolding unrounded_slope
  slope-value m n p q =
      let e : m + n ≡ n + m = omega arith in
      ap (λ z. pos value_unit *ℤ z) (of_slope _ (at_linear r D (m + n)) m n p q) ∙
      regroup (pos value_unit) (at r D (m + n) (lowered s 1_s m n p)) (at r D (m + n) (lowered 1_s s n m (right_weights q)))
      (K m n p q *ℤ at r D (m + n) (s ↑ m ⊗ 1_s ↑ n)) ∙
      ap₂ (λ u v. u +ℤ v)
      (ap₂ (λ u v. u -ℤ v) (lowered-value s 1_s r left-value m n p)
      (ap (λ N. pos value_unit *ℤ at r D N (lowered 1_s s n m (right_weights q))) e ∙ lowered-value 1_s s (D - r) right-value n m (right_weights q)))
      (last-value m n (K m n p q))
    where
      regroup : (σ a b c : ℤ) → σ *ℤ (a +ℤ negsuc 0 *ℤ b +ℤ c) ≡ σ *ℤ a -ℤ σ *ℤ b +ℤ σ *ℤ c
      regroup σ a b c = lets (σ ∷ a ∷ b ∷ c ∷ []) (λ ρ v. simp (v 0, v 1, v 2, v 3, terms, as_minus ρ) (solve ρ _ _ tt))

  -- 65,536 × the derivative at r/D, multiplied by D^(m+n+1), for grades 0 to 7
  pub derivative-value : (m n : ℕ) → m ≤ 7 → n ≤ 7 → (p q : ℕ → ℤ) →
      pos value_unit *ℤ at r D (m + n + 1) (derivative (blend m n p q)) ≡ pos D *ℤ unrounded_slope m n r D p q
  derivative-value m n hm hn p q =
      let e : m + n + 1 ≡ 1 + (m + n) = omega arith in
      ap₂ (λ N a. pos value_unit *ℤ at r D N a) e (derivative_is m n hm hn p q) ∙
      ap (λ x. pos value_unit *ℤ x) (at_raise r D 1 (m + n) (slope m n p q) (omega (arith, length-slope m n p q)) ∙
      ap (λ d. pos d *ℤ at r D (m + n) (slope m n p q)) (pow_one D)) ∙
      *ℤ-left_comm (pos value_unit) (pos D) (at r D (m + n) (slope m n p q)) ∙ ap (λ x. pos D *ℤ x) (slope-value m n p q)
