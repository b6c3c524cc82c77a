-- Request 4/14 for one piece: with the coefficients αA + βB its exact blend and its total are the same combination of those of A and B, and
-- its value lies near that of theirs.
use mathlib.Core.List.{List, [], ◌∷◌}
use mathlib.Core.Path.{◌≡◌, refl, sym, ◌∙◌, ap, ap₂}
use Prim.Native.Nat.{ℕ, ◌+◌, ◌*◌, ◌^◌, ◌≤◌, ◌<◌, max}
use native.Mathlib.Nat.{mul-le-mul_left, le_of_mul-le-mul_right, one-le-pow}
use native.Mathlib.Omega.{arith}
use lib.IntN.{ℤ, pos, nat_abs, ◌+ℤ◌, ◌-ℤ◌, ◌*ℤ◌}
use lib.ListN.{length}
use Rattle.integer.proofs.Laws.{combination-times, times-combination}
use Rattle.integer.proofs.Ring.{lets, solve, terms}
use Rattle.integer.proofs.Within.{within-add, within_mul, within-neg, within-size, size-within, size-times}
use Rattle.hermite.specs.Polynomial.{Polynomial, ◌⊕◌, ◌⊙◌, coefficient, at}
use Rattle.hermite.specs.HalfSum.{value_unit}
use Rattle.hermite.specs.Water.{weighted_sum}
use Rattle.hermite.proofs.Length.{length-⊕, length-⊙}
use Rattle.hermite.proofs.Linear.{Linear, dot-linear, coefficient-linear}
use Rattle.hermite.proofs.Combination.{blend-combines, weighted_sum-combines}
use Rattle.rounding.specs.Piece.{Piece, piece, m, n, p, q, D, position_unit, weight, exact_blend}
use Rattle.rounding.specs.Value.{N, value, value_error}
use Rattle.rounding.specs.Water.{total}
use Rattle.rounding.specs.Combination.{CombinedDistance}
use Rattle.rounding.proofs.Distance.Value.{value-distance}

-- ---- the list αA + βB: as long as the longer of the two, and each weight the same combination

pub combined-length : (α β : ℤ) (A B : List ℤ) → length (α ⊙ A ⊕ β ⊙ B) ≡ max (length A) (length B)
combined-length α β A B = length-⊕ (α ⊙ A) (β ⊙ B) ∙ ap₂ max (length-⊙ α A) (length-⊙ β B)

pub combined-coefficient : (α β : ℤ) (A B : List ℤ) (j : ℕ) → coefficient (α ⊙ A ⊕ β ⊙ B) j ≡ α *ℤ coefficient A j +ℤ β *ℤ coefficient B j
combined-coefficient α β A B j =
    let linear = coefficient-linear j in
    linear.sums (α ⊙ A) (β ⊙ B) ∙ ap₂ (λ x y. x +ℤ y) (linear.multiples α A) (linear.multiples β B)

weight-combines : (α β : ℤ) (h : ℕ) (A B : List ℤ) (j : ℕ) → weight h (α ⊙ A ⊕ β ⊙ B) j ≡ α *ℤ weight h A j +ℤ β *ℤ weight h B j
weight-combines α β h A B j =
    ap (λ x. x *ℤ pos (h ^ j)) (combined-coefficient α β A B j) ∙ combination-times α β (coefficient A j) (coefficient B j) (pos (h ^ j))

-- ---- two pieces of one length and one pair of grades

-- the piece with the coefficients αA + βB at both ends
abbrev pub combined_piece : ℤ → ℤ → Piece → Piece → Piece
combined_piece α β P Q = piece P.h (α ⊙ P.left ⊕ β ⊙ Q.left) (α ⊙ P.right ⊕ β ⊙ Q.right)

-- the error of a value in size, with the piece's h, m and n known by other names
error-size : (S : Piece) (r h i k : ℕ) → S.h ≡ h → m S ≡ i → n S ≡ k → 0 < h → r ≤ position_unit * h → let d = position_unit * h in
    nat_abs (pos value_unit *ℤ at r d (i + k + 1) (exact_blend S) -ℤ pos (d ^ (i + k + 1)) *ℤ value S r) ≤ (i + k + 1) * d ^ (i + k + 1)
unfolding value_error
error-size S r h i k eh em en long within = rw (← eh, ← em, ← en) (value-distance S r (omega arith) (omega arith))

-- three errors of the same bound
errors_add : (a b e e' e'' M T s : ℕ) → e ≤ M * T → e' ≤ M * T → e'' ≤ M * T → s ≤ a * e + b * e' + e'' → s ≤ (1 + a + b) * M * T
errors_add a b e e' e'' M T s f g k most = omega (arith, mul-le-mul_left a f, mul-le-mul_left b g)

module _ (α β : ℤ) (P Q : Piece) (same_h : Q.h ≡ P.h) (same_m : m Q ≡ m P) (same_n : n Q ≡ n P) where
  abbrev R : Piece
  R = combined_piece α β P Q

  grade-left : m R ≡ m P
  grade-left = omega (arith, combined-length α β P.left Q.left)

  grade-right : n R ≡ n P
  grade-right = omega (arith, combined-length α β P.right Q.right)

  left-weights : (j : ℕ) → p R j ≡ α *ℤ p P j +ℤ β *ℤ p Q j
  left-weights j = rw same_h (weight-combines α β P.h P.left Q.left j)

  right-weights : (j : ℕ) → q R j ≡ α *ℤ q P j +ℤ β *ℤ q Q j
  right-weights j = rw same_h (weight-combines α β P.h P.right Q.right j)

  -- whatever is linear in the blend
  combines : (F : Polynomial → ℤ) → Linear F → F (exact_blend R) ≡ α *ℤ F (exact_blend P) +ℤ β *ℤ F (exact_blend Q)
  unfolding exact_blend
  combines F linear =
      rw (grade-left, grade-right, same_m, same_n) (blend-combines α β (p P) (q P) (p Q) (q Q) (p R) (q R) left-weights right-weights F linear (m P) (n P))

  pub coefficients_combine : (i : ℕ) → coefficient (exact_blend R) i ≡ α *ℤ coefficient (exact_blend P) i +ℤ β *ℤ coefficient (exact_blend Q) i
  coefficients_combine i = combines _ (coefficient-linear i)

  pub total-combines : total R ≡ α *ℤ total P +ℤ β *ℤ total Q
  unfolding total
  total-combines =
      rw (grade-left, grade-right, same_m, same_n)
      (ap (λ x. pos P.h *ℤ x) (weighted_sum-combines α β (p P) (q P) (p Q) (q Q) (p R) (q R) left-weights right-weights (m P) (n P)) ∙
      times-combination (pos P.h) α β (weighted_sum (m P) (n P) (p P) (q P)) (weighted_sum (m P) (n P) (p Q) (q Q)) ∙
      ap (λ h. α *ℤ total P +ℤ β *ℤ (pos h *ℤ weighted_sum (m P) (n P) (p Q) (q Q))) (sym same_h))

  module _ (r : ℕ) (long : 0 < P.h) (within : r ≤ D P) where
    abbrev T : ℕ
    T = D P ^ N P

    -- the exact blend there, and the error of a value, each multiplied by D^(m+n+1)
    abbrev exact : Piece → ℤ
    exact S = at r (D P) (N P) (exact_blend S)

    abbrev error : Piece → ℤ
    error S = pos value_unit *ℤ exact S -ℤ pos T *ℤ value S r

    abbrev apart : ℤ
    apart = value R r -ℤ (α *ℤ value P r +ℤ β *ℤ value Q r)

    exact-combines : exact R ≡ α *ℤ exact P +ℤ β *ℤ exact Q
    unfolding at
    exact-combines = combines _ (dot-linear _)

    apart_is : pos T *ℤ apart ≡ α *ℤ error P +ℤ β *ℤ error Q -ℤ error R
    apart_is = rw exact-combines (regrouped (pos value_unit) (pos T) (exact P) (exact Q) (value P r) (value Q r) (value R r))
      where
        regrouped : (U T x y v v' w : ℤ) → T *ℤ (w -ℤ (α *ℤ v +ℤ β *ℤ v')) ≡
            α *ℤ (U *ℤ x -ℤ T *ℤ v) +ℤ β *ℤ (U *ℤ y -ℤ T *ℤ v') -ℤ (U *ℤ (α *ℤ x +ℤ β *ℤ y) -ℤ T *ℤ w)
        regrouped U T x y v v' w =
            lets (α ∷ β ∷ U ∷ T ∷ x ∷ y ∷ v ∷ v' ∷ w ∷ []) (λ ρ z.
            simp (z 0, z 1, z 2, z 3, z 4, z 5, z 6, z 7, z 8, terms) (solve ρ _ _ tt))

    error-most : nat_abs (pos T *ℤ apart) ≤ nat_abs α * nat_abs (error P) + nat_abs β * nat_abs (error Q) + nat_abs (error R)
    error-most =
        rw apart_is (size-within _ (within-add _ _
        (within-add _ _ (within_mul α _ (within-size α) (within-size (error P))) (within_mul β _ (within-size β) (within-size (error Q))))
        (within-neg _ (within-size (error R)))))

    pub value-combines : CombinedDistance α β P (value P r) (value Q r) (value R r)
    value-combines = le_of_mul-le-mul_right (omega (arith, size-times T apart, most)) (one-le-pow (N P) (D P) (omega arith))
      where
        most : nat_abs (pos T *ℤ apart) ≤ (1 + nat_abs α + nat_abs β) * (m P + n P + 1) * T
        most =
            errors_add (nat_abs α) (nat_abs β) (nat_abs (error P)) (nat_abs (error Q)) (nat_abs (error R)) (m P + n P + 1) T _
            (error-size P r P.h (m P) (n P) refl refl refl long within)
            (error-size Q r P.h (m P) (n P) same_h same_m same_n long within)
            (error-size R r P.h (m P) (n P) refl grade-left grade-right long within) error-most
