-- Request 4/14: what is linear in a blend's weights p and q is the same combination of two blends as the weights u and v are of theirs.
use mathlib.Core.Path.{◌≡◌, sym, ◌∙◌, ap, ap₂}
use Prim.Native.Nat.{ℕ}
use lib.IntN.{ℤ, ◌+ℤ◌, ◌*ℤ◌}
use Rattle.integer.specs.Sum.{sum}
use Rattle.integer.proofs.Laws.{times-combination, combinations_add}
use Rattle.integer.proofs.Sum.{sum-combines}
use Rattle.hermite.specs.Binomial.{sign}
use Rattle.hermite.specs.Polynomial.{Polynomial}
use Rattle.hermite.specs.Blend.{right_weights, blend}
use Rattle.hermite.specs.Water.{weighted_sum}
use Rattle.hermite.proofs.Linear.{Linear, of_blend}

module _ (α β : ℤ) (p q p' q' u v : ℕ → ℤ)
    (left : (j : ℕ) → u j ≡ α *ℤ p j +ℤ β *ℤ p' j) (right : (j : ℕ) → v j ≡ α *ℤ q j +ℤ β *ℤ q' j) where
  right-combines : (j : ℕ) → right_weights v j ≡ α *ℤ right_weights q j +ℤ β *ℤ right_weights q' j
  unfolding right_weights
  right-combines j = ap (λ x. sign j *ℤ x) (right j) ∙ times-combination (sign j) α β (q j) (q' j)

  -- the left weights with factors b, and the right ones with factors c
  both_combine : (m n : ℕ) (b c : ℕ → ℤ) → sum m (λ j. u j *ℤ b j) +ℤ sum n (λ j. right_weights v j *ℤ c j) ≡
      α *ℤ (sum m (λ j. p j *ℤ b j) +ℤ sum n (λ j. right_weights q j *ℤ c j)) +ℤ
      β *ℤ (sum m (λ j. p' j *ℤ b j) +ℤ sum n (λ j. right_weights q' j *ℤ c j))
  both_combine m n b c =
      ap₂ (λ x y. x +ℤ y) (sum-combines m α β p p' u b left)
      (sum-combines n α β (right_weights q) (right_weights q') (right_weights v) c right-combines) ∙
      combinations_add α β (sum m (λ j. p j *ℤ b j)) (sum m (λ j. p' j *ℤ b j))
      (sum n (λ j. right_weights q j *ℤ c j)) (sum n (λ j. right_weights q' j *ℤ c j))

  pub blend-combines : (F : Polynomial → ℤ) → Linear F → (m n : ℕ) → F (blend m n u v) ≡ α *ℤ F (blend m n p q) +ℤ β *ℤ F (blend m n p' q')
  blend-combines F linear m n =
      of_blend F linear m n u v ∙ both_combine m n _ _ ∙
      sym (ap₂ (λ x y. α *ℤ x +ℤ β *ℤ y) (of_blend F linear m n p q) (of_blend F linear m n p' q'))

  pub weighted_sum-combines : (m n : ℕ) → weighted_sum m n u v ≡ α *ℤ weighted_sum m n p q +ℤ β *ℤ weighted_sum m n p' q'
  unfolding weighted_sum
  weighted_sum-combines m n = both_combine m n _ _
