-- A half-sum in its two parts, steps 1 and 2, and step 3: what they come to, and that u fits between them.
use mathlib.Core.Path.{◌≡◌, refl, ◌∙◌, ap, ap₂}
use mathlib.Core.List.{List}
use Prim.Native.Nat.{ℕ, zero, suc, ◌+◌, ◌*◌, ◌-◌, ◌^◌, ◌≤◌}
use native.Mathlib.Omega.{arith}
use lib.Dec.{lit≤}
use lib.IntN.{ℤ}
use Rattle.integer.specs.Within.{Within}
use Rattle.integer.proofs.Within.{within_more, within-natural}
use Rattle.hermite.specs.HalfSum.{g}
use Rattle.hermite.specs.Polynomial.{coefficient}
use Rattle.hermite.specs.Slope.{primed}
use Rattle.rounding.specs.HalfSum.{half_sum, lower_half_sum}
use Rattle.rounding.specs.Limits.{size_max}
use Rattle.rounding.specs.Scaling.{scaled_times}
use Rattle.rounding.proofs.Agree.{Agree, steps_1_and_2_agree, lower_half_sum-agree}
use Rattle.rounding.proofs.Bounds.{g_within, descended-fits, primed-within}
use Rattle.knot_weights.specs.Machine.{Weights}
use Rattle.scaling.specs.Machine.{Complements}
use Rattle.scaling.specs.declared.fraction.Fraction.{Fraction}
use Rattle.scaling.proofs.Complements.{numerator_is, by_complement}
use Rattle.half_sum.specs.Machine.{steps_1_and_2, lower_steps_1_and_2, lower_step_3}

lower-parts : (m n a d : ℕ) (w : ℕ → ℤ) → lower_step_3 m n (d - a) d (lower_steps_1_and_2 m n a d w) ≡ lower_half_sum m n a d w
unfolding lower_half_sum lower_step_3 lower_steps_1_and_2 half_sum
lower-parts zero n a d w = refl
lower-parts (suc m) n a d w = refl

-- both parts, the second by the other fraction of the piece
module _ {s t : Fraction} (pair : Complements s t) (m n : ℕ) {w v : ℕ → ℤ} (same : Agree m w v) {u r : ℤ} where
  pub half-sum_is : u ≡ steps_1_and_2 m n s.a s.d w → r ≡ scaled_times (n + 1) u t.a t.d → r ≡ half_sum m n s.a s.d v
  unfolding half_sum
  half-sum_is e f =
      f ∙ by_complement pair (n + 1) u ∙
      ap (λ z. scaled_times (n + 1) z (s.d - s.a) s.d) (e ∙ steps_1_and_2_agree m n s.a s.d same)

  pub lower-half-sum_is : u ≡ lower_steps_1_and_2 m n s.a s.d w → r ≡ lower_step_3 m n t.a t.d u → r ≡ lower_half_sum m n s.a s.d v
  lower-half-sum_is e f =
      f ∙ ap₂ (λ b d. lower_step_3 m n b d u) (numerator_is pair) pair.divisor ∙ ap (λ z. lower_step_3 m n (s.d - s.a) s.d z) e ∙
      lower-parts m n s.a s.d w ∙ lower_half_sum-agree m n s.a s.d same

-- ---- that u fits

module _ (s : Fraction) (n : ℕ) (hn : n ≤ 7) where
  fit : (m : ℕ) → m ≤ 7 → (w : ℕ → ℤ) → ((j : ℕ) → j ≤ m → Within (7 * size_max) (w j)) → Within (2 ^ 63 - 1) (steps_1_and_2 m n s.a s.d w)
  fit m hm w small =
      descended-fits (g n w) s.a s.d m 0 s.divides.at_least s.proper (omega arith)
      (λ j k. g_within (7 * size_max) n j w hn (omega arith) (λ i l. small i (omega arith)))

  lower-fit : (m : ℕ) → m ≤ 7 → (w : ℕ → ℤ) → ((j : ℕ) → j ≤ m → Within size_max (w j)) → Within (2 ^ 63 - 1) (lower_steps_1_and_2 m n s.a s.d w)
  unfolding lower_steps_1_and_2
  lower-fit zero hm w small = within_more (lit≤ tt) (within-natural 0)
  lower-fit (suc m) hm w small = fit m (omega arith) (primed w) (λ j k. primed-within w j (omega arith) (small (j + 1) (omega arith)))

  -- of an array of weights
  pub steps_1_and_2_fit : (m : ℕ) → m ≤ 7 → {w : List ℤ} → Weights (7 * size_max) w → Within (2 ^ 63 - 1) (steps_1_and_2 m n s.a s.d (coefficient w))
  steps_1_and_2_fit m hm weights = fit m hm _ (λ j k. weights.small j (omega arith))

  pub lower-steps_1_and_2_fit : (m : ℕ) → m ≤ 7 → {w : List ℤ} → Weights size_max w → Within (2 ^ 63 - 1) (lower_steps_1_and_2 m n s.a s.d (coefficient w))
  lower-steps_1_and_2_fit m hm weights = lower-fit m hm _ (λ j k. weights.small j (omega arith))
