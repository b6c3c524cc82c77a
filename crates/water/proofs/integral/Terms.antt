-- Whole numbers in the machine's 64 bits: sums of products c_j × w_j, of which up to 8 fit.
use mathlib.Core.Path.{◌≡◌, refl}
use mathlib.Core.List.{List}
use Prim.Native.Nat.{ℕ, zero, suc, ◌+◌, ◌-◌, ◌*◌, ◌≤◌}
use native.Mathlib.Nat.{le_trans, lt_of_le_of_lt, mul-le-mul_right}
use native.Mathlib.Omega.{arith}
use lib.Dec.{lit<}
use lib.IntN.{ℤ, pos, ◌+ℤ◌, ◌*ℤ◌}
use lib.ListN.{get_or}
use mir.Syntax.{w64}
use mir.Val.{SFits, to_z, of_z}
use mir.Facts.{to_z-of_z, to_z_pos}
use Rattle.integer.specs.Sum.{sum}
use Rattle.integer.specs.Within.{Within}
use Rattle.integer.proofs.Within.{within-natural, within_mul, within-fits, within-sum, shares-most}
use Rattle.hermite.specs.Polynomial.{coefficient}
use Rattle.hermite.specs.Water.{water_unit}
use Rattle.knot_weights.specs.Machine.{Weights}
use Rattle.rounding.specs.Limits.{size_max}
use Rattle.water.specs.Machine.{Entries}

abbrev pub term : List ℕ → List ℤ → ℕ → ℤ
term c w j = pos (get_or c j 0) *ℤ coefficient w j

module _ (c : List ℕ) (w : List ℤ) (entries : Entries c) (weights : Weights size_max w) where
  pub entry-fits : (j : ℕ) → SFits w64 (pos (get_or c j 0))
  entry-fits j = record { sfits = omega (arith, entries.small j) }

  pub machine_term : (j : ℕ) → j ≤ 7 → to_z w64 (get_or c j 0) *ℤ to_z w64 (of_z w64 (coefficient w j)) ≡ term c w j
  machine_term j h =
      rw (to_z-of_z (within-fits w64 (coefficient w j) (lit< tt) (weights.small j h)), to_z_pos w64 {n = get_or c j 0} (omega (arith, entries.small j))) refl

  term-within : (j : ℕ) → j ≤ 7 → Within (get_or c j 0 * size_max) (term c w j)
  term-within j h = within_mul (pos (get_or c j 0)) (coefficient w j) (within-natural (get_or c j 0)) (weights.small j h)

  pub term_fits : (j : ℕ) → j ≤ 7 → SFits w64 (term c w j)
  term_fits j h = within-fits w64 (term c w j) (lt_of_le_of_lt (mul-le-mul_right size_max (entries.small j)) (lit< tt)) (term-within j h)

  pub sum_fits : (m : ℕ) → m ≤ 7 → SFits w64 (sum m (term c w))
  sum_fits m h =
      let terms : m + 1 ≤ 8 = omega arith in
      within-fits w64 (sum m (term c w)) (lit< tt)
      (within-sum size_max (8 * water_unit) m (λ j. get_or c j 0) (term c w)
      (le_trans (shares-most water_unit m (λ j. get_or c j 0) (λ j k. entries.small j)) (mul-le-mul_right water_unit terms))
      (λ j k. term-within j (omega arith)))

  -- the sum with one term more
  pub machine_sum : (x : ℤ) (j : ℕ) → 1 ≤ j → j ≤ 7 → x ≡ sum (j - 1) (term c w) →
      x +ℤ to_z w64 (of_z w64 (to_z w64 (get_or c j 0) *ℤ to_z w64 (of_z w64 (coefficient w j)))) ≡ sum j (term c w)
  unfolding sum
  machine_sum x zero some h e = elim some [ ]
  machine_sum x (suc j) some h e =
      let before : suc j - 1 ≡ j = omega arith in
      rw (machine_term (suc j) h, to_z-of_z (term_fits (suc j) h), e, before) refl
