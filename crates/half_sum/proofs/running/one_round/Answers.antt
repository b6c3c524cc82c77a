-- The next running sum, which fits by the room that the array has.
use mathlib.Core.Path.{◌≡◌, refl, ◌∙◌, ap}
use mathlib.Core.List.{List}
use Prim.Native.Nat.{ℕ, ◌≤◌}
use native.Mathlib.Numerals.{add-one}
use native.Mathlib.Omega.{arith}
use lib.Dec.{lit<}
use lib.IntN.{ℤ, ◌+ℤ◌}
use mir.Syntax.{w64}
use mir.Val.{SFits, to_z, of_z}
use Rattle.integer.proofs.Within.{within-fits, computed_is}
use Rattle.hermite.specs.Polynomial.{coefficient}
use Rattle.hermite.specs.RunningSums.{rounds}
use Rattle.knot_weights.proofs.Lists.{Replaced, replaced_more}
use Rattle.half_sum.specs.Machine.{Room}
use Rattle.half_sum.proofs.RunningSums.{sum_below, sum_below-more, none_is}
use Rattle.half_sum.proofs.running.one_round.Goals as goal

module _ {w₀ : List ℤ} (room : Room 1 w₀) where
  entry-fits : (j : ℕ) → j ≤ 7 → SFits w64 (coefficient w₀ j)
  entry-fits j h = rw (← none_is (coefficient w₀) j) (within-fits w64 _ (lit< tt) (room.fits 0 j (omega arith) h))

  sum_fits : (j : ℕ) → j ≤ 7 → SFits w64 (rounds 1 (coefficient w₀) j)
  sum_fits j h = within-fits w64 _ (lit< tt) (room.fits 1 j (omega arith) h)

  -- at an entry
  sum_is : {w : List ℤ} {x : ℤ} (i : ℕ) → i ≤ 7 → x ≡ sum_below (coefficient w₀) i →
      Replaced w (coefficient w₀) (rounds 1 (coefficient w₀)) i → x +ℤ to_z w64 (of_z w64 (coefficient w i)) ≡ rounds 1 (coefficient w₀) i
  sum_is {x = x} i h is filled =
      ap (λ z. x +ℤ z) (computed_is (filled.left i (omega arith) h) (entry-fits i h)) ∙ ap (λ z. z +ℤ coefficient w₀ i) is ∙
      sum_below-more (coefficient w₀) i

pub loop-x-init : goal.loop-x-init
unfolding sum_below
loop-x-init c = record {
  sum_is = refl;
  filled = record { count = c.requires.count; done = λ j h. absurd (omega arith); left = λ j h k. refl };
}

pub overflow_add-sum : goal.overflow_add-sum
overflow_add-sum c =
    let i = c.loop-x.invariant in
    rw (sum_is c.requires c.loop-x.x-index (omega arith) i.sum_is i.filled) (sum_fits c.requires c.loop-x.x-index (omega arith))

pub loop-x-preserved : goal.loop-x-preserved
unfolding sum_below
loop-x-preserved c =
    let i = c.loop-x.invariant in
    let sum = computed_is (sum_is c.requires c.loop-x.x-index (omega arith) i.sum_is i.filled) (sum_fits c.requires c.loop-x.x-index (omega arith)) in
    record { sum_is = rw add-one sum; filled = replaced_more _ i.filled (omega arith) sum }
