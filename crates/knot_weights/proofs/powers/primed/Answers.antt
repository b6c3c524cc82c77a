-- The next number w' in 64 bits; w'_7 is 0.
use mathlib.Core.Path.{◌≡◌, refl, sym, ◌∙◌, ap}
use mathlib.Core.List.{List}
use Prim.Native.Nat.{ℕ, ◌+◌, ◌<◌}
use native.Mathlib.Omega.{arith}
use lib.Dec.{lit<}
use lib.IntN.{ℤ, pos, ◌*ℤ◌, *ℤ-zero}
use lib.ListN.{get_or-eq_default}
use mir.Syntax.{w64}
use mir.Val.{SFits, to_z, of_z}
use mir.Facts.{to_z-of_z, to_z_pos}
use Rattle.hermite.specs.Slope
use Rattle.integer.specs.Within.{Within}
use Rattle.integer.proofs.Within.{within-fits, computed_is}
use Rattle.hermite.specs.Polynomial.{coefficient}
use Rattle.rounding.specs.Limits.{size_max}
use Rattle.rounding.proofs.Bounds.{primed-within}
use Rattle.knot_weights.proofs.Lists.{replaced_more, replaced_lists}
use Rattle.knot_weights.proofs.powers.primed.Goals as goal

-- one turn
module _ (w : List ℤ) (j : ℕ) (below : j < 7) (small : Within size_max (coefficient w (j + 1))) where
  product_is : to_z w64 (j + 1) *ℤ to_z w64 (of_z w64 (coefficient w (j + 1))) ≡ Slope.primed (coefficient w) j
  unfolding Slope.primed
  product_is = rw (to_z-of_z (within-fits w64 (coefficient w (j + 1)) (lit< tt) small), to_z_pos w64 {n = j + 1} (omega arith)) refl

  weight-fits : SFits w64 (Slope.primed (coefficient w) j)
  weight-fits = within-fits w64 _ (lit< tt) (primed-within (coefficient w) j (omega arith) small)

pub loop-j-preserved : goal.loop-j-preserved
loop-j-preserved c =
    let w = c.args.w.now in
    let j = c.loop-j.j in
    let below : j < 7 = omega arith in
    let small = c.requires.small (j + 1) (omega arith) in
    replaced_more _ c.loop-j.invariant (omega arith) (computed_is (product_is w j below small) (weight-fits w j below small))

pub returns : goal.returns
unfolding Slope.primed
returns c = replaced_lists c.loop-j.invariant (λ j h b. sym
    (ap (λ x. pos (j + 1) *ℤ x) (get_or-eq_default c.args.w.now (pos 0) (omega (arith, c.requires.count))) ∙ *ℤ-zero (pos (j + 1))))
