-- The powers of −h.
use mathlib.Core.Path.{◌≡◌, ◌∙◌, ap}
use Prim.Native.Nat.{ℕ, ◌*◌, ◌≤◌}
use native.Mathlib.Omega.{arith}
use lib.Dec.{lit<}
use lib.IntN.{pos, negsuc, neg_ℤ, ◌*ℤ◌}
use mir.Syntax.{w64}
use mir.Val.{SFits, to_z}
use mir.Facts.{to_z_pos}
use Rattle.integer.specs.Within.{Within}
use Rattle.integer.proofs.Within.{within-natural, within_more, within-neg, within-fits, computed_is}
use Rattle.rounding.specs.Limits.{gap_max}
use Rattle.knot_weights.specs.Machine.{by_powers}
use Rattle.knot_weights.proofs.SignedPowers.{right-powers}
use Rattle.knot_weights.proofs.powers.right_weights.Goals as goal

module _ (h : ℕ) (low : h ≤ gap_max) where
  base_is : negsuc 0 *ℤ to_z w64 h ≡ neg_ℤ (pos h)
  base_is =
      let one_h : 1 * h ≡ h = omega arith in
      ap (λ z. negsuc 0 *ℤ z) (to_z_pos w64 {n = h} (omega arith)) ∙ ap (λ x. neg_ℤ (pos x)) one_h

  base-within : Within gap_max (neg_ℤ (pos h))
  base-within = within-neg (pos h) (within_more low (within-natural h))

  base-fits : SFits w64 (neg_ℤ (pos h))
  base-fits = within-fits w64 _ (lit< tt) base-within

pub returns : goal.returns
returns c = record {
  count = c.by_powers.ensures.count;
  entry = λ j h. c.by_powers.ensures.entry j h ∙
      ap (λ z. by_powers z c.args.c.now j) (computed_is (base_is c.args.h c.requires.0) (base-fits c.args.h c.requires.0)) ∙
      right-powers c.args.h c.args.c.now j;
}
