-- A coefficient of a sum as the machine forms it: on 64 bits each product and their sum fit; a sum that is not too great fits 32 bits.
use borrow.Author.Tests.{lt-leb, le-leb}
use mathlib.Core.Path.{◌≡◌, refl, sym, ◌∙◌, ap, ap₂, subst}
use Prim.Native.Nat.{◌+◌, ◌*◌, ◌^◌, ◌≤◌, ◌<◌}
use lib.Dec.{lit<}
use lib.IntN.{ℤ, pos, nat_abs, ◌+ℤ◌, ◌*ℤ◌}
use mir.Syntax.{w32, w64}
use mir.Val.{SFits, to_z, of_z}
use mir.Facts.{to_z-of_z}
use Rattle.integer.specs.Within.{Within}
use Rattle.integer.proofs.Within.{fits-within, wide_is, within-fits, within_more, within-add, within_mul, within-size, computed_is}
use Rattle.rounding.specs.Limits.{size_max, multiplier_max}
use Rattle.combination.specs.Machine.{limited}

-- a number of 32 bits, as it is held in 64
abbrev wide : ℤ → ℤ
wide z = to_z w64 (of_z w64 (to_z w32 (of_z w32 z)))

-- a multiplier times a coefficient
module _ (x y : ℤ) (multiplier : Within multiplier_max x) (fx : SFits w32 x) (fy : SFits w32 y) where
  product-within : Within (multiplier_max * 2 ^ 31) (x *ℤ y)
  product-within = within_mul x y multiplier (fits-within w32 y fy)

  product-fits : SFits w64 (x *ℤ y)
  product-fits = within-fits w64 (x *ℤ y) (lit< tt) product-within

  factors : wide x *ℤ wide y ≡ x *ℤ y
  factors = ap₂ (λ a b. a *ℤ b) (wide_is x fx) (wide_is y fy)

  product_is : to_z w64 (of_z w64 (wide x *ℤ wide y)) ≡ x *ℤ y
  product_is = computed_is factors product-fits

-- the sum as it is formed
abbrev formed : ℤ → ℤ → ℤ → ℤ → ℤ
formed α a β b = to_z w64 (of_z w64 (wide α *ℤ wide a)) +ℤ to_z w64 (of_z w64 (wide β *ℤ wide b))

module _ (α a β b : ℤ) (multiplier : Within multiplier_max α) (other_multiplier : Within multiplier_max β)
    (fα : SFits w32 α) (fa : SFits w32 a) (fβ : SFits w32 β) (fb : SFits w32 b) where
  abbrev sum : ℤ
  sum = α *ℤ a +ℤ β *ℤ b

  sum-within : Within (multiplier_max * 2 ^ 31 + multiplier_max * 2 ^ 31) sum
  sum-within = within-add _ _ (product-within α a multiplier fα fa) (product-within β b other_multiplier fβ fb)

  sum_fits : SFits w64 sum
  sum_fits = within-fits w64 sum (lit< tt) sum-within

  formed-is : formed α a β b ≡ sum
  formed-is = ap₂ (λ x y. x +ℤ y) (product_is α a multiplier fα fa) (product_is β b other_multiplier fβ fb)

  held-is : to_z w64 (of_z w64 (formed α a β b)) ≡ sum
  held-is = computed_is formed-is sum_fits

  pub formed_fits : SFits w64 (formed α a β b)
  formed_fits = subst (SFits w64) (sym formed-is) sum_fits

  -- what stands for it, by the size that is looked at
  pub great_is : size_max < nat_abs (to_z w64 (of_z w64 (formed α a β b))) → limited (α *ℤ a +ℤ β *ℤ b) ≡ pos (size_max + 1)
  great_is h = rw (lt-leb (nat_abs sum) size_max (rw held-is at h)) refl

  pub small_is : nat_abs (to_z w64 (of_z w64 (formed α a β b))) ≤ size_max →
      limited (α *ℤ a +ℤ β *ℤ b) ≡ to_z w32 (of_z w32 (to_z w64 (of_z w64 (formed α a β b))))
  small_is h =
      let small : nat_abs sum ≤ size_max = rw held-is at h in
      rw (le-leb (nat_abs sum) size_max small)
      (sym (ap (λ z. to_z w32 (of_z w32 z)) held-is ∙ to_z-of_z (within-fits w32 sum (lit< tt) (within_more small (within-size sum)))))

-- what the proof of `coefficient` goes by
pub ruleset coefficient_laws = (formed_fits, great_is, small_is)
