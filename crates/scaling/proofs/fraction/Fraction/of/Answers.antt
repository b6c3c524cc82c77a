-- whole and rest are quotient and rest of a × 2^32 by d.
use mathlib.Core.Path.{◌≡◌, ◌∙◌, ap}
use Prim.Native.Nat.{ℕ, ◌+◌, ◌*◌, ◌/◌, ◌%◌, ◌^◌, ◌≤◌, ◌<◌}
use native.Mathlib.Nat.{div-add-mod', mod-lt, mod-eq_of_lt, mul-le-mul}
use native.Mathlib.Omega.{arith}
use Rattle.integer.proofs.Product.{by_reciprocal}
use Rattle.scaling.specs.declared.fraction.Divisor.{Divisor}
use Rattle.scaling.proofs.fraction.Fraction.of.Goals as goal

-- a number up to 4,096, times 2^32
shifted : (x : ℕ) → x ≤ 4096 → x * 2 ^ 32 % 2 ^ 64 ≡ x * 2 ^ 32
shifted x h = mod-eq_of_lt (omega arith)

-- the quotient by the reciprocal, and what it leaves
module _ (a : ℕ) (s : Divisor) (proper : a ≤ s.d) (w : ℕ) (known : w ≡ (a * 2 ^ 32 % 2 ^ 64) * s.reciprocal / 2 ^ 64) where
  numerator_is : a * 2 ^ 32 % 2 ^ 64 ≡ a * 2 ^ 32
  numerator_is = shifted a (omega (arith, s.divides.at_most))

  whole_is : w ≡ a * 2 ^ 32 / s.d
  whole_is =
      let most : a ≤ 4096 = omega (arith, s.divides.at_most) in
      known ∙ quotient (mul-le-mul most s.divides.at_most)
    where
      quotient : a * s.d ≤ 4096 * 4096 → (a * 2 ^ 32 % 2 ^ 64) * s.reciprocal / 2 ^ 64 ≡ a * 2 ^ 32 / s.d
      quotient small = rw (numerator_is, s.divides.in_parts)
          (by_reciprocal (2 ^ 64) s.d (a * 2 ^ 32) s.divides.at_least (omega (arith, small)))

  whole-and-rest : w * s.d + a * 2 ^ 32 % s.d ≡ a * 2 ^ 32
  whole-and-rest = rw whole_is (div-add-mod' (a * 2 ^ 32) s.d)

  rest_below : a * 2 ^ 32 % s.d < s.d
  rest_below = mod-lt (a * 2 ^ 32) s.divides.at_least

  whole_below : w * s.d ≤ a * 2 ^ 32 % 2 ^ 64
  whole_below = omega (arith, numerator_is, whole-and-rest)

-- what the fraction keeps, first: it is what a wrong step fails to be
pub invariant_of-result : goal.invariant_of-result
invariant_of-result c =
    let s = c.args.divisor in
    let w = c.high_product-whole in
    let is = numerator_is c.args.a s c.requires w.result w.ensures in
    let parts = whole-and-rest c.args.a s c.requires w.result w.ensures in
    record {
      divides = s.divides;
      proper = c.requires;
      quotient = omega (arith, is, parts);
      below = omega (arith, is, parts, rest_below c.args.a s c.requires w.result w.ensures);
      biased = ap (λ x. x + s.d / 2) (shifted s.d s.divides.at_most);
    }

pub overflow_sub-result : goal.overflow_sub-result
overflow_sub-result c = whole_below c.args.a c.args.divisor c.requires c.high_product-whole.result c.high_product-whole.ensures
