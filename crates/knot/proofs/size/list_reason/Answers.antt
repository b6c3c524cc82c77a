-- The product that is looked at fits 64 bits and is C_j × h^j; it is too large where one of the two comparisons says so.
use borrow.Author.Count.{below_more}
use borrow.Author.Tests.{ltb-true, ltb-false}
use mathlib.Core.Bool.{true, false, true≢false}
use mathlib.Core.List.{List}
use mathlib.Core.Path.{◌≡◌, sym, ◌∙◌, ap, ap₂, subst}
use Prim.Native.Nat.{ℕ, ◌-◌, ◌*◌, ◌^◌, ◌≤◌, ◌<◌}
use native.Mathlib.Nat.{pow-suc, mul_comm, lt_of_le_of_lt, mul-le-mul}
use native.Mathlib.Numerals.{add-one}
use native.Mathlib.Omega.{arith}
use lib.Dec.{lit<}
use lib.IntN.{ℤ, pos, negsuc, nat_abs, ◌*ℤ◌}
use lib.ListN.{get_or}
use lib.Signed.{lt_z, mag}
use mir.Syntax.{w32, w64}
use mir.Val.{Fits, SFits, to_z, of_z}
use mir.Facts.{to_z-of_z}
use Rattle.integer.specs.Within.{Within}
use Rattle.integer.proofs.Within.{fits-within, wide_is, within-natural, within_more, within_mul, within-fits, computed_is, size-times}
use Rattle.rounding.specs.Limits.{gap_max, grade_max, size_max}
use Rattle.rounding.specs.Size.{product}
use Rattle.rounding.proofs.Bounds.{power_small}
use Rattle.scans.proofs.SizeRule.{sized_kept, order-found}
use Rattle.knot.proofs.size.list_reason.Goals as goal
use Rattle.knot.proofs.size.list_reason.Goals.{then-product-gt-MOST-via-then-product-gt-MOST}
use Rattle.knot.proofs.size.list_reason.Goals.{then-product-gt-MOST-via-else-product-gt-MOST+then-product-lt-LEAST}

-- ---- a number above the limit, below its opposite, and one that is neither

above : (z : ℤ) → lt_z (pos size_max) z ≡ true → size_max < nat_abs z
above (pos n) e = ltb-true size_max n e
above (negsuc n) e = absurd (true≢false (sym e))

below : (z : ℤ) → lt_z z (negsuc (size_max - 1)) ≡ true → size_max < nat_abs z
below (pos n) e = absurd (true≢false (sym e))
below (negsuc n) e = omega (arith, ltb-true (size_max - 1) n e)

neither : (z : ℤ) → lt_z (pos size_max) z ≡ false → lt_z z (negsuc (size_max - 1)) ≡ false → nat_abs z ≤ size_max
neither (pos n) p q = ltb-false size_max n p
neither (negsuc n) p q = omega (arith, ltb-false (size_max - 1) n q)

-- ---- the power p is h ^ j, and the coefficient of order j fits 32 bits

module _ (h j p : ℕ) (a : h ≤ gap_max) (b : j ≤ grade_max) (q : p ≡ h ^ j) where
  power-most : p ≤ 2 ^ 28
  power-most = rw q (power_small h j a b)

  power-within : Within (2 ^ 28) (pos p)
  power-within = within_more power-most (within-natural p)

  power-fits : SFits w64 (pos p)
  power-fits = within-fits w64 _ (lit< tt) power-within

  next-fits : Fits w64 (p * h)
  next-fits = record { fits = lt_of_le_of_lt (mul-le-mul power-most a) (lit< tt) }

  -- what the program forms of it
  module _ (C : List ℤ) (f : mag (get_or C j (pos 0)) < 2 ^ 31) where
    abbrev this : ℤ
    this = get_or C j (pos 0)

    abbrev formed : ℤ
    formed = to_z w64 p *ℤ to_z w64 (of_z w64 (to_z w32 (of_z w32 this)))

    fits : SFits w32 this
    fits = record { sfits = f }

    product-fits : SFits w64 (pos p *ℤ this)
    product-fits = within-fits w64 _ (lit< tt) (within_mul (pos p) this power-within (fits-within w32 this fits))

    factors : formed ≡ pos p *ℤ this
    factors = ap₂ (λ x y. x *ℤ y) (to_z-of_z power-fits) (wide_is this fits)

    formed-fits : SFits w64 formed
    formed-fits = subst (SFits w64) (sym factors) product-fits

    formed-is : to_z w64 (of_z w64 formed) ≡ pos p *ℤ this
    formed-is = computed_is factors product-fits

    size_is : nat_abs (pos p *ℤ this) ≡ product h C j
    size_is = size-times p this ∙ mul_comm p (nat_abs this) ∙ ap (λ n. nat_abs this * n) q

    found-above : lt_z (pos size_max) (to_z w64 (of_z w64 formed)) ≡ true → size_max < product h C j
    found-above e = rw (← size_is) (above (pos p *ℤ this) (rw formed-is at e))

    found-below : lt_z (to_z w64 (of_z w64 formed)) (negsuc (size_max - 1)) ≡ true → size_max < product h C j
    found-below e = rw (← size_is) (below (pos p *ℤ this) (rw formed-is at e))

    found-neither : lt_z (pos size_max) (to_z w64 (of_z w64 formed)) ≡ false →
        lt_z (to_z w64 (of_z w64 formed)) (negsuc (size_max - 1)) ≡ false → product h C j ≤ size_max
    found-neither e g = rw (← size_is) (neither (pos p *ℤ this) (rw formed-is at e) (rw formed-is at g))

-- ---- the goals

pub overflow_cast-product : goal.overflow_cast-product
overflow_cast-product c = power-fits c.args.h c.loop-j.j c.loop-j.power (omega arith) (omega arith) c.loop-j.invariant.power

pub overflow_mul-product : goal.overflow_mul-product
overflow_mul-product c =
    formed-fits c.args.h c.loop-j.j c.loop-j.power (omega arith) (omega arith) c.loop-j.invariant.power c.args.list.now (omega arith)

pub returns-then-product-gt-MOST : goal.returns-then-product-gt-MOST
returns-then-product-gt-MOST c =
    let C = c.args.list.now in
    let small : mag (get_or C c.loop-j.j (pos 0)) < 2 ^ 31 = omega arith in
    let order : c.loop-j.j ≤ grade_max = omega arith in
    let over : size_max < product c.args.h C c.loop-j.j =
    elim c.then-product-gt-MOST.branch [
      | then-product-gt-MOST-via-then-product-gt-MOST w ↦
          found-above c.args.h c.loop-j.j c.loop-j.power (omega arith) order c.loop-j.invariant.power C small w.if-product-gt-MOST.true
      | then-product-gt-MOST-via-else-product-gt-MOST+then-product-lt-LEAST w ↦
          found-below c.args.h c.loop-j.j c.loop-j.power (omega arith) order c.loop-j.invariant.power C small w.if-product-lt-LEAST.true
    ] in
    sym (order-found c.args.k c.args.h C c.loop-j.j c.loop-j-test.true c.loop-j.invariant.small over)

pub overflow_mul-power : goal.overflow_mul-power
overflow_mul-power c = next-fits c.args.h c.loop-j.j c.loop-j.power (omega arith) (omega arith) c.loop-j.invariant.power

pub loop-j-preserved : goal.loop-j-preserved
loop-j-preserved c = record {
  power = ap (λ n. n * c.args.h) c.loop-j.invariant.power ∙ sym (ap (λ n. c.args.h ^ n) (add-one c.loop-j.j) ∙ pow-suc c.args.h c.loop-j.j);
  small = below_more _ _ c.loop-j.invariant.small
      (found-neither c.args.h c.loop-j.j c.loop-j.power (omega arith) (omega arith) c.loop-j.invariant.power c.args.list.now (omega arith)
      c.if-product-gt-MOST.false c.if-product-lt-LEAST.false);
}

pub returns : goal.returns
returns c = sym (sized_kept c.args.k c.args.h c.args.list.now (λ j b. c.loop-j.invariant.small j (omega arith)))
