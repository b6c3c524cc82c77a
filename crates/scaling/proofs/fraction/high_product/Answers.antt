-- The columns of the product, of which the last sum fits: each column is of halves, of 32 bits.
use Prim.Native.Nat.{ℕ, ◌+◌, ◌*◌, ◌-◌, ◌/◌, ◌^◌, ◌≤◌}
use native.Mathlib.Nat.{mod-lt, mul-le-mul}
use native.Mathlib.Omega.{arith}
use lib.Bits.{bit_and, and_mask}
use lib.Dec.{lit<}
use mir.Syntax.{w64}
use mir.Val.{Fits}
use Rattle.integer.proofs.Product.{columns}
use Rattle.scaling.proofs.fraction.high_product.Goals as goal

-- a number of 32 bits
abbrev Half : ℕ → Type 0
Half x = x ≤ 2 ^ 32 - 1

lower : (x : ℕ) → Half (bit_and x 4294967295)
lower x = rw (and_mask x 32) (omega (arith, mod-lt x (lit< {n = 2 ^ 32} tt)))

upper : {x : ℕ} → Fits w64 x → Half (x / 2 ^ 32)
upper f = omega (arith, f.fits)

product : {x y : ℕ} → Half x → Half y → Fits w64 (x * y)
product h k = record { fits = omega (arith, mul-le-mul h k) }

column : {x y z : ℕ} → Half x → Half y → Half z → Fits w64 (x * y + z)
column h k l = record { fits = omega (arith, mul-le-mul h k, l) }

last : {x y z v : ℕ} → Half x → Half y → Half z → Half v → Fits w64 (x * y + z + v)
last h k l b = record { fits = omega (arith, mul-le-mul h k, l, b) }

-- the result first: it is what a wrong step fails to be
pub returns : goal.returns
returns c = rw (and_mask c.args.x 32, and_mask c.args.y 32, and_mask _ 32) (columns (2 ^ 32) c.args.x c.args.y (lit< tt))

pub overflow_add-result-2 : goal.overflow_add-result-2
overflow_add-result-2 c =
    let x1 = upper c.ranges.x in
    let x0 = lower c.args.x in
    let y1 = upper c.ranges.y in
    let y0 = lower c.args.y in
    let first = column x1 y0 (upper (product x0 y0)) in
    last x1 y1 (upper first) (upper (column x0 y1 (lower _)))
