-- An i64 has at most 19 digits, so 20 places take the sign too.
use Rattle.std.proofs.Common.{◌≡◌, true, false, ℕ, ◌<◌, ◌≤◌, length, ℤ, pos, to_z, of_z, w64, ap, arith}
use Rattle.std.proofs.Math.ListN.{length-set}
use lib.IntN.{nat_abs}
use lib.Signed.{lt_z}
use mir.Facts.{to_z-of_z}
use mir.Val.{SFits}
use Rattle.text.specs.Text.{decimal}
use Rattle.text.proofs.Digits.{signed_length, signed_below, signed_from}
use Rattle.text.proofs.number.put_signed.Goals as goal

-- the magnitude that was answered, in digits, leaves room for a sign in front of it
below : (z : ℤ) (m : ℕ) → SFits w64 z → lt_z (to_z w64 (of_z w64 z)) (pos 0) ≡ true → m ≡ nat_abs (to_z w64 (of_z w64 z)) → length (decimal m) < 20
below z m f l e =
    let same = to_z-of_z {w = w64} f in
    let long = ap length (signed_below z (rw same at l)) in
    rw (e, same) (omega (arith, long, signed_length z f))

from : (z : ℤ) (m : ℕ) → SFits w64 z → lt_z (to_z w64 (of_z w64 z)) (pos 0) ≡ false → m ≡ nat_abs (to_z w64 (of_z w64 z)) → length (decimal m) ≤ 20
from z m f l e =
    let same = to_z-of_z {w = w64} f in
    let long = ap length (signed_from z (rw same at l)) in
    rw (e, same) (omega (arith, long, signed_length z f))

pub put_digits-requires : goal.put_digits-requires
put_digits-requires c =
    let short = below c.args.z c.magnitude.result c.ranges.z c.if-z-lt0.true c.magnitude.ensures in
    rw length-set (omega arith)

pub returns-then-z-lt0-clause-upper_bound : goal.returns-then-z-lt0-clause-upper_bound
returns-then-z-lt0-clause-upper_bound c =
    let short = below c.args.z c.magnitude.result c.ranges.z c.if-z-lt0.true c.magnitude.ensures in
    omega (arith, c.put_digits.ensures.next)

pub put_digits-requires-2 : goal.put_digits-requires-2
put_digits-requires-2 c =
    let short = from c.args.z c.magnitude-2.result c.ranges.z c.if-z-lt0.false c.magnitude-2.ensures in
    omega arith

pub returns-clause-upper_bound : goal.returns-clause-upper_bound
returns-clause-upper_bound c =
    let short = from c.args.z c.magnitude-2.result c.ranges.z c.if-z-lt0.false c.magnitude-2.ensures in
    omega (arith, c.put_digits-2.ensures.next)
