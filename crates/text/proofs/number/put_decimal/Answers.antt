-- Below 2^64 there are at most 20 digits.
use Rattle.std.proofs.Common.{ℕ, ◌≤◌, ◌<◌, ◌^◌, length, arith}
use Rattle.text.specs.Text.{decimal}
use Rattle.text.proofs.Digits.{decimal-length}
use Rattle.text.proofs.number.put_decimal.Goals as goal

short : (n : ℕ) → n < 2 ^ 64 → length (decimal n) ≤ 20
short n h = decimal-length 19 n (omega arith)

pub put_digits-requires : goal.put_digits-requires
put_digits-requires c = omega (arith, short c.args.n c.ranges.n.fits)

pub returns-clause-upper_bound : goal.returns-clause-upper_bound
returns-clause-upper_bound c = omega (arith, short c.args.n c.ranges.n.fits, c.put_digits.ensures.next)
