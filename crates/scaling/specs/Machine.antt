-- A fraction in machine integers, prepared for scaling: document 01's a/D.
use Rattle.std.specs.Prelude.{◌≡◌, ◌+◌, ◌*◌, ◌/◌, ◌^◌, ◌≤◌, ◌<◌}
use Rattle.scaling.specs.Divides.{Divides}
use Rattle.scaling.specs.declared.fraction.Fraction.{Fraction}

-- what a prepared fraction holds: a/d from 0 to 1, the quotient and the rest of a × 2^32 by d, and the bias: d × 2^32,
-- and half of d more, so that rounding down gives the nearest; each `Fraction` keeps it, as its ghost fields
pub record Prepared (s : Fraction) : Type 0 where
  pub divides : Divides s.d s.reciprocal
  pub proper : s.a ≤ s.d
  pub quotient : s.whole * s.d + s.rest ≡ s.a * 2 ^ 32
  pub below : s.rest < s.d
  pub biased : s.bias ≡ s.d * 2 ^ 32 + s.d / 2

-- two prepared fractions of one divisor, a/d and (d−a)/d
pub record Complements (s t : Fraction) : Type 0 where
  pub prepared : Prepared s
  pub other : Prepared t
  pub divisor : t.d ≡ s.d
  pub together : s.a + t.a ≡ s.d
