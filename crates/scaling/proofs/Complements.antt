-- A fraction a/d and its complement (d−a)/d, both prepared, as every fraction is.
use mathlib.Core.Path.{◌≡◌, refl, sym}
use Prim.Native.Nat.{ℕ, ◌-◌}
use native.Mathlib.Omega.{arith}
use lib.IntN.{ℤ}
use Rattle.rounding.specs.Scaling.{scaled_times}
use Rattle.scaling.specs.Machine.{Complements, Prepared}
use Rattle.scaling.specs.declared.fraction.Fraction.{Fraction}

-- by what the type keeps
pub prepared : (s : Fraction) → Prepared s
prepared s = record { divides = s.divides; proper = s.proper; quotient = s.quotient; below = s.below; biased = s.biased }

-- seen from the other end
pub exchanged : {s t : Fraction} → Complements s t → Complements t s
exchanged pair = record {
  prepared = pair.other;
  other = pair.prepared;
  divisor = sym pair.divisor;
  together = omega (arith, pair.together, pair.divisor);
}

pub numerator_is : {s t : Fraction} → Complements s t → t.a ≡ s.d - s.a
numerator_is pair = omega (arith, pair.together)

-- scaled by the complement is scaled by (d−a)/d
pub by_complement : {s t : Fraction} → Complements s t → (k : ℕ) (z : ℤ) → scaled_times k z t.a t.d ≡ scaled_times k z (s.d - s.a) s.d
by_complement {s} {t} pair k z = rw (numerator_is pair, pair.divisor) refl
