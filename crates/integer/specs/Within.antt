-- Bounds on the size of a whole number, of either sign.
use Rattle.std.specs.Prelude.{ℕ, zero, suc, ◌≤◌, ℤ, pos, negsuc}

-- z as a difference of naturals: z is up z less dn z, and one of the two is 0
abbrev pub up : ℤ → ℕ
up (pos n) = n
up (negsuc n) = zero

abbrev pub dn : ℤ → ℕ
dn (pos n) = zero
dn (negsuc n) = suc n

-- z lies from −B to B
pub record Within (B : ℕ) (z : ℤ) : Type 0 where
  pub hi : up z ≤ B
  pub lo : dn z ≤ B
