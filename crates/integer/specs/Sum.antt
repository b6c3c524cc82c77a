-- Finite sums of whole numbers.
use Rattle.std.specs.Prelude.{ℕ, zero, suc, ℤ, ◌+ℤ◌}

-- the sum of f j over j from 0 to m, both included
unfoldable pub sum : ℕ → (ℕ → ℤ) → ℤ
sum zero f = f zero
sum (suc m) f = sum m f +ℤ f (suc m)
