-- Polynomials with whole coefficients: the list a_0, a_1, .. of the coefficients of the powers of s.
use Rattle.std.specs.Prelude.{List, [], ◌∷◌, ℕ, zero, suc, ◌*◌, ◌-◌, ◌^◌, ℤ, pos, ◌+ℤ◌, ◌*ℤ◌, get_or}

abbrev pub Polynomial : Type 0
Polynomial = List ℤ

infixl 6 ◌⊕◌
infixr 7 ◌⊙◌
infixl 8 ◌⊗◌
infixl 9 ◌↑◌
-- the sum
unfoldable pub ◌⊕◌ : Polynomial → Polynomial → Polynomial
[] ⊕ b = b
(x ∷ a) ⊕ [] = x ∷ a
(x ∷ a) ⊕ (y ∷ b) = (x +ℤ y) ∷ (a ⊕ b)

-- a whole multiple
unfoldable pub ◌⊙◌ : ℤ → Polynomial → Polynomial
c ⊙ [] = []
c ⊙ (x ∷ a) = (c *ℤ x) ∷ (c ⊙ a)

-- the product
unfoldable pub ◌⊗◌ : Polynomial → Polynomial → Polynomial
[] ⊗ b = []
(x ∷ a) ⊗ b = (x ⊙ b) ⊕ (pos 0 ∷ (a ⊗ b))

-- the power
unfoldable pub ◌↑◌ : Polynomial → ℕ → Polynomial
a ↑ zero = pos 1 ∷ []
a ↑ suc k = a ⊗ (a ↑ k)

-- the sum of the polynomials f j over j from 0 to m, both included
unfoldable pub sumₚ : ℕ → (ℕ → Polynomial) → Polynomial
sumₚ zero f = f zero
sumₚ (suc m) f = sumₚ m f ⊕ f (suc m)

-- a_i; 0 past the end of the list
abbrev pub coefficient : Polynomial → ℕ → ℤ
coefficient a i = get_or a i (pos 0)

-- the sum of a_i × φ i over the list
unfoldable pub dot : Polynomial → (ℕ → ℤ) → ℤ
dot [] φ = pos 0
dot (x ∷ a) φ = x *ℤ φ zero +ℤ dot a (λ i. φ (suc i))

-- the value at s = r/D, multiplied by D^N: the sum of a_i × r^i × D^(N−i)
unfoldable pub at : ℕ → ℕ → ℕ → Polynomial → ℤ
at r D N a = dot a (λ i. pos (r ^ i * D ^ (N - i)))

-- k a_0, (k+1) a_1, (k+2) a_2, ..
unfoldable pub counted : ℕ → Polynomial → Polynomial
counted k [] = []
counted k (x ∷ a) = (pos k *ℤ x) ∷ counted (suc k) a

-- the exact derivative: its coefficients are (i+1) × a_(i+1)
unfoldable pub derivative : Polynomial → Polynomial
derivative [] = []
derivative (x ∷ a) = counted 1 a
