-- Tool: facts that are decided by computing. A claim is an equation of whole numbers (≐) or of naturals (≗), two claims, or a claim
-- for each number from 0 to a bound; if its test passes, it holds.
use borrow.Author.Tests.{eqb-true}
use mathlib.Core.Path.{◌≡◌}
use mathlib.Core.Bool.{Bool, true, ◌&&◌}
use Prim.Native.Nat.{ℕ, zero, suc, ◌≤◌, ◌<◌}
use native.Mathlib.Decide.{ℕ_discrete}
use native.Mathlib.Omega.{arith}
use lib.Dec.{eqb}
use lib.IntN.{ℤ}
use Rattle.integer.specs.Tests.{equal}
use Rattle.integer.proofs.Tests.{both_first, both-second, equal→eq}

-- f 0, f 1, .. up to f (n − 1) are all true
abbrev each : ℕ → (ℕ → Bool) → Bool
each zero f = true
each (suc n) f = each n f && f n

each_at : (n : ℕ) (f : ℕ → Bool) → each n f ≡ true → (k : ℕ) → k < n → f k ≡ true
each_at zero f e k h = absurd (omega arith)
each_at (suc n) f e k h = go (ℕ_discrete k n) (each_at n f (both_first (each n f) (f n) e) k)
  where
    go : Dec (k ≡ n) → (k < n → f k ≡ true) → f k ≡ true
    go (yes q) ih = rw q (both-second (each n f) (f n) e)
    go (no q) ih = ih (omega arith)

infix 4 ◌≐◌ ◌≗◌
infixr 3 ◌&◌
pub data Claim : Type 0 where
  ◌≐◌ : ℤ → ℤ → Claim
  ◌≗◌ : ℕ → ℕ → Claim
  ◌&◌ : Claim → Claim → Claim
  upto : ℕ → (ℕ → Claim) → Claim

abbrev pub Holds : Claim → Type 0
Holds (x ≐ y) = x ≡ y
Holds (a ≗ b) = a ≡ b
Holds (c & d) = Holds c × Holds d
Holds (upto n f) = (k : ℕ) → k ≤ n → Holds (f k)

abbrev pub test : Claim → Bool
test (x ≐ y) = equal x y
test (a ≗ b) = eqb a b
test (c & d) = test c && test d
test (upto n f) = each (suc n) (λ k. test (f k))

pub sound : (c : Claim) → test c ≡ true → Holds c
sound (x ≐ y) e = equal→eq x y e
sound (a ≗ b) e = eqb-true a b e
sound (c & d) e = (sound c (both_first (test c) (test d) e), sound d (both-second (test c) (test d) e))
sound (upto n f) e = λ k h. sound (f k) (each_at (suc n) (λ k. test (f k)) e k (omega arith))
