-- What each base comes to, multiplied out for all grades 0 to 7: the facts about formula (1) of source document 000 that are decided by computing.
use mathlib.Core.Path.{◌≡◌, refl}
use mathlib.Core.Bool.{cond}
use Prim.Native.Nat.{ℕ, ◌+◌, ◌≤◌}
use lib.Dec.{eqb}
use lib.IntN.{ℤ, pos, negsuc, ◌-ℤ◌, ◌*ℤ◌}
use Rattle.integer.proofs.Claim.{Claim, Holds, ◌≐◌, ◌&◌, upto, sound}
use Rattle.hermite.specs.Binomial.{binomial, sign}
use Rattle.hermite.specs.Polynomial.{Polynomial, ◌⊕◌, ◌⊙◌, ◌⊗◌, ◌↑◌, sumₚ, coefficient, dot, counted, derivative}
use Rattle.hermite.specs.Blend.{s, 1_s, of_order, taylor_left, taylor_right}
use Rattle.hermite.specs.Water.{integral, c}
use Rattle.hermite.specs.Slope.{kappa}
use Rattle.hermite.proofs.Linear.{base, lowered_base}

-- x where the two are equal, else 0
abbrev pub δ : ℤ → ℕ → ℕ → ℤ
δ x i j = cond (eqb i j) x (pos 0)

-- what a base comes to: its Taylor coefficients at the left and the right end, its integral, and in its derivative the sign of the part
-- of the lower grade and the factor of s^m (1 − s)^n
pub record Numbers : Type 0 where
  pub left : ℕ → ℤ
  pub right : ℕ → ℤ
  pub water : ℤ
  pub turn : ℤ
  pub factor : ℕ

abbrev pub of_left : ℕ → ℕ → ℕ → Numbers
of_left m n j = record { left = δ (pos 1) j; right = λ i. pos 0; water = pos (c m n j); turn = pos 1; factor = kappa m n j }

abbrev pub of_right : ℕ → ℕ → ℕ → Numbers
of_right m n j = record { left = λ i. pos 0; right = λ i. δ (sign i) j i; water = pos (c n m j); turn = negsuc 0; factor = kappa n m j }

-- that a base b, with the base l of its lower grade and e = s^m (1 − s)^n, comes to them
pub record Base (m n : ℕ) (b l e : Polynomial) (f : Numbers) : Type 0 where
  pub left : (i : ℕ) → i ≤ m → taylor_left i b ≡ f.left i
  pub right : (i : ℕ) → i ≤ n → taylor_right i b ≡ f.right i
  pub water : integral b ≡ f.water
  pub slope : (i : ℕ) → i ≤ m + n → coefficient (derivative b) i ≡ f.turn *ℤ (coefficient l i -ℤ pos f.factor *ℤ coefficient e i)

abbrev claim : ℕ → ℕ → Polynomial → Polynomial → Polynomial → Numbers → Claim
claim m n b l e f =
    upto m (λ i. taylor_left i b ≐ f.left i) &
    upto n (λ i. taylor_right i b ≐ f.right i) &
    integral b ≐ f.water &
    upto (m + n) (λ i. coefficient (derivative b) i ≐ f.turn *ℤ (coefficient l i -ℤ pos f.factor *ℤ coefficient e i))

named : (m n : ℕ) (b l e : Polynomial) (f : Numbers) → Holds (claim m n b l e f) → Base m n b l e f
named m n b l e f h = record { left = h.0; right = h.1.0; water = h.1.1.0; slope = h.1.1.1 }

all_left : (m : ℕ) → m ≤ 7 → (n : ℕ) → n ≤ 7 → (j : ℕ) → j ≤ m → Holds (claim m n (base s 1_s m n j) (lowered_base s 1_s m n j) (s ↑ m ⊗ 1_s ↑ n) (of_left m n j))
unfolding taylor_left taylor_right integral c derivative counted kappa lowered_base dot of_order sumₚ ◌⊕◌ ◌⊙◌ ◌⊗◌ ◌↑◌ binomial
all_left = sound (upto 7 (λ m. upto 7 (λ n. let e = s ↑ m ⊗ 1_s ↑ n in upto m (λ j.
    let b = base s 1_s m n j in let l = lowered_base s 1_s m n j in claim m n b l e (of_left m n j))))) refl

all_right : (m : ℕ) → m ≤ 7 → (n : ℕ) → n ≤ 7 → (j : ℕ) → j ≤ n →
    Holds (claim m n (base 1_s s n m j) (lowered_base 1_s s n m j) (s ↑ m ⊗ 1_s ↑ n) (of_right m n j))
unfolding taylor_left taylor_right integral c derivative counted kappa lowered_base dot of_order sumₚ ◌⊕◌ ◌⊙◌ ◌⊗◌ ◌↑◌ binomial sign
all_right = sound (upto 7 (λ m. upto 7 (λ n. let e = s ↑ m ⊗ 1_s ↑ n in upto n (λ j.
    let b = base 1_s s n m j in let l = lowered_base 1_s s n m j in claim m n b l e (of_right m n j))))) refl

module _ (m n : ℕ) (hm : m ≤ 7) (hn : n ≤ 7) (j : ℕ) where
  pub left-base : j ≤ m → Base m n (base s 1_s m n j) (lowered_base s 1_s m n j) (s ↑ m ⊗ 1_s ↑ n) (of_left m n j)
  left-base h = named m n (base s 1_s m n j) (lowered_base s 1_s m n j) (s ↑ m ⊗ 1_s ↑ n) (of_left m n j) (all_left m hm n hn j h)

  pub right-base : j ≤ n → Base m n (base 1_s s n m j) (lowered_base 1_s s n m j) (s ↑ m ⊗ 1_s ↑ n) (of_right m n j)
  right-base h = named m n (base 1_s s n m j) (lowered_base 1_s s n m j) (s ↑ m ⊗ 1_s ↑ n) (of_right m n j) (all_right m hm n hn j h)
