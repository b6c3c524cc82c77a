-- Floor division has the characterisation `Floor`, and nothing else has it. The floor of a product can be put together from its parts.
use mathlib.Core.Path.{◌≡◌, sym, ◌∙◌, ap}
use Prim.Native.Nat.{ℕ, suc, ◌+◌, ◌*◌, ◌-◌, ◌/◌, ◌%◌, ◌<◌}
use native.Mathlib.Nat.{div-add-mod', mod-lt, mul-le-mul_right}
use native.Mathlib.Omega.{arith}
use native.Mathlib.Decide.{dec_lt}
use lib.IntN.{ℤ, pos, negsuc, ◌+ℤ◌, ◌-ℤ◌, ◌*ℤ◌}
use lib.Signed.{shr_z}
use Rattle.integer.specs.Floor.{Floor}
use Rattle.integer.specs.Within.{up, dn}
use Rattle.integer.proofs.Difference.{as_⊖, minus_⊖, differences}

pub floor : (z : ℤ) (d : ℕ) → 0 < d → Floor z d (shr_z z d)
floor (pos n) d h = record { rest = n % d; small = omega (arith, mod-lt n h); whole = ap pos (sym (div-add-mod' n d)) }
floor (negsuc n) d h = record { rest = d - suc (n % d); small = omega arith; whole = simp differences (omega (arith, div-add-mod' n d, mod-lt n h)) }

-- a smaller quotient would leave a rest of d or more
not_below : (d A B r s : ℕ) → s < d → A < B → A * d + s ≡ B * d + r → ⊥
not_below d A B r s h k e = omega (arith, mul-le-mul_right d k)

one-quotient : (d A B r s : ℕ) → r < d → s < d → A * d + r ≡ B * d + s → A ≡ B
one-quotient d A B r s h k e = go (dec_lt A B) (dec_lt B A)
  where
    go : Dec (A < B) → Dec (B < A) → A ≡ B
    go (yes l) g = absurd (not_below d A B s r h l e)
    go (no l) (yes g) = absurd (not_below d B A r s k g (sym e))
    go (no l) (no g) = omega arith

pub one-floor : {z : ℤ} {d : ℕ} {q p : ℤ} → Floor z d q → Floor z d p → q ≡ p
one-floor {d = d} {q = q} {p = p} f g = go q p (sym f.whole ∙ g.whole)
  where
    go : (q p : ℤ) → q *ℤ pos d +ℤ pos f.rest ≡ p *ℤ pos d +ℤ pos g.rest → q ≡ p
    go q p = rw (as_⊖ q, as_⊖ p) (simp differences (λ e. one-quotient d (up q + dn p) (up p + dn q) f.rest g.rest (omega (arith, f.small))
        (omega (arith, g.small)) (omega arith)))

-- u × a + c divided by d, from u = high × P + low and a × P = whole × d + rest. What is left to divide is moved up by P × d, to a natural n; c is what
-- is added before the floor is taken
pub floor_of_product : (P a d c low whole rest bias n : ℕ) (u high : ℤ) → 0 < d → u ≡ high *ℤ pos P +ℤ pos low → whole * d + rest ≡ a * P → bias ≡ d * P + c →
    high *ℤ pos rest +ℤ pos (low * a + bias) ≡ pos n → Floor (u *ℤ pos a +ℤ pos c) d (high *ℤ pos whole +ℤ (pos (n / d) -ℤ pos P))
floor_of_product P a d c low whole rest bias n u high positive e f b g = record { rest = n % d; small = mod-lt n positive; whole = all high e g }
  where
    naturals : (H L q s : ℕ) → q * d + s ≡ n → H * rest + (low * a + bias) ≡ n + L * rest →
        H * P * a + low * a + c + (L * whole + P) * d ≡ (H * whole + q) * d + s + L * P * a
    naturals H L q s h k = omega (arith, h, k, b, ap (λ z. H * z) f, ap (λ z. L * z) f)

    all : (high : ℤ) → u ≡ high *ℤ pos P +ℤ pos low → high *ℤ pos rest +ℤ pos (low * a + bias) ≡ pos n →
        u *ℤ pos a +ℤ pos c ≡ (high *ℤ pos whole +ℤ (pos (n / d) -ℤ pos P)) *ℤ pos d +ℤ pos (n % d)
    all high e = rw (e, as_⊖ high, minus_⊖ (n / d) P)
        (simp differences (λ k. omega (arith, naturals (up high) (dn high) (n / d) (n % d) (div-add-mod' n d) (omega arith))))
