-- Division by a product: naturals divided by the reciprocal of a divisor, and the upper part of a product by its columns.
use mathlib.Core.Path.{◌≡◌, sym, ◌∙◌, ap, ap₂}
use Prim.Native.Nat.{ℕ, ◌+◌, ◌*◌, ◌/◌, ◌%◌, ◌≤◌, ◌<◌}
use native.Mathlib.Nat.{div-add-mod', mod-lt, mul-le-mul_left, mul-le-mul_right, lt_of_mul-lt-mul_right, div-eq_of_lt-le}
use native.Mathlib.Omega.{arith}

-- x / d by the reciprocal P / d + 1, in parts of P, where x is small beside P
pub by_reciprocal : (P d x : ℕ) → 0 < d → x * d < P → x * (P / d + 1) / P ≡ x / d
by_reciprocal P d x positive small = div-eq_of_lt-le P (at_least (P / d) (P % d) (x / d) (x % d) (div-add-mod' P d) (mod-lt P positive) (div-add-mod' x d))
    (lt_of_mul-lt-mul_right d (below_next (P / d) (P % d) (x / d) (x % d) (div-add-mod' P d) (div-add-mod' x d) (mod-lt x positive)))
  where
    at_least : (R e q s : ℕ) → R * d + e ≡ P → e < d → q * d + s ≡ x → q * P ≤ x * (R + 1)
    at_least R e q s f g k = rw (← f, ← k) (omega (arith, mul-le-mul_left q g))

    below_next : (R e q s : ℕ) → R * d + e ≡ P → q * d + s ≡ x → s < d → x * (R + 1) * d < (q + 1) * P * d
    below_next R e q s f k g = omega (arith, ap (λ y. x * y) f, mul-le-mul_right P g, ap (λ y. y * P) k)

-- the upper part of x × y in parts of P², from the four products of their parts, column by column
pub columns : (P x y : ℕ) → 0 < P → let first = x / P * (y % P) + x % P * (y % P) / P in
    x / P * (y / P) + first / P + (x % P * (y / P) + first % P) / P ≡ x * y / (P * P)
columns P x y positive =
    let first = x / P * (y % P) + x % P * (y % P) / P in
    let second = x % P * (y / P) + first % P in
    let all : x * y ≡ (x / P * (y / P) + first / P + second / P) * (P * P) + (second % P * P + x % P * (y % P) % P) =
    ap₂ (λ a b. a * b) (sym (div-add-mod' x P)) (sym (div-add-mod' y P)) ∙ added (x / P) (x % P) (y / P) (y % P) _ _ _ _ _ _
    (div-add-mod' (x % P * (y % P)) P) (div-add-mod' first P) (div-add-mod' second P) in
    let rest = below (second % P) (x % P * (y % P) % P) (mod-lt second positive) (mod-lt (x % P * (y % P)) positive) in
    sym (div-eq_of_lt-le (P * P) (omega (arith, all)) (omega (arith, all, rest)))
  where
    added : (x1 x0 y1 y0 l1 l0 f1 f0 s1 s0 : ℕ) → l1 * P + l0 ≡ x0 * y0 → f1 * P + f0 ≡ x1 * y0 + l1 → s1 * P + s0 ≡ x0 * y1 + f0 →
        (x1 * P + x0) * (y1 * P + y0) ≡ (x1 * y1 + f1 + s1) * (P * P) + (s0 * P + l0)
    added x1 x0 y1 y0 l1 l0 f1 f0 s1 s0 l f s = omega (arith, l, ap (λ z. z * P) f, ap (λ z. z * P) s)

    below : (s0 l0 : ℕ) → s0 < P → l0 < P → s0 * P + l0 < P * P
    below s0 l0 h k = omega (arith, mul-le-mul_right P h)
