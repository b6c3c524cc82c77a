-- Decimal digits: `decimal` unrolled, for a number of one digit and of more; and how many digits there are at most.
use borrow.Author.Tests.{lt-ltb, le-ltb, ltb-true}
use mathlib.Core.Bool.{true, false, true≢false, cond}
use mathlib.Core.List.{[], ◌∷◌, ◌++◌}
use mathlib.Core.Logic.{⊎_elim}
use mathlib.Core.Path.{◌≡◌, refl}
use Prim.Native.Nat.{ℕ, zero, suc, ◌+◌, ◌/◌, ◌%◌, ◌^◌, ◌<◌, ◌≤◌}
use native.Mathlib.Nat.{pow-suc, div-lt_iff_lt-mul, div-lt_self, zero-lt-suc, eq-zero-or-pos}
use native.Mathlib.Omega.{arith}
use lib.Dec.{ltb, lit<}
use lib.IntN.{ℤ, pos, negsuc, nat_abs}
use lib.ListN.{length, length-append}
use lib.Signed.{lt_z}
use mir.Syntax.{w64}
use mir.Val.{SFits}
use Rattle.text.specs.Text.{digits_by, decimal, signed_decimal}

fewer : (m f : ℕ) → 0 < m → m < suc f → m / 10 < f
fewer m f p h = omega (arith, div-lt_self {k = 10} p (lit< tt))

-- rounds that are enough give the same digits as any others that are
enough : (f g n : ℕ) → n / 10 < f → n / 10 < g → digits_by (suc f) n ≡ digits_by (suc g) n
enough zero g n h k = absurd (omega arith)
enough (suc f) zero n h k = absurd (omega arith)
enough (suc f) (suc g) n h k =
    ⊎_elim (λ e. rw (lt-ltb n 10 (omega arith)) refl)
    (λ p. rw (le-ltb n 10 (omega arith), enough f g (n / 10) (fewer (n / 10) f p h) (fewer (n / 10) g p k)) refl)
    (eq-zero-or-pos (n / 10))

pub unrolled : (n : ℕ) → decimal n ≡ cond (ltb n 10) ((48 + n) ∷ []) (decimal (n / 10) ++ ((48 + n % 10) ∷ []))
unfolding decimal
unrolled zero = refl
unrolled (suc n) = enough (suc n) (suc (suc n / 10)) (suc n) (div-lt_self (zero-lt-suc n) (lit< tt)) (omega arith)

pub one_digit : (n : ℕ) → n < 10 → decimal n ≡ (48 + n) ∷ []
one_digit n h = rw (unrolled n, lt-ltb n 10 h) refl

pub more_digits : (n : ℕ) → 10 ≤ n → decimal n ≡ decimal (n / 10) ++ ((48 + n % 10) ∷ [])
more_digits n h = rw (unrolled n, le-ltb n 10 h) refl

-- at most k + 1 digits below 10^(k + 1)
pub decimal-length : (k n : ℕ) → n < 10 ^ suc k → length (decimal n) ≤ suc k
decimal-length zero n h = rw (one_digit n h) (omega arith)
decimal-length (suc k) n h =
    ⊎_elim (λ e. rw (one_digit n (omega arith)) (omega arith))
    (λ p.
    rw (more_digits n (omega arith), length-append)
    (omega (arith, decimal-length k (n / 10) ((div-lt_iff_lt-mul (lit< tt)).1 (rw pow-suc at h)))))
    (eq-zero-or-pos (n / 10))

pub signed_below : (z : ℤ) → lt_z z (pos 0) ≡ true → signed_decimal z ≡ 45 ∷ decimal (nat_abs z)
signed_below (pos n) e = absurd (omega (arith, ltb-true n 0 e))
signed_below (negsuc n) e = refl

pub signed_from : (z : ℤ) → lt_z z (pos 0) ≡ false → signed_decimal z ≡ decimal (nat_abs z)
signed_from (pos n) e = refl
signed_from (negsuc n) e = absurd (true≢false e)

-- an i64 has at most 19 digits, and so 20 bytes with the sign
pub signed_length : (z : ℤ) → SFits w64 z → length (signed_decimal z) ≤ 20
signed_length (pos n) f = omega (arith, decimal-length 18 n (omega (arith, f.sfits)))
signed_length (negsuc n) f = omega (arith, decimal-length 18 (suc n) (omega (arith, f.sfits)))
