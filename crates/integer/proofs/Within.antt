-- Bounds of sums, products and negations, and that a number bounded below half of a width's power fits in that width.
use mathlib.Core.Path.{◌≡◌, refl, sym, ◌∙◌, ap, ap₂}
use Prim.Native.Nat.{ℕ, zero, suc, ◌+◌, ◌*◌, ◌^◌, ◌≤◌, ◌<◌, min}
use native.Mathlib.Nat.{mul-le-mul, mul-le-mul_right}
use native.Mathlib.Omega.{arith}
use lib.IntN.{ℤ, pos, negsuc, neg_ℤ, ◌+ℤ◌, ◌-ℤ◌, ◌*ℤ◌, nat_abs, +ℤ_idl}
use lib.Signed.{mag}
use mir.Syntax.{Width, w32, w64}
use mir.Val.{SFits, hbits, to_z, of_z}
use mir.Facts.{to_z-of_z, sfits_widen}
use Rattle.integer.specs.Sum.{sum}
use Rattle.integer.specs.Within.{up, dn, Within}
use Rattle.integer.proofs.Difference.{◌⊖◌, as_⊖, ⊖-≡, ⊖-+}

one-sign : (z : ℤ) → min (up z) (dn z) ≡ 0
one-sign (pos n) = omega arith
one-sign (negsuc n) = omega arith

-- a difference's parts, whatever naturals it is written by
parts : (z : ℤ) (a b : ℕ) → z ≡ a ⊖ b → up z + b ≡ a + dn z
parts z a b e = (⊖-≡ (up z) (dn z) a b).0 (sym (as_⊖ z) ∙ e)

add_parts : (x y : ℤ) → up (x +ℤ y) + (dn x + dn y) ≡ (up x + up y) + dn (x +ℤ y)
add_parts x y = parts (x +ℤ y) (up x + up y) (dn x + dn y) (ap₂ (λ a b. a +ℤ b) (as_⊖ x) (as_⊖ y) ∙ ⊖-+ (up x) (dn x) (up y) (dn y))

pub within_more : {A B : ℕ} {z : ℤ} → A ≤ B → Within A z → Within B z
within_more h w = record { hi = omega arith; lo = omega arith }

pub within-add : {A B : ℕ} (x y : ℤ) → Within A x → Within B y → Within (A + B) (x +ℤ y)
within-add x y v w = record { hi = omega (arith, add_parts x y, one-sign (x +ℤ y)); lo = omega (arith, add_parts x y, one-sign (x +ℤ y)) }

pub within-neg : {B : ℕ} (z : ℤ) → Within B z → Within B (neg_ℤ z)
within-neg (pos zero) w = w
within-neg (pos (suc n)) w = record { hi = omega arith; lo = w.hi }
within-neg (negsuc n) w = record { hi = w.lo; lo = omega arith }

-- as a program writes it
pub within_opposite : {B : ℕ} (z : ℤ) → Within B z → Within B (pos 0 -ℤ z)
within_opposite z w = rw (+ℤ_idl (neg_ℤ z)) (within-neg z w)

within-product : {A B : ℕ} (a b : ℕ) → a ≤ A → b ≤ B → Within (A * B) (pos (a * b))
within-product a b h k = record { hi = mul-le-mul h k; lo = omega arith }

pub within_mul : {A B : ℕ} (x y : ℤ) → Within A x → Within B y → Within (A * B) (x *ℤ y)
within_mul (pos a) (pos b) v w = within-product a b v.hi w.hi
within_mul (pos a) (negsuc b) v w = within-neg (pos (a * suc b)) (within-product a (suc b) v.hi w.lo)
within_mul (negsuc a) (pos b) v w = within-neg (pos (suc a * b)) (within-product (suc a) b v.lo w.hi)
within_mul (negsuc a) (negsuc b) v w = within-product (suc a) (suc b) v.lo w.lo

pub within-fits : {B : ℕ} (w : Width) (z : ℤ) → B < 2 ^ hbits w → Within B z → SFits w z
within-fits w (pos n) h v = record { sfits = omega (arith, v.hi) }
within-fits w (negsuc n) h v = record { sfits = omega (arith, v.lo) }

-- and what fits in a width is bounded by it
pub fits-within : (w : Width) (z : ℤ) → SFits w z → Within (2 ^ hbits w) z
fits-within w (pos n) f = record { hi = omega (arith, f.sfits); lo = omega arith }
fits-within w (negsuc n) f = record { hi = omega arith; lo = f.sfits }

-- a number of 32 bits, as it is held in 64
pub wide_is : (z : ℤ) → SFits w32 z → to_z w64 (of_z w64 (to_z w32 (of_z w32 z))) ≡ z
wide_is z f = ap (λ y. to_z w64 (of_z w64 y)) (to_z-of_z {w = w32} f) ∙ to_z-of_z {w = w64} (sfits_widen {w = w32} {w' = w64} (tt {0}) f)

-- what is computed, as it is held in 64 bits
pub computed_is : {z y : ℤ} → z ≡ y → SFits w64 y → to_z w64 (of_z w64 z) ≡ y
computed_is e f = ap (λ z. to_z w64 (of_z w64 z)) e ∙ to_z-of_z {w = w64} f

-- and the result of a call
pub result_is : (z : ℤ) → mag z < 2 ^ 63 → to_z w64 (of_z w64 z) ≡ z
result_is z h = to_z-of_z {w = w64} (record { sfits = h })

pub within-natural : (n : ℕ) → Within n (pos n)
within-natural n = record { hi = omega arith; lo = omega arith }

pub within-size : (z : ℤ) → Within (nat_abs z) z
within-size (pos n) = within-natural n
within-size (negsuc n) = record { hi = omega arith; lo = omega arith }

pub size-within : {B : ℕ} (z : ℤ) → Within B z → nat_abs z ≤ B
size-within (pos n) w = w.hi
size-within (negsuc n) w = w.lo

opposite_size : (n : ℕ) → nat_abs (neg_ℤ (pos n)) ≡ n
opposite_size zero = refl
opposite_size (suc n) = refl

pub size-times : (n : ℕ) (z : ℤ) → nat_abs (pos n *ℤ z) ≡ n * nat_abs z
size-times n (pos k) = refl
size-times n (negsuc k) = opposite_size (n * suc k)

-- a sum of terms, each bounded by its share of B
unfoldable pub shares : ℕ → (ℕ → ℕ) → ℕ
shares zero b = b zero
shares (suc m) b = shares m b + b (suc m)

pub within-sum : (B t m : ℕ) (b : ℕ → ℕ) (f : ℕ → ℤ) → shares m b ≤ t → ((j : ℕ) → j ≤ m → Within (b j * B) (f j)) → Within (t * B) (sum m f)
unfolding shares sum
within-sum B t m b f most = λ h. within_more (mul-le-mul_right B most) (shared m h)
  where
    shared : (m : ℕ) → ((j : ℕ) → j ≤ m → Within (b j * B) (f j)) → Within (shares m b * B) (sum m f)
    shared zero h = h zero (omega arith)
    shared (suc m) h = within_more (omega arith) (within-add (sum m f) (f (suc m)) (shared m (λ j k. h j (omega arith))) (h (suc m) (omega arith)))

pub shares-most : (e m : ℕ) (b : ℕ → ℕ) → ((j : ℕ) → j ≤ m → b j ≤ e) → shares m b ≤ (m + 1) * e
unfolding shares
shares-most e zero b h = omega (arith, h zero (omega arith))
shares-most e (suc m) b h = omega (arith, shares-most e m b (λ j k. h j (omega arith)), h (suc m) (omega arith))
