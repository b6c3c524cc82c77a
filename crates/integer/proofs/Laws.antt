-- The laws of a commutative ring that `lib.IntN` leaves out: the product distributes over the sum and associates.
use mathlib.Core.Path.{◌≡◌, sym, ◌∙◌, ap, ap₂}
use Prim.Native.Nat.{zero, suc}
use lib.IntN.{ℤ, pos, negsuc, neg_ℤ, one, *ℤ-one, suc_ℤ, pred_ℤ, ◌+ℤ◌, ◌*ℤ◌, +ℤ_assoc, +ℤ_comm, +ℤ_idl, zero-*ℤ, *ℤ_comm, suc_ℤ-*ℤ, pred_ℤ-*ℤ, neg_ℤ-+ℤ}
use lib.IntN.{+ℤ_invr, +ℤ-neg_ℤ_cancel}

-- what holds at 0 and is kept by each step up and down holds everywhere
steps : (P : ℤ → Type 0) → P (pos zero) → ((m : ℤ) → P m → P (suc_ℤ m)) → ((m : ℤ) → P m → P (pred_ℤ m)) → (m : ℤ) → P m
steps P z s p (pos zero) = z
steps P z s p (pos (suc n)) = s (pos n) (steps P z s p (pos n))
steps P z s p (negsuc zero) = p (pos zero) z
steps P z s p (negsuc (suc n)) = p (negsuc n) (steps P z s p (negsuc n))

pub +ℤ-left_comm : (a b c : ℤ) → a +ℤ (b +ℤ c) ≡ b +ℤ (a +ℤ c)
+ℤ-left_comm a b c = sym (+ℤ_assoc a b c) ∙ ap (λ x. x +ℤ c) (+ℤ_comm a b) ∙ +ℤ_assoc b a c

pub +ℤ_interchange : (a b c d : ℤ) → (a +ℤ b) +ℤ (c +ℤ d) ≡ (a +ℤ c) +ℤ (b +ℤ d)
+ℤ_interchange a b c d = +ℤ_assoc a b (c +ℤ d) ∙ ap (λ x. a +ℤ x) (+ℤ-left_comm b c d) ∙ sym (+ℤ_assoc a c (b +ℤ d))

pub *ℤ_distrib : (m y z : ℤ) → m *ℤ (y +ℤ z) ≡ m *ℤ y +ℤ m *ℤ z
*ℤ_distrib m y z = steps (λ m. m *ℤ (y +ℤ z) ≡ m *ℤ y +ℤ m *ℤ z) (simp (zero-*ℤ, +ℤ_idl)) above below m
  where
    above : (m : ℤ) → m *ℤ (y +ℤ z) ≡ m *ℤ y +ℤ m *ℤ z → suc_ℤ m *ℤ (y +ℤ z) ≡ suc_ℤ m *ℤ y +ℤ suc_ℤ m *ℤ z
    above m h = rw (suc_ℤ-*ℤ m (y +ℤ z), suc_ℤ-*ℤ m y, suc_ℤ-*ℤ m z, h) (+ℤ_interchange (m *ℤ y) (m *ℤ z) y z)

    below : (m : ℤ) → m *ℤ (y +ℤ z) ≡ m *ℤ y +ℤ m *ℤ z → pred_ℤ m *ℤ (y +ℤ z) ≡ pred_ℤ m *ℤ y +ℤ pred_ℤ m *ℤ z
    below m h = rw (pred_ℤ-*ℤ m (y +ℤ z), pred_ℤ-*ℤ m y, pred_ℤ-*ℤ m z, h, neg_ℤ-+ℤ y z) (+ℤ_interchange (m *ℤ y) (m *ℤ z) (neg_ℤ y) (neg_ℤ z))

pub *ℤ_distrib_right : (y z m : ℤ) → (y +ℤ z) *ℤ m ≡ y *ℤ m +ℤ z *ℤ m
*ℤ_distrib_right y z m = *ℤ_comm (y +ℤ z) m ∙ *ℤ_distrib m y z ∙ ap₂ (λ a b. a +ℤ b) (*ℤ_comm m y) (*ℤ_comm m z)

-- a product's sign may be put on a factor: both are the solution x of x + y z = 0
pub neg-*ℤ : (y z : ℤ) → neg_ℤ y *ℤ z ≡ neg_ℤ (y *ℤ z)
neg-*ℤ y z = sym (+ℤ-neg_ℤ_cancel (neg_ℤ y *ℤ z) (y *ℤ z)) ∙ ap (λ x. x +ℤ neg_ℤ (y *ℤ z)) cancels ∙ +ℤ_idl (neg_ℤ (y *ℤ z))
  where
    cancels : neg_ℤ y *ℤ z +ℤ y *ℤ z ≡ pos zero
    cancels = +ℤ_comm (neg_ℤ y *ℤ z) (y *ℤ z) ∙ sym (*ℤ_distrib_right y (neg_ℤ y) z) ∙ ap (λ x. x *ℤ z) (+ℤ_invr y) ∙ zero-*ℤ z

pub *ℤ_assoc : (m y z : ℤ) → (m *ℤ y) *ℤ z ≡ m *ℤ (y *ℤ z)
*ℤ_assoc m y z = steps (λ m. (m *ℤ y) *ℤ z ≡ m *ℤ (y *ℤ z)) (simp zero-*ℤ) above below m
  where
    above : (m : ℤ) → (m *ℤ y) *ℤ z ≡ m *ℤ (y *ℤ z) → (suc_ℤ m *ℤ y) *ℤ z ≡ suc_ℤ m *ℤ (y *ℤ z)
    above m h = rw (suc_ℤ-*ℤ m y, suc_ℤ-*ℤ m (y *ℤ z), *ℤ_distrib_right (m *ℤ y) y z, h)

    below : (m : ℤ) → (m *ℤ y) *ℤ z ≡ m *ℤ (y *ℤ z) → (pred_ℤ m *ℤ y) *ℤ z ≡ pred_ℤ m *ℤ (y *ℤ z)
    below m h = rw (pred_ℤ-*ℤ m y, pred_ℤ-*ℤ m (y *ℤ z), *ℤ_distrib_right (m *ℤ y) (neg_ℤ y) z, h, neg-*ℤ y z)

pub *ℤ-left_comm : (x y z : ℤ) → x *ℤ (y *ℤ z) ≡ y *ℤ (x *ℤ z)
*ℤ-left_comm x y z = sym (*ℤ_assoc x y z) ∙ ap (λ u. u *ℤ z) (*ℤ_comm x y) ∙ *ℤ_assoc y x z

pub *ℤ_interchange : (a b c d : ℤ) → (a *ℤ b) *ℤ (c *ℤ d) ≡ (a *ℤ c) *ℤ (b *ℤ d)
*ℤ_interchange a b c d = *ℤ_assoc a b (c *ℤ d) ∙ ap (λ x. a *ℤ x) (*ℤ-left_comm b c d) ∙ sym (*ℤ_assoc a c (b *ℤ d))

pub one-*ℤ : (x : ℤ) → one *ℤ x ≡ x
one-*ℤ x = *ℤ_comm one x ∙ *ℤ-one x

-- ---- combinations α x + β y: multiplied from either side, and added

pub combination-times : (α β x y z : ℤ) → (α *ℤ x +ℤ β *ℤ y) *ℤ z ≡ α *ℤ (x *ℤ z) +ℤ β *ℤ (y *ℤ z)
combination-times α β x y z = *ℤ_distrib_right (α *ℤ x) (β *ℤ y) z ∙ ap₂ (λ a b. a +ℤ b) (*ℤ_assoc α x z) (*ℤ_assoc β y z)

pub times-combination : (z α β x y : ℤ) → z *ℤ (α *ℤ x +ℤ β *ℤ y) ≡ α *ℤ (z *ℤ x) +ℤ β *ℤ (z *ℤ y)
times-combination z α β x y = *ℤ_distrib z (α *ℤ x) (β *ℤ y) ∙ ap₂ (λ a b. a +ℤ b) (*ℤ-left_comm z α x) (*ℤ-left_comm z β y)

pub combinations_add : (α β a b c d : ℤ) → (α *ℤ a +ℤ β *ℤ b) +ℤ (α *ℤ c +ℤ β *ℤ d) ≡ α *ℤ (a +ℤ c) +ℤ β *ℤ (b +ℤ d)
combinations_add α β a b c d =
    +ℤ_interchange (α *ℤ a) (β *ℤ b) (α *ℤ c) (β *ℤ d) ∙ sym (ap₂ (λ x y. x +ℤ y) (*ℤ_distrib α a c) (*ℤ_distrib β b d))
