-- The value at r/D, multiplied by D^N, of products and powers. No bound on the grades.
use mathlib.Core.Path.{◌≡◌, refl, sym, ◌∙◌, ap, ap₂}
use mathlib.Core.List.{[], ◌∷◌}
use Prim.Native.Nat.{ℕ, zero, suc, ◌+◌, ◌*◌, ◌-◌, ◌^◌, ◌≤◌, ◌<◌}
use native.Mathlib.Nat.{pow-suc, pow-succ', pow-zero, sub-zero, zero-add, suc-add}
use lib.Pow.{pow-add}
use native.Mathlib.Numerals.{one-add, unary_clauses}
use native.Mathlib.Omega.{arith}
use lib.IntN.{ℤ, pos, negsuc, ◌+ℤ◌, ◌*ℤ◌, +ℤ_idl, +ℤ_idr, zero-*ℤ, *ℤ-zero, *ℤ-one, one}
use lib.ListN.{length}
use Rattle.integer.proofs.Laws.{*ℤ-left_comm, *ℤ_distrib}
use Rattle.integer.proofs.Difference.{differences}
use Rattle.integer.proofs.Ring.{lets, solve, terms}
use Rattle.hermite.specs.Polynomial.{Polynomial, ◌⊙◌, ◌⊗◌, ◌↑◌, dot, at}
use Rattle.hermite.specs.Blend.{s, 1_s}
use Rattle.hermite.proofs.Linear.{Linear, dot-linear}
use Rattle.hermite.proofs.Length.{length-↑}

pub at_linear : (r D N : ℕ) → Linear (at r D N)
unfolding at
at_linear r D N = dot-linear (λ i. pos (r ^ i * D ^ (N - i)))

-- factors that agree within the list, up to a common factor
dot-scaled : (a : Polynomial) (x : ℤ) (φ ψ : ℕ → ℤ) → ((i : ℕ) → i < length a → φ i ≡ x *ℤ ψ i) → dot a φ ≡ x *ℤ dot a ψ
unfolding dot
dot-scaled [] x φ ψ h = sym (*ℤ-zero x)
dot-scaled (y ∷ a) x φ ψ h =
    ap₂ (λ u v. u +ℤ v) (ap (λ z. y *ℤ z) (h zero (omega arith)) ∙ *ℤ-left_comm y x (ψ zero)) (dot-scaled a x _ _ (λ i b. h (suc i) (omega arith))) ∙
    sym (*ℤ_distrib x (y *ℤ ψ zero) (dot a (λ i. ψ (suc i))))

-- the factors r^i × D^(N−i): the first, and each by the one before it
pub power-first : (r D N : ℕ) → r ^ 0 * D ^ (suc N - 0) ≡ D ^ suc N
power-first r D N = simp (pow-zero, sub-zero) (omega arith)

pub power-next : (r D N i : ℕ) → r ^ suc i * D ^ (suc N - suc i) ≡ r * (r ^ i * D ^ (N - i))
power-next r D N i = let e : suc N - suc i ≡ N - i = omega arith in rw (e, pow-suc) (omega arith)

-- multiplied by a higher power of D
pub at_raise : (r D k N : ℕ) (a : Polynomial) → length a ≤ suc N → at r D (k + N) a ≡ pos (D ^ k) *ℤ at r D N a
unfolding at
at_raise r D k N a h = dot-scaled a (pos (D ^ k)) _ _ (λ i b. ap pos (split i (omega arith)))
  where
    split : (i : ℕ) → i ≤ N → r ^ i * D ^ (k + N - i) ≡ D ^ k * (r ^ i * D ^ (N - i))
    split i b = let e : k + N - i ≡ k + (N - i) = omega arith in rw (e, pow-add) (omega arith)

pub at_none : (r D N : ℕ) → at r D N [] ≡ pos 0
unfolding at dot
at_none r D N = refl

at_constant : (r D : ℕ) (x : ℤ) → at r D 0 (x ∷ []) ≡ x
unfolding at dot one
at_constant r D x = let e : r ^ 0 * D ^ 0 ≡ 1 = simp unary_clauses in rw e (+ℤ_idr (x *ℤ pos 1) ∙ *ℤ-one x)

-- x + s a
at_cons : (r D N : ℕ) (x : ℤ) (a : Polynomial) → at r D (suc N) (x ∷ a) ≡ x *ℤ pos (D ^ suc N) +ℤ pos r *ℤ at r D N a
unfolding at dot
at_cons r D N x a = ap₂ (λ u v. x *ℤ pos u +ℤ v) (power-first r D N) (dot-scaled a (pos r) _ _ (λ i b. ap pos (power-next r D N i)))

at_shift : (r D N : ℕ) (a : Polynomial) → at r D (suc N) (pos 0 ∷ a) ≡ pos r *ℤ at r D N a
at_shift r D N a = at_cons r D N (pos 0) a ∙ ap (λ z. z +ℤ pos r *ℤ at r D N a) (zero-*ℤ (pos (D ^ suc N))) ∙ +ℤ_idl (pos r *ℤ at r D N a)

at_zero : (r D N : ℕ) → at r D N (pos 0 ∷ []) ≡ pos 0
unfolding at dot
at_zero r D N = +ℤ_idr (pos 0 *ℤ pos (r ^ 0 * D ^ (N - 0))) ∙ zero-*ℤ (pos (r ^ 0 * D ^ (N - 0)))

pub at_⊗ : (r D M N : ℕ) (a b : Polynomial) → length a ≤ suc M → length b ≤ suc N → at r D (M + N) (a ⊗ b) ≡ at r D M a *ℤ at r D N b
unfolding ◌⊗◌
at_⊗ r D M N [] b g h = at_none r D (M + N) ∙ sym (ap (λ z. z *ℤ at r D N b) (at_none r D M) ∙ zero-*ℤ (at r D N b))
at_⊗ r D zero N (x ∷ []) b g h =
    (at_linear r D (0 + N)).sums (x ⊙ b) (pos 0 ∷ []) ∙
    ap₂ (λ u v. u +ℤ v) ((at_linear r D (0 + N)).multiples x b) (at_zero r D (0 + N)) ∙
    rw (zero-add, at_constant r D x) (+ℤ_idr (x *ℤ at r D N b))
at_⊗ r D zero N (x ∷ y ∷ a) b g h = absurd (omega arith)
at_⊗ r D (suc M) N (x ∷ a) b g h =
    (at_linear r D (suc M + N)).sums (x ⊙ b) (pos 0 ∷ (a ⊗ b)) ∙
    ap₂ (λ u v. u +ℤ v) ((at_linear r D (suc M + N)).multiples x b ∙ ap (λ z. x *ℤ z) (at_raise r D (suc M) N b h))
    (rw suc-add (at_shift r D (M + N) (a ⊗ b) ∙ ap (λ z. pos r *ℤ z) (at_⊗ r D M N a b (omega arith) h))) ∙
    regroup x (pos (D ^ suc M)) (at r D N b) (pos r) (at r D M a) ∙
    ap (λ z. z *ℤ at r D N b) (sym (at_cons r D M x a))
  where
    regroup : (x d b r a : ℤ) → x *ℤ (d *ℤ b) +ℤ r *ℤ (a *ℤ b) ≡ (x *ℤ d +ℤ r *ℤ a) *ℤ b
    regroup x d b r a = lets (x ∷ d ∷ b ∷ r ∷ a ∷ []) (λ ρ v. simp (v 0, v 1, v 2, v 3, v 4, terms) (solve ρ _ _ tt))

-- ---- s and 1 − s, and the powers of a linear polynomial that comes to X

pub pow_one : (d : ℕ) → d ^ 1 ≡ d
pow_one d = pow-suc d 0 ∙ rw pow-zero (omega arith)

at_line : (r D : ℕ) (x y : ℤ) → at r D 1 (x ∷ y ∷ []) ≡ x *ℤ pos D +ℤ pos r *ℤ y
at_line r D x y = at_cons r D 0 x (y ∷ []) ∙ ap₂ (λ d z. x *ℤ pos d +ℤ pos r *ℤ z) (pow_one D) (at_constant r D y)

pub at_s : (r D : ℕ) → at r D 1 s ≡ pos r
at_s r D = at_line r D (pos 0) (pos 1) ∙ ap pos (omega arith)

pub at_1_s : (r D : ℕ) → r ≤ D → at r D 1 1_s ≡ pos (D - r)
at_1_s r D h = at_line r D (pos 1) (negsuc 0) ∙ simp differences (omega arith)

module _ (r D X : ℕ) (x y : ℤ) (e : at r D 1 (x ∷ y ∷ []) ≡ pos X) where
  pub at_↑ : (k : ℕ) → at r D k ((x ∷ y ∷ []) ↑ k) ≡ pos (X ^ k)
  unfolding ◌↑◌
  at_↑ zero = at_constant r D (pos 1) ∙ ap pos (sym (pow-zero X))
  at_↑ (suc k) =
      ap (λ N. at r D N ((x ∷ y ∷ []) ⊗ (x ∷ y ∷ []) ↑ k)) (sym (one-add k)) ∙
      at_⊗ r D 1 k (x ∷ y ∷ []) ((x ∷ y ∷ []) ↑ k) (omega arith) (omega (arith, length-↑ x y k)) ∙
      ap₂ (λ u v. u *ℤ v) e (at_↑ k) ∙ ap pos (sym (pow-succ' X k))
