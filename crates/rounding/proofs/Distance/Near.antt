-- Rounded numbers beside exact ones: an exact number Z/D^N and what k roundings to the nearest made of it differ by at most k/2.
use mathlib.Core.Path.{◌≡◌, refl}
use mathlib.Core.List.{[], ◌∷◌}
use Prim.Native.Nat.{ℕ, suc, ◌+◌, ◌*◌, ◌^◌, ◌≤◌}
use native.Mathlib.Nat.{pow-zero, pow-suc, le_refl, le_trans, mul-le-mul_left, mul-le-mul_right}
use native.Mathlib.Omega.{arith}
use lib.IntN.{ℤ, pos, neg_ℤ, nat_abs, one, ◌+ℤ◌, ◌-ℤ◌, ◌*ℤ◌, +ℤ_invr}
use Rattle.integer.proofs.Laws.{one-*ℤ}
use Rattle.integer.proofs.Ring.{lets, solve, terms}
use Rattle.integer.proofs.Within.{within-add, within-neg, within-size, size-within, size-times}
use Rattle.rounding.specs.Scaling.{Nearest}

-- twice the distance between Z and D^N × u is at most k × D^N
pub record Near (D N k : ℕ) (Z u : ℤ) : Type 0 where
  pub twice : 2 * nat_abs (Z -ℤ pos (D ^ N) *ℤ u) ≤ k * D ^ N

-- an exact number
pub near-exact : (D N : ℕ) (u : ℤ) → Near D N 0 (pos (D ^ N) *ℤ u) u
near-exact D N u = record { twice = rw (+ℤ_invr (pos (D ^ N) *ℤ u)) (omega arith) }

-- the same number otherwise written, and a wider bound
pub near_as : {D N N' k k' : ℕ} {Z Z' u : ℤ} → N ≡ N' → k ≤ k' → Z ≡ Z' → Near D N k Z u → Near D N' k' Z' u
near_as {D} {N} i h e near = rw (← i, ← e) (record { twice = le_trans near.twice (mul-le-mul_right (D ^ N) h) })

-- before the first rounding
pub near-start : (D : ℕ) (u : ℤ) → Near D 0 0 u u
unfolding one
near-start D u = near_as refl (le_refl 0) (rw pow-zero (one-*ℤ u)) (near-exact D 0 u)

-- the size of a sum
sum-most : (x y : ℤ) → nat_abs (x +ℤ y) ≤ nat_abs x + nat_abs y
sum-most x y = size-within _ (within-add x y (within-size x) (within-size y))

-- multiplied by a/D, and then changed by at most j/2
near_next : {D N k : ℕ} (j a : ℕ) {Z u v : ℤ} → a ≤ D → Near D N k Z u → 2 * nat_abs (u *ℤ pos a -ℤ v *ℤ pos D) ≤ j * D → Near D (suc N) (k + j) (pos a *ℤ Z) v
near_next {D} {N} {k} j a {Z} {u} {v} h near once = record {
  twice = rw (pow-suc, apart (pos a) Z (pos (D ^ N)) u (pos D) v) (bound (D ^ N) (Z -ℤ pos (D ^ N) *ℤ u) (u *ℤ pos a -ℤ v *ℤ pos D) near.twice once);
}
  where
    apart : (a Z d u D v : ℤ) → a *ℤ Z -ℤ (d *ℤ D) *ℤ v ≡ a *ℤ (Z -ℤ d *ℤ u) +ℤ d *ℤ (u *ℤ a -ℤ v *ℤ D)
    apart a Z d u D v = lets (a ∷ Z ∷ d ∷ u ∷ D ∷ v ∷ []) (λ ρ y. simp (y 0, y 1, y 2, y 3, y 4, y 5, terms) (solve ρ _ _ tt))

    bound : (d : ℕ) (x y : ℤ) → 2 * nat_abs x ≤ k * d → 2 * nat_abs y ≤ j * D → 2 * nat_abs (pos a *ℤ x +ℤ pos d *ℤ y) ≤ (k + j) * (d * D)
    bound d x y f g =
        omega (arith, sum-most (pos a *ℤ x) (pos d *ℤ y), size-times a x, size-times d y, mul-le-mul_left a f, mul-le-mul_right (k * d) h, mul-le-mul_left d g)

-- one more scaling
pub near-scaled : {D N k : ℕ} (a : ℕ) {Z u v : ℤ} → a ≤ D → Near D N k Z u → Nearest (u *ℤ pos a) D v → Near D (suc N) (k + 1) (pos a *ℤ Z) v
near-scaled a h near once = near_next 1 a h near (omega (arith, once.near))

-- y divided by h, where h × z is compared: both sides are multiplied by one more D
pub near-divided : {D N k h : ℕ} {Z y z : ℤ} → Near D N k Z y → Nearest y h z → Near D (suc N) (k + h) (pos D *ℤ Z) (pos h *ℤ z)
near-divided {D} {N} {k} {h} {Z} {y} {z} near once = near_next h D (le_refl D) near twice
  where
    apart : (y D h z : ℤ) → y *ℤ D -ℤ (h *ℤ z) *ℤ D ≡ D *ℤ (y -ℤ z *ℤ h)
    apart y D h z = lets (y ∷ D ∷ h ∷ z ∷ []) (λ ρ v. simp (v 0, v 1, v 2, v 3, terms) (solve ρ _ _ tt))

    twice : 2 * nat_abs (y *ℤ pos D -ℤ (pos h *ℤ z) *ℤ pos D) ≤ h * D
    twice = rw (apart y (pos D) (pos h) z, size-times D (y -ℤ z *ℤ pos h)) (omega (arith, mul-le-mul_left D once.near))

-- the sum of two
pub near-sum : {D N k j : ℕ} {Z Z' u u' : ℤ} → Near D N k Z u → Near D N j Z' u' → Near D N (k + j) (Z +ℤ Z') (u +ℤ u')
near-sum {D} {N} {Z = Z} {Z' = Z'} {u = u} {u' = u'} near near' = record {
  twice = rw (apart Z Z' (pos (D ^ N)) u u') (omega (arith, near.twice, near'.twice, sum-most (Z -ℤ pos (D ^ N) *ℤ u) (Z' -ℤ pos (D ^ N) *ℤ u')));
}
  where
    apart : (Z Z' d u u' : ℤ) → (Z +ℤ Z') -ℤ d *ℤ (u +ℤ u') ≡ (Z -ℤ d *ℤ u) +ℤ (Z' -ℤ d *ℤ u')
    apart Z Z' d u u' = lets (Z ∷ Z' ∷ d ∷ u ∷ u' ∷ []) (λ ρ y. simp (y 0, y 1, y 2, y 3, y 4, terms) (solve ρ _ _ tt))

-- the opposite
pub near-neg : {D N k : ℕ} {Z u : ℤ} → Near D N k Z u → Near D N k (neg_ℤ Z) (neg_ℤ u)
near-neg {D} {N} {Z = Z} {u = u} near = record {
  twice = rw (apart Z (pos (D ^ N)) u) (omega (arith, near.twice, size-within _ (within-neg _ (within-size (Z -ℤ pos (D ^ N) *ℤ u)))));
}
  where
    apart : (Z d u : ℤ) → neg_ℤ Z -ℤ d *ℤ neg_ℤ u ≡ neg_ℤ (Z -ℤ d *ℤ u)
    apart Z d u = lets (Z ∷ d ∷ u ∷ []) (λ ρ y. simp (y 0, y 1, y 2, terms) (solve ρ _ _ tt))
